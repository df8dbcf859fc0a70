-- What stays so with each operation and each commit, and where an operation breaks off.
use Rattle.std.proofs.Common.{◌≡◌, ℕ, ◌+◌, ◌≤◌, List, [], ◌∷◌, ◌++◌, length, refl, sym, ap, ◌∙◌, arith, subst, inl, inr, Some}
use Rattle.std.proofs.lemmas.List.{append-nil, append_assoc}
use Rattle.std.proofs.lemmas.List.Elements.{All-nil}
use Rattle.spe_model.specs.Content.{Content}
use Rattle.spe_model.specs.Recovery.{journal_of}
use Rattle.spe_model.specs.Rollback.{cut_of}
use Rattle.spe_model.specs.Trace.{History, IsCut, IsTorn, Operation, present}
use Rattle.spe_model.specs.Trace.Operation.{Write, Cut}
use Rattle.spe_crash.proofs.TraceLemmas.{cut_whole, torn_covered}
use Rattle.spe_transactions.specs.Commits.{Commit, commits_within, laid_by, pages_after}
use Rattle.spe_transactions.specs.Growth.{CanCommit, CutsMeet, OpeningKept, Saying, SayingChanges}
use Rattle.spe_transactions.specs.Kept.{HasStopped, StopsKept, WorkKept, ended_by, grown}
use Rattle.spe_transactions.specs.Made.{Makes}
use Rattle.spe_transactions.specs.Pages.{laid_pages}
use Rattle.spe_transactions.specs.Steps.{EndsBare}
use Rattle.spe_transactions.specs.Work.{AtWork, Works, without_id}
use Rattle.spe_transactions.proofs.CommitsLemmas.{after_commit, few}
use Rattle.spe_transactions.proofs.CutsLemmas.{cuts_stop, one_cut, stop_cut}
use Rattle.spe_transactions.proofs.CutWorkLemmas.{bare_ends, commit_works}
use Rattle.spe_transactions.proofs.KeptLemmas.{bare_kept, commit_kept, more_kept, now_is}
use Rattle.spe_transactions.proofs.OpeningLemmas.{opening_works}

pub opening_kept : (Meets : Saying) → OpeningKept Meets
opening_kept Meets opening h o first = record {
  stops = record {
    ended = All-nil (λ (c : Commit). c.ops ≤ length h.trace);
    cuts = λ whole cut s. o.cuts cut (stop_cut h.trace whole cut s);
    covered = o.covered;
    meets = record { each = λ n low. let small : n ≤ 0 = low in let none : n ≡ 0 = omega arith in subst (λ (i : ℕ). Meets i (pages_after opening [] i)) (sym none) first };
  };
  work = opening_works (present h) opening o.files (o.cuts h.trace (cut_whole h.trace)) o.quiet;
}

-- what is torn of a torn operation is torn of it
torn_twice : (o part less : Operation) → IsTorn o part → IsTorn part less → IsTorn o less
torn_twice (Write file at bytes) (Write other place front) (Write third here start) a b =
    (a.0 ∙ b.0, a.1 ∙ b.1, (b.2.0 ++ a.2.0, a.2.1 ∙ ap (λ (xs : List ℕ). xs ++ a.2.0) b.2.1 ∙ append_assoc start b.2.0 a.2.0))
torn_twice (Write file at bytes) (Write other place front) (Cut third size) a b = absurd b
torn_twice (Write file at bytes) (Cut other size) less a b = absurd a
torn_twice (Cut file size) part less a b = absurd a

module _ (Meets : Saying) (opening : List (List ℕ)) (h : History) (commits : List Commit) (journalled written : Works) (k : WorkKept Meets opening h commits journalled written) where
  abbrev now : List (List ℕ)
  now = laid_by opening commits

  -- nothing was made
  same_kept : StopsKept Meets opening (grown h []) commits
  same_kept =
      subst (λ (os : List Operation). StopsKept Meets opening (record { first = h.first; trace = os }) commits) (sym (append-nil h.trace))
      (record { ended = k.stops.ended; cuts = k.stops.cuts; covered = k.stops.covered; meets = k.stops.meets })

  made_kept : (o : Operation) (j w : Works) → Makes (present h) o now now j w → StopsKept Meets opening (grown h (o ∷ [])) commits
  made_kept o j w m = more_kept Meets opening h commits k.stops o m.covered m.made.recovers m.torn

  pub step_kept : (o : Operation) (j w : Works) → Makes (present h) o now now j w → WorkKept Meets opening (grown h (o ∷ [])) commits j w
  step_kept o j w m = record {
    stops = made_kept o j w m;
    work = subst (λ (c : Content). AtWork c now j w) (sym (now_is Meets opening h commits k.stops o)) m.made;
  }

  pub stop_kept : (o : Operation) (left : List Operation) (j w : Works) → Makes (present h) o now now j w → IsCut (o ∷ []) left → StopsKept Meets opening (grown h left) commits
  stop_kept o left j w m is =
      one_cut o left (λ os. StopsKept Meets opening (grown h os) commits) same_kept (made_kept o j w m)
      (λ part torn.
      more_kept Meets opening h commits k.stops part (torn_covered (present h) o part m.covered torn) (m.torn part torn)
      (λ less shorter. m.torn less (torn_twice o part less torn shorter)))
      is

  module _ (id : ℕ) (c : CanCommit Meets opening h commits written id) where
    makes : Makes (present h) (cut_of id) now (laid_pages now (written id)) (without_id id journalled) (without_id id written)
    makes = commit_works (present h) now journalled written k.work id c.low c.may

    ended_kept : StopsKept Meets opening (grown h (cut_of id ∷ [])) (commits ++ ended_by written id (length h.trace + 1) ∷ [])
    ended_kept =
        commit_kept Meets opening h commits k.stops (cut_of id) (ended_by written id (length h.trace + 1)) makes.covered refl (λ part torn. absurd torn) makes.made.recovers c.meets

    pub end_kept : WorkKept Meets opening (grown h (cut_of id ∷ [])) (commits ++ ended_by written id (length h.trace + 1) ∷ []) (without_id id journalled) (without_id id written)
    end_kept = record {
      stops = ended_kept;
      work =
          subst (λ (pages : List (List ℕ)). AtWork (present (grown h (cut_of id ∷ []))) pages (without_id id journalled) (without_id id written))
          (sym (after_commit opening commits (ended_by written id (length h.trace + 1))).1)
          (subst (λ (content : Content). AtWork content (laid_pages now (written id)) (without_id id journalled) (without_id id written)) (sym (now_is Meets opening h commits k.stops (cut_of id))) makes.made);
    }

    pub end_stop_kept : (left : List Operation) → IsCut (cut_of id ∷ []) left → HasStopped Meets opening (grown h left) commits (Some (ended_by written id (length h.trace + 1)))
    end_stop_kept left is =
        one_cut (cut_of id) left (λ os. HasStopped Meets opening (grown h os) commits (Some (ended_by written id (length h.trace + 1)))) (inl same_kept) (inr ended_kept)
        (λ part torn. absurd torn)
        is

    pub bare_end_kept : journal_of (present h) id ≡ [] → WorkKept Meets opening h (commits ++ ended_by written id (length h.trace) ∷ []) (without_id id journalled) (without_id id written)
    bare_end_kept none =
        let b : EndsBare (present h) now journalled written id = bare_ends (present h) now journalled written k.work id c.low none in
        let same : laid_pages now (written id) ≡ now = b.laid c.may in
        record {
          stops = bare_kept Meets opening h commits k.stops (ended_by written id (length h.trace)) refl same c.meets;
          work =
              subst (λ (pages : List (List ℕ)). AtWork (present h) pages (without_id id journalled) (without_id id written))
              (sym ((after_commit opening commits (ended_by written id (length h.trace))).1 ∙ same)) b.work;
        }

pub cuts_meet : (Meets : Saying) → CutsMeet Meets
cuts_meet Meets opening h commits cut k is =
    let s = cuts_stop h.trace cut is in
    record { whole = s.0; stops = s.1; recovers = k.cuts s.0 cut s.1; meets = k.meets.each (commits_within commits s.0) (few commits s.0) }

pub saying_changes : (Meets Others : Saying) → SayingChanges Meets Others
saying_changes Meets Others opening h commits k change = record {
  ended = k.ended;
  cuts = k.cuts;
  covered = k.covered;
  meets = record { each = λ n low. change n low (pages_after opening commits n) (k.meets.each n low) };
}
