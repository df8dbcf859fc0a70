-- Files since the opening, with one operation or one commit more.
use Rattle.std.proofs.Common.{◌≡◌, ℕ, ◌+◌, ◌<◌, ◌≤◌, List, [], ◌∷◌, ◌++◌, length, sym, ap, ◌∙◌, arith, subst}
use Rattle.std.proofs.lemmas.List.{length-append}
use Rattle.std.proofs.lemmas.Bool.{cases_lt}
use Rattle.std.proofs.Common.{⊎_elim}
use Rattle.spe_model.specs.Content.{Content}
use Rattle.spe_model.specs.Covered.{Covered, IsCovered, Recovers}
use Rattle.spe_model.specs.Recovery.{recovered}
use Rattle.spe_model.specs.Trace.{History, IsTorn, Operation, after, made_by, present}
use Rattle.spe_crash.proofs.TraceLemmas.{after-append}
use Rattle.spe_transactions.specs.Commits.{Commit, commits_within, laid_by, pages_after}
use Rattle.spe_transactions.specs.Growth.{Saying}
use Rattle.spe_transactions.specs.Kept.{StopsKept, grown}
use Rattle.spe_transactions.specs.Pages.{laid_pages}
use Rattle.spe_transactions.proofs.CommitsLemmas.{after_all, after_front, after_last, all_within, few, longer, meets_more, one_later, one_more}
use Rattle.spe_transactions.proofs.CutsLemmas.{Before, Ends, InLast, Whole, ends}

pub covered_more : (content : Content) (trace : List Operation) (o : Operation) → Covered content trace → IsCovered (after content trace) o → Covered content (trace ++ o ∷ [])
covered_more content [] o covered one = (one, tt)
covered_more content (x ∷ xs) o covered one = (covered.0, covered_more (made_by x content) xs o covered.1 one)

module _ (Meets : Saying) (opening : List (List ℕ)) (h : History) (commits : List Commit) (k : StopsKept Meets opening h commits) where
  pub now_is : (o : Operation) → present (grown h (o ∷ [])) ≡ made_by o (present h)
  now_is o = after-append h.first h.trace (o ∷ [])

  all_by : (whole : ℕ) → length h.trace ≤ whole → pages_after opening commits (commits_within commits whole) ≡ laid_by opening commits
  all_by whole high = ap (pages_after opening commits) (all_within commits whole (longer commits (length h.trace) whole high k.ended)) ∙ after_all opening commits

  -- what a cut leaves whose last operation is this
  last_leaves : (o : Operation) (cut : List Operation) (pages : List (List ℕ)) → cut ≡ h.trace ++ o ∷ [] → Recovers (made_by o (present h)) pages → Recovers (after h.first cut) pages
  last_leaves o cut pages is recovers = ap (λ (os : List Operation). recovered (after h.first os)) is ∙ ap recovered (now_is o) ∙ recovers

  -- one operation more, which ends no commit
  module _ (o : Operation) (covered : IsCovered (present h) o) (made : Recovers (made_by o (present h)) (laid_by opening commits))
      (torn : (part : Operation) → IsTorn o part → Recovers (made_by part (present h)) (laid_by opening commits)) where
    more_at : (whole : ℕ) (cut : List Operation) → Ends h.trace o whole cut → Recovers (after h.first cut) (pages_after opening commits (commits_within commits whole))
    more_at whole cut (Before s) = k.cuts whole cut s
    more_at whole cut (InLast part is_torn at is) =
        subst (Recovers (after h.first cut)) (sym (all_by whole (omega arith))) (last_leaves part cut (laid_by opening commits) is (torn part is_torn))
    more_at whole cut (Whole at is) =
        subst (Recovers (after h.first cut)) (sym (all_by whole (omega arith))) (last_leaves o cut (laid_by opening commits) is made)

    pub more_kept : StopsKept Meets opening (grown h (o ∷ [])) commits
    more_kept = record {
      ended = longer commits (length h.trace) (length (h.trace ++ o ∷ [])) (omega (arith, length-append h.trace (o ∷ []))) k.ended;
      cuts = λ whole cut s. more_at whole cut (ends h.trace o whole cut s);
      covered = covered_more h.first h.trace o k.covered covered;
      meets = k.meets;
    }

  -- one operation more, which ends a commit and can't be torn
  module _ (o : Operation) (last : Commit) (covered : IsCovered (present h) o) (by_now : last.ops ≡ length h.trace + 1) (one : (part : Operation) → IsTorn o part → ⊥)
      (made : Recovers (made_by o (present h)) (laid_pages (laid_by opening commits) last.wrote))
      (new : Meets (length commits + 1) (laid_pages (laid_by opening commits) last.wrote)) where
    all_commits : (whole : ℕ) → length h.trace + 1 ≤ whole → pages_after opening (commits ++ last ∷ []) (commits_within (commits ++ last ∷ []) whole) ≡ laid_pages (laid_by opening commits) last.wrote
    all_commits whole high =
        ap (pages_after opening (commits ++ last ∷ [])) (all_within (commits ++ last ∷ []) whole (one_more commits (length h.trace) whole last (omega arith) (omega (arith, by_now)) k.ended) ∙ length-append commits (last ∷ []))
        ∙ after_last opening commits last

    commit_at : (whole : ℕ) (cut : List Operation) → Ends h.trace o whole cut → Recovers (after h.first cut) (pages_after opening (commits ++ last ∷ []) (commits_within (commits ++ last ∷ []) whole))
    commit_at whole cut (Before s) =
        let same : pages_after opening (commits ++ last ∷ []) (commits_within (commits ++ last ∷ []) whole) ≡ pages_after opening commits (commits_within commits whole) =
        ap (pages_after opening (commits ++ last ∷ [])) (one_later commits whole last (omega (arith, s.within, by_now))) ∙ after_front opening commits last (commits_within commits whole) (few commits whole) in
        subst (Recovers (after h.first cut)) (sym same) (k.cuts whole cut s)
    commit_at whole cut (InLast part torn at is) = absurd (one part torn)
    commit_at whole cut (Whole at is) =
        subst (Recovers (after h.first cut)) (sym (all_commits whole (omega arith))) (last_leaves o cut (laid_pages (laid_by opening commits) last.wrote) is made)

    pub commit_kept : StopsKept Meets opening (grown h (o ∷ [])) (commits ++ last ∷ [])
    commit_kept =
        let size : length (h.trace ++ o ∷ []) ≡ length h.trace + 1 = length-append h.trace (o ∷ []) in
        record {
          ended = one_more commits (length h.trace) (length (h.trace ++ o ∷ [])) last (omega (arith, size)) (omega (arith, size, by_now)) k.ended;
          cuts = λ whole cut s. commit_at whole cut (ends h.trace o whole cut s);
          covered = covered_more h.first h.trace o k.covered covered;
          meets = meets_more Meets opening commits last k.meets new;
        }

  -- a commit without an operation
  module _ (last : Commit) (by_now : last.ops ≡ length h.trace) (same : laid_pages (laid_by opening commits) last.wrote ≡ laid_by opening commits)
      (new : Meets (length commits + 1) (laid_pages (laid_by opening commits) last.wrote)) where
    bare_pages : (whole : ℕ) → pages_after opening (commits ++ last ∷ []) (commits_within (commits ++ last ∷ []) whole) ≡ pages_after opening commits (commits_within commits whole)
    bare_pages whole = ⊎_elim
        (λ (inside : whole < length h.trace).
        ap (pages_after opening (commits ++ last ∷ [])) (one_later commits whole last (omega (arith, by_now)))
        ∙ after_front opening commits last (commits_within commits whole) (few commits whole))
        (λ (past : length h.trace ≤ whole).
        ap (pages_after opening (commits ++ last ∷ [])) (all_within (commits ++ last ∷ []) whole (one_more commits (length h.trace) whole last past (omega (arith, by_now)) k.ended) ∙ length-append commits (last ∷ []))
        ∙ after_last opening commits last ∙ same ∙ sym (all_by whole past))
        (cases_lt whole (length h.trace))

    pub bare_kept : StopsKept Meets opening h (commits ++ last ∷ [])
    bare_kept = record {
      ended = one_more commits (length h.trace) (length h.trace) last (omega arith) (omega (arith, by_now)) k.ended;
      cuts = λ whole cut s. subst (Recovers (after h.first cut)) (sym (bare_pages whole)) (k.cuts whole cut s);
      covered = k.covered;
      meets = meets_more Meets opening commits last k.meets new;
    }
