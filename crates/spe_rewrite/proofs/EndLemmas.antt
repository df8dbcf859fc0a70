-- The changed pages are written, and the journal is cut.
use Rattle.std.proofs.Common.{◌≡◌, ◌≢◌, ℕ, ◌-◌, ◌*◌, ◌<◌, ◌≤◌, List, [], ◌∷◌, length, take, drop, map, All, refl, arith, sym, ap, subst, ◌∙◌, Bool, true, false, cond, Option, Some, None, ⊎_elim}
use Rattle.std.specs.Prelude.{◌==◌, is_some}
use Rattle.std.specs.Option.{option_or}
use Rattle.std.proofs.Math.Path.{fun_ext}
use Rattle.std.proofs.lemmas.Bool.{cases_Bool, cases_eq, eq-eqb, ne_eqb}
use Rattle.std.proofs.lemmas.List.{take-take}
use Rattle.std.proofs.lemmas.List.Elements.{All-head, All-tail}
use Rattle.spe_model.specs.declared.file.FileNo.TheVariants.{Database}
use Rattle.spe_model.specs.Content.{Content, bytes_of}
use Rattle.spe_model.specs.Paging.{PageMap}
use Rattle.spe_model.specs.Recovery.{file_page, file_page_size, journal_of, pages_to}
use Rattle.spe_model.specs.Rollback.{cut_of, write_of}
use Rattle.spe_model.specs.Settled.{page_in}
use Rattle.spe_model.specs.Trace.{made_by}
use Rattle.spe_model.specs.Trace.Operation.{Write}
use Rattle.spe_crash.proofs.CutLemmas.{cut_empties, cut_leaves}
use Rattle.spe_crash.proofs.FileLemmas.{database_leaves}
use Rattle.spe_crash.proofs.NumbersLemmas.{pages_same}
use Rattle.spe_transactions.specs.Made.{Makes}
use Rattle.spe_transactions.specs.Pages.{MayCommit, laid_pages}
use Rattle.spe_transactions.specs.Steps.{CommitWorks, PutWorks}
use Rattle.spe_transactions.specs.Work.{AtWork, MayWrite, Works, has_page, with_page, without_id}
use Rattle.spe_transactions.proofs.MovedLemmas.{moved, moved_size}
use Rattle.spe_transactions.proofs.PageLemmas.{page_there, pages_are}
use Rattle.spe_transactions.proofs.WorksLemmas.{dropped_own, dropped_other, had_before, with_at, with_other_page}
use Rattle.spe_rewrite.specs.declared.change.Change.{Change}
use Rattle.spe_rewrite.specs.Changes.{Ascend, changed}
use Rattle.spe_rewrite.specs.Idle.{MayLay}
use Rattle.spe_rewrite.specs.Rewrite.{endings, putting}
use Rattle.spe_rewrite.specs.Turns.{Turns}
use Rattle.spe_rewrite.proofs.TurnLemmas.{turns_last, turns_next}

-- a changed page that is looked for, at the front of some and behind it
pub changed_first : (c : Change) (cs : List Change) → changed (c ∷ cs) c.page ≡ Some c.bytes
changed_first c cs = rw (eq-eqb c.page c.page refl) refl

pub changed_later : (c : Change) (cs : List Change) (p : ℕ) → p ≢ c.page → changed (c ∷ cs) p ≡ changed cs p
changed_later c cs p other = rw (ne_eqb p c.page other) refl

-- none of the pages that ascend from one is that page, or one below it
pub changed_above : (below p : ℕ) (cs : List Change) → p ≤ below → Ascend below cs → changed cs p ≡ None
changed_above below p [] low ascends = refl
changed_above below p (c ∷ cs) low ascends =
    let other : p ≢ c.page = (λ same. absurd (omega (arith, low, ascends.0, same))) in
    changed_later c cs p other ∙ changed_above c.page p cs (omega (arith, low, ascends.0)) ascends.1

database_write_leaves : (content : Content) (at : ℕ) (bytes : List ℕ) (id : ℕ) → journal_of (made_by (Write Database at bytes) content) id ≡ journal_of content id
database_write_leaves content at [] id = refl
database_write_leaves content at (b ∷ bs) id = database_leaves content _ id

-- a page that is written leaves the journals
put_leaves : (size : ℕ) (c : Change) (content : Content) (id : ℕ) → journal_of (made_by (putting size c) content) id ≡ journal_of content id
put_leaves size c content id = by_page (c.page == 1)
  where
    by_page : (b : Bool) → journal_of (made_by (cond b (Write Database 24 (drop 24 c.bytes)) (Write Database ((c.page - 1) * size) c.bytes)) content) id ≡ journal_of content id
    by_page true = database_write_leaves content 24 (drop 24 c.bytes) id
    by_page false = database_write_leaves content ((c.page - 1) * size) c.bytes id

-- the first bytes of the file's page 1
front_of : (content : Content) → 24 ≤ file_page_size content → take 24 (file_page content 1) ≡ take 24 (bytes_of content Database)
front_of content long =
    let none : (1 - 1) * file_page_size content ≡ 0 = omega arith in
    take-take 24 (file_page_size content) (drop ((1 - 1) * file_page_size content) (bytes_of content Database)) (omega (arith, long))
    ∙ ap (λ (n : ℕ). take 24 (drop n (bytes_of content Database))) none

pub not_has : (works : Works) (i p : ℕ) → (has_page works i p ≡ true → ⊥) → has_page works i p ≡ false
not_has works i p refused = ⊎_elim (λ (has : has_page works i p ≡ true). absurd (refused has)) (λ (none : has_page works i p ≡ false). none) (cases_Bool (has_page works i p))

module _ (size : ℕ) (long : 24 ≤ size) (pages : List (List ℕ)) (some : 1 ≤ length pages) (all : List Change) (may : MayLay size pages (changed all)) where
  -- so far some changed pages were written, and these are left
  pub record IsPutting (content : Content) (below : ℕ) (left : List Change) (journalled written : Works) : Type 0 where
    pub work : AtWork content pages journalled written
    pub sized : file_page_size content ≡ size
    pub quiet : (id : ℕ) → id < 16 → id ≢ 0 → journal_of content id ≡ []
    pub fresh : (i p : ℕ) → below < p → has_page written i p ≡ false
    pub alone : (i p : ℕ) → has_page written i p ≡ true → i ≡ 0
    pub laid : (p : ℕ) → option_or (changed left p) (written 0 p) ≡ changed all p
    pub allowed : (p : ℕ) → is_some (changed all p) ≡ true → MayWrite pages (journalled 0) p

  abbrev pub new_pages : List (List ℕ)
  new_pages = laid_pages pages (changed all)

  module _ (commits : CommitWorks) (content : Content) (below : ℕ) (journalled written : Works) (s : IsPutting content below [] journalled written) where
    written_is : written 0 ≡ changed all
    written_is = fun_ext (λ p. s.laid p)

    commit : Makes content (cut_of 0) pages new_pages (without_id 0 journalled) (without_id 0 written)
    commit =
        let may_commit : MayCommit pages (written 0) (file_page_size content) =
        subst (λ (w : PageMap). MayCommit pages w (file_page_size content)) (sym written_is) (subst (MayCommit pages (changed all)) (sym s.sized) may.commit) in
        subst (λ (w : PageMap). Makes content (cut_of 0) pages (laid_pages pages w) (without_id 0 journalled) (without_id 0 written)) written_is
        (commits content pages journalled written s.work 0 (omega arith) may_commit)

    abbrev now : Content
    now = made_by (cut_of 0) content

    none_written : (id p : ℕ) → has_page (without_id 0 written) id p ≡ false
    none_written id p = ⊎_elim
        (λ (own : id ≡ 0). ap (λ (i : ℕ). has_page (without_id 0 written) i p) own ∙ ap is_some (dropped_own 0 written p))
        (λ (other : id ≢ 0). ap is_some (dropped_other 0 written id p other) ∙ not_has written id p (λ has. absurd (other (s.alone id p has))))
        (cases_eq id 0)

    held : map (file_page now) (pages_to (length new_pages)) ≡ new_pages
    held =
        pages_same (file_page now) (page_in new_pages) (length new_pages)
        (λ p low high. commit.made.kept p (page_in new_pages p) (page_there new_pages p low high) (λ id. none_written id p))
        ∙ sym (pages_are new_pages)

    pub ends : Turns size content (cut_of 0 ∷ []) pages new_pages
    ends = turns_last size content pages new_pages _ _ s.work.recovers commit (record {
      files = commit.made.files;
      recovers = commit.made.recovers;
      sized = moved_size content now 0 [] (moved content 0 [] s.work.files (omega arith)) ∙ s.sized;
      held = held;
      quiet = λ id low.
          ⊎_elim
          (λ (own : id ≡ 0). ap (journal_of now) own ∙ cut_empties content 0)
          (λ (other : id ≢ 0). cut_leaves content 0 id (λ same. other (sym same)) ∙ s.quiet id low other)
          (cases_eq id 0);
    })

  module _ (puts : PutWorks) (content : Content) (below : ℕ) (c : Change) (cs : List Change) (journalled written : Works) (ascends : Ascend below (c ∷ cs)) (whole : length c.bytes ≡ size)
      (s : IsPutting content below (c ∷ cs) journalled written) where
    own_change : changed all c.page ≡ Some c.bytes
    own_change = sym (s.laid c.page) ∙ ap (λ (o : Option (List ℕ)). option_or o (written 0 c.page)) (changed_first c cs)

    front : c.page ≡ 1 → take 24 c.bytes ≡ take 24 (bytes_of content Database)
    front is =
        let own : changed all 1 ≡ Some c.bytes = ap (changed all) (sym is) ∙ own_change in
        let kept : file_page content 1 ≡ page_in pages 1 = s.work.kept 1 (page_in pages 1) (page_there pages 1 (omega arith) some) (λ id. s.fresh id 1 (omega (arith, is, ascends.0))) in
        may.front c.bytes own ∙ ap (take 24) (sym kept) ∙ front_of content (omega (arith, long, s.sized))

    abbrev pub put_written : Works
    put_written = with_page 0 c.page c.bytes written

    pub put : Makes content (putting size c) pages pages journalled put_written
    put =
        subst (λ (n : ℕ). Makes content (write_of n (record { page = c.page; content = c.bytes })) pages pages journalled put_written) s.sized
        (puts content pages journalled written s.work 0 c.page c.bytes (whole ∙ sym s.sized) front (s.allowed c.page (ap is_some own_change)))

    pub put_next : IsPutting (made_by (putting size c) content) c.page cs journalled put_written
    put_next = record {
      work = put.made;
      sized = sym (put.made.sized 1 (page_in pages 1) (page_there pages 1 (omega arith) some)) ∙ s.work.sized 1 (page_in pages 1) (page_there pages 1 (omega arith) some) ∙ s.sized;
      quiet = λ id low other. put_leaves size c content id ∙ s.quiet id low other;
      fresh = λ i p above.
          not_has put_written i p (λ has.
          ⊎_elim
          (λ (own : (i ≡ 0) × (p ≡ c.page)). absurd (omega (arith, above, own.1)))
          (λ (old : has_page written i p ≡ true). absurd (let both : true ≡ false = sym old ∙ s.fresh i p (omega (arith, above, ascends.0)) in cc))
          (had_before 0 c.page c.bytes written i p has));
      alone = λ i p has.
          ⊎_elim
          (λ (own : (i ≡ 0) × (p ≡ c.page)). own.0)
          (λ (old : has_page written i p ≡ true). s.alone i p old)
          (had_before 0 c.page c.bytes written i p has);
      laid = λ p.
          ⊎_elim
          (λ (here : p ≡ c.page).
          ap (λ (q : ℕ). option_or (changed cs q) (put_written 0 q)) here
          ∙ ap (λ (o : Option (List ℕ)). option_or o (put_written 0 c.page)) (changed_above c.page c.page cs (omega arith) ascends.1)
          ∙ with_at 0 c.page c.bytes written ∙ sym own_change ∙ ap (changed all) (sym here))
          (λ (other : p ≢ c.page).
          ap (option_or (changed cs p)) (with_other_page 0 c.page c.bytes written 0 p other)
          ∙ ap (λ (o : Option (List ℕ)). option_or o (written 0 p)) (sym (changed_later c cs p other)) ∙ s.laid p)
          (cases_eq p c.page);
      allowed = s.allowed;
    }

  -- what is left is written, and then the journal is cut
  pub puts_turn : (puts : PutWorks) (commits : CommitWorks) (left : List Change) (content : Content) (below : ℕ) (journalled written : Works) → Ascend below left
      → All (λ (c : Change). length c.bytes ≡ size) left → IsPutting content below left journalled written → Turns size content (endings size left) pages new_pages
  puts_turn puts commits [] content below journalled written ascends whole s = ends commits content below journalled written s
  puts_turn puts commits (c ∷ cs) content below journalled written ascends whole s =
      let own = All-head (λ (d : Change). length d.bytes ≡ size) c cs whole in
      turns_next size content (putting size c) (endings size cs) pages new_pages _ _ s.work.recovers (put puts content below c cs journalled written ascends own s)
      (puts_turn puts commits cs (made_by (putting size c) content) c.page journalled _ ascends.1 (All-tail (λ (d : Change). length d.bytes ≡ size) c cs whole)
      (put_next puts content below c cs journalled written ascends own s))
