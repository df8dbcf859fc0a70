-- The head of the journal and its records are written before.
use Rattle.std.proofs.Common.{◌≡◌, ◌≢◌, ℕ, ◌+◌, ◌*◌, ◌<◌, ◌≤◌, ◌^◌, List, [], ◌∷◌, ◌++◌, length, drop, refl, arith, sym, ap, subst, ◌∙◌, true, false, Option, Some, None, ⊎_elim, inl, inr, length-append}
use Rattle.std.specs.Prelude.{◌⊎◌, nat_le, is_some}
use Rattle.std.specs.Option.{option_or}
use Rattle.std.proofs.lemmas.Bool.{cases_eq, cases_lt}
use Rattle.std.proofs.lemmas.Bool.Decides.{nat_tests}
use Rattle.std.proofs.lemmas.List.{append-nil, drop-append-le, length-drop}
use Rattle.byteorder.specs.Numbers.{big_from-append}
use Rattle.spe_model.specs.declared.file.FileNo.TheVariants.{Journal}
use Rattle.spe_model.specs.Big.{u32_at}
use Rattle.spe_model.specs.Content.{Content}
use Rattle.spe_model.specs.Journal.{head_bytes, record_bytes}
use Rattle.spe_model.specs.Paging.{Paging}
use Rattle.spe_model.specs.Recovery.{file_page, file_page_size, journal_of}
use Rattle.spe_model.specs.Settled.{page_in}
use Rattle.spe_model.specs.Trace.{made_by}
use Rattle.spe_model.specs.Trace.Operation.{Write}
use Rattle.spe_journal.proofs.HotLemmas.{head_long, head_written, record_long, written_nonce}
use Rattle.spe_journal.specs.Written.{IsWritten}
use Rattle.spe_transactions.specs.Made.{Makes}
use Rattle.spe_transactions.specs.Steps.{CommitWorks, HeadWorks, PutWorks, RecordWorks}
use Rattle.spe_transactions.specs.Work.{AtWork, Works, has_page, no_works, with_page}
use Rattle.spe_transactions.proofs.MovedLemmas.{IsMoved, moved_behind, moved_size}
use Rattle.spe_transactions.proofs.PageLemmas.{page_there}
use Rattle.spe_transactions.proofs.WorksLemmas.{had_before, now_has, with_at}
use Rattle.spe_rewrite.specs.declared.change.Change.{Change}
use Rattle.spe_rewrite.specs.Changes.{AreChanges, Ascend, changed}
use Rattle.spe_rewrite.specs.Idle.{AreIdle, MayLay}
use Rattle.spe_rewrite.specs.Rewrite.{endings, heading, old_changes, saving, savings}
use Rattle.spe_rewrite.specs.Turns.{Turns}
use Rattle.spe_rewrite.proofs.EndLemmas.{IsPutting, changed_later, new_pages, not_has, puts_turn}
use Rattle.spe_rewrite.proofs.SaveLemmas.{same_pages}
use Rattle.spe_rewrite.proofs.TurnLemmas.{turns_next}

-- a number at the front of some bytes, with others behind them
number_before : (front behind : List ℕ) (at : ℕ) → at + 4 ≤ length front → u32_at (front ++ behind) at ≡ u32_at front at
unfolding u32_at
number_before front behind at fits = rw (drop-append-le at front behind (omega arith)) (big_from-append 4 (drop at front) behind (omega (arith, length-drop at front)))

head_nonce : (nonce count size : ℕ) → nonce < 2 ^ 32 → u32_at (head_bytes nonce count size) 12 ≡ nonce
head_nonce nonce count size small =
    let w : IsWritten size [] (head_bytes nonce count size) = head_written nonce count size small in
    written_nonce size [] (head_bytes nonce count size)
    (record { nonce = nonce; pages = count; torn = []; nonce_fits = small; savable = w.savable; cut = omega arith; bytes = sym (append-nil (head_bytes nonce count size ++ []) ∙ append-nil (head_bytes nonce count size)) })

-- the operation that appends a record, in other words
in_words : (content : Content) (pages : List (List ℕ)) (j : Works) (at place from nonce p : ℕ) (page bytes : List ℕ) → at ≡ place → from ≡ nonce → page ≡ bytes
    → Makes content (Write (Journal 0) at (record_bytes from p page)) pages pages (with_page 0 p page j) no_works
    → Makes content (Write (Journal 0) place (record_bytes nonce p bytes)) pages pages (with_page 0 p bytes j) no_works
in_words content pages j at place from nonce p page bytes at_is from_is page_is m =
    subst (λ (n : ℕ). Makes content (Write (Journal 0) n (record_bytes nonce p bytes)) pages pages (with_page 0 p bytes j) no_works) at_is
    (subst (λ (n : ℕ). Makes content (Write (Journal 0) at (record_bytes n p bytes)) pages pages (with_page 0 p bytes j) no_works) from_is
    (subst (λ (b : List ℕ). Makes content (Write (Journal 0) at (record_bytes from p b)) pages pages (with_page 0 p b j) no_works) page_is m))

module _ (size : ℕ) (wide : 24 ≤ size) (pages : List (List ℕ)) (some : 1 ≤ length pages) (all : List Change) (may : MayLay size pages (changed all)) (old : Paging) (nonce : ℕ) where
  -- so many records were written, and these pages are still to be saved
  pub record IsSaving (content : Content) (below n : ℕ) (left : List Change) (journalled : Works) : Type 0 where
    pub work : AtWork content pages journalled no_works
    pub sized : file_page_size content ≡ size
    pub quiet : (id : ℕ) → id < 16 → id ≢ 0 → journal_of content id ≡ []
    pub long : length (journal_of content 0) ≡ 512 + n * (size + 8)
    pub nonce_is : u32_at (journal_of content 0) 12 ≡ nonce
    pub same : file_page content ≡ old
    pub fresh : (i p : ℕ) → below < p → has_page journalled i p ≡ false
    pub saved : (p : ℕ) → p ≤ length pages → is_some (changed all p) ≡ true → (is_some (changed left p) ≡ true) ⊎ (is_some (journalled 0 p) ≡ true)

  -- all are saved
  saved_all : (content : Content) (below n : ℕ) (journalled : Works) → IsSaving content below n [] journalled → IsPutting size wide pages some all may content 0 all journalled no_works
  saved_all content below n journalled s = record {
    work = s.work;
    sized = s.sized;
    quiet = s.quiet;
    fresh = λ i p above. refl;
    alone = λ i p has. absurd cc;
    laid = λ p. or_none (changed all p);
    allowed = λ p has.
        ⊎_elim
        (λ (above : length pages < p). inr (record { above = above; counted = may.counted p above has; first = old_saved 1 some (may.first p above has) }))
        (λ (low : p ≤ length pages). inl (old_saved p low has))
        (cases_lt (length pages) p);
  }
    where
      or_none : (o : Option (List ℕ)) → option_or o None ≡ o
      or_none None = refl
      or_none (Some x) = refl

      old_saved : (p : ℕ) → p ≤ length pages → is_some (changed all p) ≡ true → is_some (journalled 0 p) ≡ true
      old_saved p low has = ⊎_elim (λ (left : is_some (changed [] p) ≡ true). absurd cc) (λ (there : is_some (journalled 0 p) ≡ true). there) (s.saved p low has)

  -- a page above the count is passed over
  passed : (content : Content) (below n : ℕ) (c : Change) (cs : List Change) (journalled : Works) → Ascend below (c ∷ cs) → length pages < c.page
      → IsSaving content below n (c ∷ cs) journalled → IsSaving content c.page n cs journalled
  passed content below n c cs journalled ascends above s = record {
    work = s.work;
    sized = s.sized;
    quiet = s.quiet;
    long = s.long;
    nonce_is = s.nonce_is;
    same = s.same;
    fresh = λ i p higher. s.fresh i p (omega (arith, higher, ascends.0));
    saved = λ p low has.
        subst (λ (o : Option (List ℕ)). (is_some o ≡ true) ⊎ (is_some (journalled 0 p) ≡ true)) (changed_later c cs p (λ same. absurd (omega (arith, low, above, same)))) (s.saved p low has);
  }

  module _ (records : RecordWorks) (content : Content) (below n : ℕ) (c : Change) (cs : List Change) (journalled : Works) (ascends : Ascend below (c ∷ cs)) (low : c.page ≤ length pages)
      (s : IsSaving content below n (c ∷ cs) journalled) where
    abbrev pub more : Works
    more = with_page 0 c.page (old c.page) journalled

    abbrev bytes : List ℕ
    bytes = record_bytes nonce c.page (old c.page)

    begun : journal_of content 0 ≢ []
    begun none = absurd (let is : length (journal_of content 0) ≡ 0 = ap length none in omega (arith, is, s.long))

    page_is : file_page content c.page ≡ old c.page
    page_is = ap (λ (pages : Paging). pages c.page) s.same

    pub save : Makes content (saving old size nonce n c) pages pages more no_works
    save =
        in_words content pages journalled _ _ _ nonce c.page _ (old c.page) s.long s.nonce_is page_is
        (records content pages journalled no_works s.work 0 c.page (omega arith) begun (omega (arith, ascends.0)) low (λ i. s.fresh i c.page ascends.0))

    abbrev now : Content
    now = made_by (saving old size nonce n c) content

    m : IsMoved content now 0 (journal_of content 0 ++ bytes)
    m = subst (λ (at : ℕ). IsMoved content (made_by (Write (Journal 0) at bytes) content) 0 (journal_of content 0 ++ bytes)) s.long (moved_behind content 0 bytes s.work.files (omega arith))

    page_long : length (old c.page) ≡ size
    page_long =
        let there = page_there pages c.page (omega (arith, ascends.0)) low in
        ap length (sym page_is) ∙ ap length (s.work.kept c.page (page_in pages c.page) there (λ id. refl)) ∙ s.work.sized c.page (page_in pages c.page) there ∙ s.sized

    pub save_next : IsSaving now c.page (n + 1) cs more
    save_next = record {
      work = save.made;
      sized = moved_size content now 0 (journal_of content 0 ++ bytes) m ∙ s.sized;
      quiet = λ id small other. m.others id other ∙ s.quiet id small other;
      long =
          let own = ap length m.own in
          let parts = length-append (journal_of content 0) bytes in
          let record_is = record_long nonce c.page (old c.page) in
          omega (arith, own, parts, record_is, page_long, s.long);
      nonce_is = ap (λ (j : List ℕ). u32_at j 12) m.own ∙ number_before (journal_of content 0) bytes 12 (omega (arith, s.long)) ∙ s.nonce_is;
      same = same_pages content now m.database ∙ s.same;
      fresh = λ i p higher.
          not_has more i p (λ has.
          ⊎_elim
          (λ (own : (i ≡ 0) × (p ≡ c.page)). absurd (omega (arith, higher, own.1)))
          (λ (before : has_page journalled i p ≡ true). absurd (let both : true ≡ false = sym before ∙ s.fresh i p (omega (arith, higher, ascends.0)) in cc))
          (had_before 0 c.page (old c.page) journalled i p has));
      saved = λ p within has.
          ⊎_elim
          (λ (here : p ≡ c.page). inr (ap (λ (q : ℕ). is_some (more 0 q)) here ∙ ap is_some (with_at 0 c.page (old c.page) journalled)))
          (λ (other : p ≢ c.page).
          ⊎_elim
          (λ (left : is_some (changed (c ∷ cs) p) ≡ true). inl (ap is_some (sym (changed_later c cs p other)) ∙ left))
          (λ (there : is_some (journalled 0 p) ≡ true). inr (now_has 0 c.page (old c.page) journalled 0 p there))
          (s.saved p within has))
          (cases_eq p c.page);
    }

  -- what is left is saved, and then all is written
  saves_turn : (records : RecordWorks) (puts : PutWorks) (commits : CommitWorks) → AreChanges size all → (left : List Change) (content : Content) (below n : ℕ) (journalled : Works) → Ascend below left
      → IsSaving content below n left journalled
      → Turns size content (savings old size nonce n (old_changes (length pages) left) ++ endings size all) pages (new_pages size wide pages some all may)
  saves_turn records puts commits are [] content below n journalled ascends s =
      puts_turn size wide pages some all may puts commits all content 0 journalled no_works are.ascending are.sized (saved_all content below n journalled s)
  saves_turn records puts commits are (c ∷ cs) content below n journalled ascends s = ⊎_elim
      (λ (above : length pages < c.page).
      subst (λ (cs' : List Change). Turns size content (savings old size nonce n cs' ++ endings size all) pages (new_pages size wide pages some all may)) (sym (gone above))
      (saves_turn records puts commits are cs content c.page n journalled ascends.1 (passed content below n c cs journalled ascends above s)))
      (λ (low : c.page ≤ length pages).
      subst (λ (cs' : List Change). Turns size content (savings old size nonce n cs' ++ endings size all) pages (new_pages size wide pages some all may)) (sym (stays low))
      (turns_next size content (saving old size nonce n c) _ pages (new_pages size wide pages some all may) _ _ s.work.recovers (save records content below n c cs journalled ascends low s)
      (saves_turn records puts commits are cs (made_by (saving old size nonce n c) content) c.page (n + 1) _ ascends.1 (save_next records content below n c cs journalled ascends low s))))
      (cases_lt (length pages) c.page)
    where
      gone : length pages < c.page → old_changes (length pages) (c ∷ cs) ≡ old_changes (length pages) cs
      gone above = let fails : nat_le c.page (length pages) ≡ false = grind (arith, nat_tests) in rw fails refl

      stays : c.page ≤ length pages → old_changes (length pages) (c ∷ cs) ≡ c ∷ old_changes (length pages) cs
      stays low = let holds : nat_le c.page (length pages) ≡ true = grind (arith, nat_tests) in rw holds refl

  -- the head is written, and then all is saved
  pub head_turns : (heads : HeadWorks) (records : RecordWorks) (puts : PutWorks) (commits : CommitWorks) → AreChanges size all → nonce < 2 ^ 32 → (content : Content) → AtWork content pages no_works no_works
      → AreIdle size content pages → file_page content ≡ old
      → Turns size content (heading size (length pages) nonce ∷ (savings old size nonce 0 (old_changes (length pages) all) ++ endings size all)) pages (new_pages size wide pages some all may)
  head_turns heads records puts commits are small content work idle same =
      let none : journal_of content 0 ≡ [] = idle.quiet 0 (omega arith) in
      let head = head_bytes nonce (length pages) size in
      let now = made_by (heading size (length pages) nonce) content in
      let m : Makes content (heading size (length pages) nonce) pages pages no_works no_works =
      subst (λ (s : ℕ). Makes content (Write (Journal 0) 0 (head_bytes nonce (length pages) s)) pages pages no_works no_works) idle.sized
      (heads content pages no_works no_works work 0 nonce (length pages) (omega arith) small none) in
      let moves : IsMoved content now 0 head =
      subst (λ (at : ℕ). IsMoved content (made_by (Write (Journal 0) at head) content) 0 head) (ap length none)
      (subst (IsMoved content (made_by (Write (Journal 0) (length (journal_of content 0)) head) content) 0) (ap (λ (j : List ℕ). j ++ head) none)
      (moved_behind content 0 head work.files (omega arith))) in
      turns_next size content (heading size (length pages) nonce) _ pages (new_pages size wide pages some all may) _ _ idle.recovers m
      (saves_turn records puts commits are all now 0 0 no_works are.ascending (record {
        work = m.made;
        sized = moved_size content now 0 head moves ∙ idle.sized;
        quiet = λ id low other. moves.others id other ∙ idle.quiet id low;
        long = ap length moves.own ∙ (let is = head_long nonce (length pages) size in omega (arith, is));
        nonce_is = ap (λ (j : List ℕ). u32_at j 12) moves.own ∙ head_nonce nonce (length pages) size small;
        same = same_pages content now moves.database ∙ same;
        fresh = λ i p above. refl;
        saved = λ p low has. inl has;
      }))
