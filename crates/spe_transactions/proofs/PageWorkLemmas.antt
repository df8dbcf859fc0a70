-- A transaction writes a page, or gives a page its old bytes back.
use Rattle.std.proofs.Common.{◌≡◌, ◌≢◌, ℕ, ◌≤◌, List, length, take, refl, sym, ap, ◌∙◌, arith, subst, true, false, Some, None, ⊎_elim, inl, inr}
use Rattle.std.specs.Prelude.{◌⊎◌, is_some}
use Rattle.std.proofs.lemmas.Bool.{cases_eq}
use Rattle.std.proofs.lemmas.List.{take_at}
use Rattle.spe_model.specs.declared.file.FileNo.TheVariants.{Database}
use Rattle.spe_model.specs.Content.{Content, bytes_of}
use Rattle.spe_model.specs.Covered.{IsCovered, IsSaved, IsSpare, Recovers, first_place}
use Rattle.spe_model.specs.Recovery.{file_page, file_page_size}
use Rattle.spe_model.specs.Rollback.{write_of}
use Rattle.spe_model.specs.Trace.{IsTorn, Operation, made_by}
use Rattle.spe_model.specs.Trace.Operation.{Write}
use Rattle.spe_crash.proofs.FrontLemmas.{IsReadable}
use Rattle.spe_transactions.specs.Made.{Makes}
use Rattle.spe_transactions.specs.Pages.{IsAdded, page_at}
use Rattle.spe_transactions.specs.Work.{AtWork, MayWrite, Works, has_page, with_page, without_page}
use Rattle.spe_transactions.proofs.FilesLemmas.{body_of, body_within, write_is}
use Rattle.spe_transactions.proofs.JournalLemmas.{torn_front}
use Rattle.spe_transactions.proofs.PageLemmas.{IsAt, is_at}
use Rattle.spe_transactions.proofs.PutLemmas.{IsPageWritten, IsWritable, page_range, page_written, torn_recovers}
use Rattle.spe_transactions.proofs.WorkLemmas.{front_of, is_saved, is_spare, journalled_at, kept_ends, page_sized, written_ends, written_low}
use Rattle.spe_transactions.proofs.WorksLemmas.{gave_before, had_before, with_at, with_other_page, without_at, without_other_id, without_other_page}

-- what a torn write of a page leaves, and that it is covered
record IsPutSafely (content : Content) (pages : List (List ℕ)) (o : Operation) : Type 0 where
  covered : IsCovered content o
  torn : (part : Operation) → IsTorn o part → Recovers (made_by part content) pages

put_safely : (content : Content) (pages : List (List ℕ)) (p : ℕ) (bytes : List ℕ) → IsWritable content pages p bytes
    → IsPutSafely content pages (write_of (file_page_size content) (record { page = p; content = bytes }))
put_safely content pages p bytes w =
    let size = file_page_size content in
    let place = first_place size p in
    let body = body_of p bytes in
    let read : IsReadable (bytes_of content Database) = page_range content pages w.recovers in
    subst (IsPutSafely content pages) (sym (write_is size p bytes))
    (record {
      covered = record {
        pages = pages;
        recovers = w.recovers;
        page = p;
        within = body_within size p (length body) bytes read.low w.numbered w.sized (omega arith);
        safe = w.safe;
      };
      torn = torn_front Database place body (λ part. Recovers (made_by part content) pages) (λ front rest is.
          let cut : take (length front) body ≡ front = ap (take (length front)) is ∙ take_at front rest (length front) refl in
          subst (λ (part : List ℕ). Recovers (made_by (Write Database place part) content) pages) cut (torn_recovers content pages p (length front) bytes w));
    })

module _ (content : Content) (pages : List (List ℕ)) (journalled written : Works) (a : AtWork content pages journalled written) (id p : ℕ) where
  -- a page that none but one transaction may have written keeps its place when that one is written
  module _ (bytes : List ℕ) (now : Content) (w : IsPageWritten content now pages p bytes) (own : (i : ℕ) → has_page written i p ≡ true → i ≡ id) where
    -- another page that is written
    other_written : (i q : ℕ) (found : List ℕ) → q ≢ p → written i q ≡ Some found → (file_page now q ≡ found) × (length found ≡ file_page_size now)
    other_written i q found other is =
        let there = a.in_file i q found is in (
          w.others q (written_low content pages journalled written a i q (ap is_some is)) other (written_ends content pages journalled written a i q found is) ∙ there.0,
          there.1 ∙ sym w.size,
        )

    other_kept : (q : ℕ) (found : List ℕ) → q ≢ p → page_at pages q ≡ Some found → ((i : ℕ) → has_page written i q ≡ false) → file_page now q ≡ found
    other_kept q found other is none =
        w.others q (is_at pages q found is).low other (kept_ends content pages journalled written a q found is none) ∙ a.kept q found is none

    -- with other lists of what is written
    rewritten : (more : Works) → ((i q : ℕ) → has_page more i q ≡ true → MayWrite pages (journalled i) q)
        → ((i q : ℕ) (found : List ℕ) → more i q ≡ Some found → (file_page now q ≡ found) × (length found ≡ file_page_size now))
        → ((q : ℕ) (found : List ℕ) → page_at pages q ≡ Some found → ((i : ℕ) → has_page more i q ≡ false) → file_page now q ≡ found)
        → AtWork now pages journalled more
    rewritten more placed in_file kept = record {
      files = w.files ∙ a.files;
      recovers = w.recovers;
      sized = λ q found is. a.sized q found is ∙ sym w.size;
      journals = λ i low. rw (w.size, w.journals i) (a.journals i low);
      numbered = a.numbered;
      apart = a.apart;
      before = a.before;
      placed = placed;
      in_file = in_file;
      kept = kept;
    }

    pub put_made : length bytes ≡ file_page_size content → MayWrite pages (journalled id) p → AtWork now pages journalled (with_page id p bytes written)
    put_made sized may = rewritten (with_page id p bytes written)
        (λ i q has.
        ⊎_elim
        (λ (new : (i ≡ id) × (q ≡ p)). rw (new.0, new.1) may)
        (λ (old : has_page written i q ≡ true). a.placed i q old)
        (had_before id p bytes written i q has))
        (λ i q found is.
        ⊎_elim
        (λ (new : (i ≡ id) × (q ≡ p) × (bytes ≡ found)). (ap (file_page now) new.1 ∙ w.there ∙ new.2, ap length (sym new.2) ∙ sized ∙ sym w.size))
        (λ (old : ((i ≡ id) → q ≢ p) × (written i q ≡ Some found)).
        other_written i q found (λ (here : q ≡ p). old.0 (own i (ap (has_page written i) (sym here) ∙ ap is_some old.1)) here) old.1)
        (gave_before id p bytes written i q found is))
        (λ q found is none.
        ⊎_elim
        (λ (here : q ≡ p).
        absurd (let impossible : true ≡ false = sym (ap is_some (with_at id p bytes written)) ∙ ap (has_page (with_page id p bytes written) id) (sym here) ∙ none id in cc))
        (λ (other : q ≢ p). other_kept q found other is (λ i. ap is_some (sym (with_other_page id p bytes written i q other)) ∙ none i))
        (cases_eq q p))

    pub undo_made : page_at pages p ≡ Some bytes → AtWork now pages journalled (without_page id p written)
    undo_made old_page = rewritten (without_page id p written)
        (λ i q has. a.placed i q (still i q has))
        (λ i q found is. other_written i q found (apart i q found is) (still_gives i q found is))
        (λ q found is none.
        ⊎_elim
        (λ (here : q ≡ p).
        let both : Some bytes ≡ Some found = sym old_page ∙ ap (page_at pages) (sym here) ∙ is in
        let same : bytes ≡ found = cc in
        ap (file_page now) here ∙ w.there ∙ same)
        (λ (other : q ≢ p). other_kept q found other is (λ i. ap is_some (sym (without_other_page id p written i q other)) ∙ none i))
        (cases_eq q p))
      where
        still_gives : (i q : ℕ) (found : List ℕ) → without_page id p written i q ≡ Some found → written i q ≡ Some found
        still_gives i q found is = ⊎_elim
            (λ (here : q ≡ p).
            ⊎_elim
            (λ (mine : i ≡ id).
            absurd (let impossible : None ≡ Some found = sym (without_at id p written) ∙ ap (λ (n : ℕ). without_page id p written n p) (sym mine) ∙ ap (without_page id p written i) (sym here) ∙ is in cc))
            (λ (other : i ≢ id). sym (without_other_id id p written i q other) ∙ is)
            (cases_eq i id))
            (λ (other : q ≢ p). sym (without_other_page id p written i q other) ∙ is)
            (cases_eq q p)

        still : (i q : ℕ) → has_page (without_page id p written) i q ≡ true → has_page written i q ≡ true
        still i q has = ⊎_elim
            (λ (here : q ≡ p).
            ⊎_elim
            (λ (mine : i ≡ id).
            absurd (let impossible : false ≡ true = sym (ap is_some (without_at id p written)) ∙ ap (λ (n : ℕ). has_page (without_page id p written) n p) (sym mine) ∙ ap (has_page (without_page id p written) i) (sym here) ∙ has in cc))
            (λ (other : i ≢ id). ap is_some (sym (without_other_id id p written i q other)) ∙ has)
            (cases_eq i id))
            (λ (other : q ≢ p). ap is_some (sym (without_other_page id p written i q other)) ∙ has)
            (cases_eq q p)

        apart : (i q : ℕ) (found : List ℕ) → without_page id p written i q ≡ Some found → q ≢ p
        apart i q found is here =
            let was : has_page written i q ≡ true = still i q (ap is_some is) in
            let mine : i ≡ id = own i (ap (has_page written i) (sym here) ∙ was) in
            let impossible : None ≡ Some found = sym (without_at id p written) ∙ ap (λ (n : ℕ). without_page id p written n p) (sym mine) ∙ ap (without_page id p written i) (sym here) ∙ is in
            cc

  pub put_works : (bytes : List ℕ) → length bytes ≡ file_page_size content → (p ≡ 1 → take 24 bytes ≡ take 24 (bytes_of content Database))
      → MayWrite pages (journalled id) p
      → Makes content (write_of (file_page_size content) (record { page = p; content = bytes })) pages pages journalled (with_page id p bytes written)
  put_works bytes sized front may =
      let w : IsWritable content pages p bytes = record {
        files = a.files;
        recovers = a.recovers;
        numbered = low may;
        sized = sized;
        front = front;
        safe = safe may;
      } in
      let safely = put_safely content pages p bytes w in
      record {
        covered = safely.covered;
        torn = safely.torn;
        made = put_made bytes (made_by (write_of (file_page_size content) (record { page = p; content = bytes })) content) (page_written content pages p bytes w) (owner may) sized may;
      }
    where
      low : MayWrite pages (journalled id) p → 1 ≤ p
      low m = ⊎_elim
          (λ (own : has_page journalled id p ≡ true). (journalled_at content pages journalled written a id p own).2.low)
          (λ (added : IsAdded pages (journalled id) p). let high = added.above in omega arith)
          m

      safe : MayWrite pages (journalled id) p → IsSaved content pages p ⊎ IsSpare content pages p
      safe m = ⊎_elim
          (λ (own : has_page journalled id p ≡ true). inl (is_saved content pages journalled written a id p own))
          (λ (added : IsAdded pages (journalled id) p). inr (is_spare content pages a.recovers p (journalled id) added))
          m

      owner : MayWrite pages (journalled id) p → (i : ℕ) → has_page written i p ≡ true → i ≡ id
      owner m i has = ⊎_elim
          (λ (own : has_page journalled id p ≡ true).
          ⊎_elim
          (λ (also : has_page journalled i p ≡ true). a.apart p i id also own)
          (λ (added : IsAdded pages (journalled i) p). absurd (let high = added.above in let within = (journalled_at content pages journalled written a id p own).2.high in omega arith))
          (a.placed i p has))
          (λ (mine : IsAdded pages (journalled id) p).
          ⊎_elim
          (λ (own : has_page journalled i p ≡ true). absurd (let high = mine.above in let within = (journalled_at content pages journalled written a i p own).2.high in omega arith))
          (λ (also : IsAdded pages (journalled i) p). a.apart 1 i id also.first mine.first)
          (a.placed i p has))
          m

  pub undo_works : (old : List ℕ) → journalled id p ≡ Some old
      → Makes content (write_of (file_page_size content) (record { page = p; content = old })) pages pages journalled (without_page id p written)
  undo_works old found =
      let own : has_page journalled id p ≡ true = ap is_some found in
      let old_page : page_at pages p ≡ Some old = a.before id p old found in
      let at : IsAt pages p old = is_at pages p old old_page in
      let w : IsWritable content pages p old = record {
        files = a.files;
        recovers = a.recovers;
        numbered = at.low;
        sized = page_sized content pages journalled written a p old old_page;
        front = λ first. front_of content pages old a.recovers (ap (page_at pages) (sym first) ∙ old_page);
        safe = inl (is_saved content pages journalled written a id p own);
      } in
      let safely = put_safely content pages p old w in
      record {
        covered = safely.covered;
        torn = safely.torn;
        made =
            undo_made old (made_by (write_of (file_page_size content) (record { page = p; content = old })) content) (page_written content pages p old w)
            (λ i has.
            ⊎_elim
            (λ (also : has_page journalled i p ≡ true). a.apart p i id also own)
            (λ (added : IsAdded pages (journalled i) p). absurd (let high = added.above in let within = at.high in omega arith))
            (a.placed i p has))
            old_page;
      }
