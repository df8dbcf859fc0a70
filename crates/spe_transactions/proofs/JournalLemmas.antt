-- A transaction begins its journal, and saves a page in it.
use Rattle.std.proofs.Common.{◌≡◌, ◌≢◌, ℕ, ◌+◌, ◌<◌, ◌≤◌, ◌^◌, List, [], ◌∷◌, ◌++◌, length, take, refl, sym, ap, ◌∙◌, arith, subst, ◌*◌, Bool, true, false, Option, Some, None, ⊎_elim, inl, inr}
use Rattle.std.specs.Prelude.{◌==◌, ◌||◌, drop, is_some, nat_le, if◌then◌else◌}
use Rattle.std.specs.List.{find, list_any}
use Rattle.std.specs.Option.{option_or}
use Rattle.std.proofs.lemmas.Bool.{cases_eq, cases_lt, eq-eqb, ne_eqb, or_left}
use Rattle.std.proofs.lemmas.List.{length-append, append-nil}
use Rattle.std.proofs.lemmas.List.Folds.{find-append, list_any-append}
use Rattle.spe_model.specs.declared.file.FileNo.{FileNo}
use Rattle.spe_model.specs.declared.file.FileNo.TheVariants.{Database, Journal}
use Rattle.spe_model.specs.Big.{u32_at}
use Rattle.spe_model.specs.Content.{Content, bytes_of}
use Rattle.spe_model.specs.Covered.{Recovers, is_held}
use Rattle.spe_model.specs.Header.{page_count_of}
use Rattle.spe_model.specs.Journal.{Saved, has_head, head_bytes, hot_records, record_bytes}
use Rattle.spe_model.specs.Recovery.{all_hot, file_page, file_page_size, hot_of, image_of, is_of, is_there, journal_of, recovered_header, saved_or, with_front}
use Rattle.spe_model.specs.Rollback.{cut_of}
use Rattle.spe_model.specs.Settled.{page_in}
use Rattle.spe_model.specs.Trace.{IsTorn, Operation, made_by}
use Rattle.spe_model.specs.Trace.Operation.{Write, Cut}
use Rattle.spe_journal.specs.Written.{IsSavable, IsWritten}
use Rattle.spe_journal.proofs.HotLemmas.{head_long, head_whole, head_written, record_long, record_whole, record_written, short_head, short_hot, torn_written, written_long, written_nonce, written_hot}
use Rattle.spe_crash.proofs.FrontLemmas.{IsReadable}
use Rattle.spe_crash.proofs.HotLemmas.{find_same}
use Rattle.spe_crash.proofs.KeepLemmas.{front-refl, image_same, keeps}
use Rattle.spe_crash.proofs.NumbersLemmas.{page_passes}
use Rattle.spe_crash.proofs.PagesLemmas.{HasPages, opened}
use Rattle.spe_transactions.specs.Made.{Makes}
use Rattle.spe_transactions.specs.Pages.{IsAdded, page_at}
use Rattle.spe_transactions.specs.Work.{AtWork, IsJournal, Journals, Works, has_page, with_page}
use Rattle.spe_transactions.proofs.MovedLemmas.{IsMoved, moved, moved_behind, moved_hot, moved_own, moved_page, moved_size, same_hot_keeps}
use Rattle.spe_transactions.proofs.PageLemmas.{page_there}
use Rattle.spe_transactions.proofs.PutLemmas.{page_range}
use Rattle.spe_transactions.proofs.SavedLemmas.{AreSaved, bare_hot, bare_other, find_holder, find_no, found_none, is_other, saved_holds, saved_other, saved_shared, written_own}
use Rattle.spe_transactions.proofs.WorkLemmas.{are_saved, none_written, number_fits, page_fits, page_sized}
use Rattle.spe_transactions.proofs.WorksLemmas.{gave_before, had_before, journals_same, now_has, with_at, with_other_id, with_other_page}

-- the database and what is written stay, and a journal changes with what its transaction journalled
moved_work : (content now : Content) (pages : List (List ℕ)) (journalled written : Works) (a : AtWork content pages journalled written) (id : ℕ) (journal : List ℕ) (more : Works)
    → IsMoved content now id journal → Recovers now pages → Journals (file_page_size content) journal (more id)
    → ((i : ℕ) → i ≢ id → (q : ℕ) → is_some (more i q) ≡ is_some (journalled i q))
    → ((i p : ℕ) → has_page more i p ≡ true → i < 16)
    → ((p i j : ℕ) → has_page more i p ≡ true → has_page more j p ≡ true → i ≡ j)
    → ((i p : ℕ) (bytes : List ℕ) → more i p ≡ Some bytes → page_at pages p ≡ Some bytes)
    → ((i p : ℕ) → has_page journalled i p ≡ true → has_page more i p ≡ true)
    → AtWork now pages more written
moved_work content now pages journalled written a id journal more m recovers own others numbered apart before still =
    let size : file_page_size now ≡ file_page_size content = moved_size content now id journal m in
    record {
      files = m.files ∙ a.files;
      recovers = recovers;
      sized = λ p bytes found. a.sized p bytes found ∙ sym size;
      journals = λ i low.
          ⊎_elim
          (λ (here : i ≡ id). rw (here, size, m.own) own)
          (λ (other : i ≢ id). rw (size, m.others i other) (journals_same (file_page_size content) (journal_of content i) (journalled i) (more i) (others i other) (a.journals i low)))
          (cases_eq i id);
      numbered = numbered;
      apart = apart;
      before = before;
      placed = λ i p has.
          ⊎_elim
          (λ (journalled_p : has_page journalled i p ≡ true). inl (still i p journalled_p))
          (λ (added : IsAdded pages (journalled i) p). inr (record { above = added.above; counted = added.counted; first = still i 1 added.first }))
          (a.placed i p has);
      in_file = λ i p bytes found.
          let there = a.in_file i p bytes found in
          (moved_page content now id journal m p ∙ there.0, there.1 ∙ sym size);
      kept = λ p bytes found none. moved_page content now id journal m p ∙ a.kept p bytes found none;
    }

-- the first bytes of a write are some of its bytes
pub torn_front : (file : FileNo) (at : ℕ) (bytes : List ℕ) (P : Operation → Type 0) → ((front rest : List ℕ) → bytes ≡ front ++ rest → P (Write file at front)) → (part : Operation) → IsTorn (Write file at bytes) part → P part
torn_front file at bytes P each (Write other place front) torn =
    let is : Write file at front ≡ Write other place front = by_parts torn.0 torn.1 in
    subst P is (each front torn.2.0 torn.2.1)
  where
    by_parts : file ≡ other → at ≡ place → Write file at front ≡ Write other place front
    by_parts f a = ap (λ (x : FileNo). Write x at front) f ∙ ap (λ (n : ℕ). Write other n front) a
torn_front file at bytes P each (Cut other size) torn = absurd torn

front_long : (bytes front rest : List ℕ) → bytes ≡ front ++ rest → length front + length rest ≡ length bytes
front_long bytes front rest is = sym (ap length is ∙ length-append front rest)

front_whole : (bytes front rest : List ℕ) → bytes ≡ front ++ rest → length bytes ≤ length front → front ≡ bytes
front_whole bytes front [] is long = sym (is ∙ append-nil front)
front_whole bytes front (r ∷ rest) is long = absurd (let sum = front_long bytes front (r ∷ rest) is in omega arith)

module _ (content : Content) (pages : List (List ℕ)) (journalled written : Works) (a : AtWork content pages journalled written) (id : ℕ) (low : id < 16) where
  pub made_works : journal_of content id ≡ [] → Makes content (cut_of id) pages pages journalled written
  made_works none =
      let now = made_by (cut_of id) content in
      let size = file_page_size content in
      let m : IsMoved content now id [] = moved content id [] a.files low in
      let recovers : Recovers now pages = same_hot_keeps content now id [] m pages a.recovers (bare_other size) (ap (hot_records size) (sym none)) in
      record {
        covered = refl;
        torn = λ part torn. absurd torn;
        made =
            moved_work content now pages journalled written a id [] journalled m recovers (subst (λ (j : List ℕ). Journals size j (journalled id)) none (a.journals id low))
            (λ i other q. refl) a.numbered a.apart a.before (λ i p has. has);
      }

  module _ (nonce count : ℕ) (small : nonce < 2 ^ 32) (none : journal_of content id ≡ []) where
    abbrev head : List ℕ
    head = head_bytes nonce count (file_page_size content)

    bare : hot_of content id ≡ []
    bare = ap (hot_records (file_page_size content)) none ∙ bare_hot (file_page_size content)

    head_own : (front rest : List ℕ) → head ≡ front ++ rest → (is_other (file_page_size content) front ≡ false) × (hot_records (file_page_size content) front ≡ hot_of content id)
    head_own front rest is = ⊎_elim
        (λ (short : length front < 512).
        (let no_head : has_head front ≡ false = short_head front short in rw no_head refl, short_hot (file_page_size content) front short ∙ sym bare))
        (λ (long : 512 ≤ length front).
        let all : front ≡ head = front_whole head front rest is (let size_is : length head ≡ 512 = head_long nonce count (file_page_size content) in omega arith) in
        let w : IsWritten (file_page_size content) [] head = head_written nonce count (file_page_size content) small in
        let fits = page_fits content pages a.recovers in (
          ap (is_other (file_page_size content)) all ∙ written_own (file_page_size content) [] head fits w,
          ap (hot_records (file_page_size content)) all ∙ written_hot (file_page_size content) [] head fits w ∙ sym bare,
        ))
        (cases_lt (length front) 512)

    head_moved : (front : List ℕ) → IsMoved content (made_by (Write (Journal id) 0 front) content) id front
    head_moved front =
        subst (λ (at : ℕ). IsMoved content (made_by (Write (Journal id) at front) content) id front) (ap length none)
        (subst (IsMoved content (made_by (Write (Journal id) (length (journal_of content id)) front) content) id) (ap (λ (j : List ℕ). j ++ front) none) (moved_behind content id front a.files low))

    head_keeps : (front rest : List ℕ) → head ≡ front ++ rest → Recovers (made_by (Write (Journal id) 0 front) content) pages
    head_keeps front rest is =
        let own = head_own front rest is in
        same_hot_keeps content (made_by (Write (Journal id) 0 front) content) id front (head_moved front) pages a.recovers own.0 own.1

    head_saves : Journals (file_page_size content) head (journalled id)
    head_saves = inr (record {
      saved = [];
      written = head_written nonce count (file_page_size content) small;
      whole = head_whole nonce count (file_page_size content) small;
      holds = λ p. sym (nothing p (a.journals id low));
    })
      where
        nothing : (p : ℕ) → Journals (file_page_size content) (journal_of content id) (journalled id) → is_some (journalled id p) ≡ false
        nothing p journals = ⊎_elim
            (λ (empty : (journal_of content id ≡ []) × ((q : ℕ) → is_some (journalled id q) ≡ false)). empty.1 p)
            (λ (j : IsJournal (file_page_size content) (journal_of content id) (journalled id)).
            let long : 512 ≤ length (journal_of content id) = written_long (file_page_size content) j.saved (journal_of content id) j.written in absurd (omega (arith, ap length none)))
            journals

    pub head_works : Makes content (Write (Journal id) 0 head) pages pages journalled written
    head_works = record {
      covered = sym (ap length none);
      torn = torn_front (Journal id) 0 head (λ part. Recovers (made_by part content) pages) head_keeps;
      made =
          moved_work content (made_by (Write (Journal id) 0 head) content) pages journalled written a id head journalled (head_moved head) (head_keeps head [] (sym (append-nil head))) head_saves
          (λ i other q. refl) a.numbered a.apart a.before (λ i p has. has);
    }

  module _ (p : ℕ) (begun : journal_of content id ≢ []) (some : 1 ≤ p) (within : p ≤ length pages) (free : (i : ℕ) → has_page journalled i p ≡ false) where
    -- the journal as it was written
    own_journal : IsJournal (file_page_size content) (journal_of content id) (journalled id)
    own_journal = ⊎_elim
        (λ (empty : (journal_of content id ≡ []) × ((q : ℕ) → is_some (journalled id q) ≡ false)). absurd (begun empty.0))
        (λ (j : IsJournal (file_page_size content) (journal_of content id) (journalled id)). j)
        (a.journals id low)

    abbrev saved_page : Saved
    saved_page = record { page = p; content = file_page content p }

    -- a page that nobody journalled is in the file as it is recovered
    own_page : page_at pages p ≡ Some (file_page content p)
    own_page =
        let there : page_at pages p ≡ Some (page_in pages p) = page_there pages p some within in
        there ∙ ap (λ (bytes : List ℕ). Some bytes) (sym (a.kept p (page_in pages p) there (none_written content pages journalled written a p within free)))

    savable : IsSavable (file_page_size content) saved_page
    savable = record {
      named = λ none. let is : p ≡ 0 = none in omega arith;
      fits = number_fits content pages p a.recovers within;
      sized = page_sized content pages journalled written a p (file_page content p) own_page;
    }

    abbrev bytes : List ℕ
    bytes = record_bytes own_journal.written.nonce p (file_page content p)

    long : length bytes ≡ file_page_size content + 8
    long = record_long own_journal.written.nonce p (file_page content p) ∙ ap (λ (n : ℕ). n + 8) savable.sized

    hot : hot_of content id ≡ own_journal.saved
    hot = written_hot (file_page_size content) own_journal.saved (journal_of content id) (page_fits content pages a.recovers) own_journal.written

    abbrev now : List ℕ → Content
    now front = made_by (Write (Journal id) (length (journal_of content id)) front) content

    record_moved : (front : List ℕ) → IsMoved content (now front) id (journal_of content id ++ front)
    record_moved front = moved_behind content id front a.files low

    abbrev more_written : IsWritten (file_page_size content) (own_journal.saved ++ saved_page ∷ []) (journal_of content id ++ bytes)
    more_written = record_written (file_page_size content) own_journal.saved (journal_of content id) saved_page own_journal.written own_journal.whole savable

    abbrev more : Works
    more = with_page id p (file_page content p) journalled

    more_holds : (q : ℕ) → list_any (is_of q) (own_journal.saved ++ saved_page ∷ []) ≡ is_some (more id q)
    more_holds q =
        list_any-append (is_of q) own_journal.saved (saved_page ∷ [])
        ∙ ⊎_elim
        (λ (here : q ≡ p).
        ap (λ (hit : Bool). list_any (is_of q) own_journal.saved || (hit || false)) (eq-eqb p q (sym here))
        ∙ either (list_any (is_of q) own_journal.saved)
        ∙ sym (ap (λ (n : ℕ). is_some (more id n)) here ∙ ap is_some (with_at id p (file_page content p) journalled)))
        (λ (other : q ≢ p).
        ap (λ (hit : Bool). list_any (is_of q) own_journal.saved || (hit || false)) (ne_eqb p q (λ same. other (sym same)))
        ∙ neither (list_any (is_of q) own_journal.saved)
        ∙ own_journal.holds q
        ∙ sym (ap is_some (with_other_page id p (file_page content p) journalled id q other)))
        (cases_eq q p)
      where
        either : (x : Bool) → (x || true) ≡ true
        either true = refl
        either false = refl

        neither : (x : Bool) → (x || false) ≡ x
        neither true = refl
        neither false = refl

    more_journal : IsJournal (file_page_size content) (journal_of content id ++ bytes) (more id)
    more_journal = record {
      saved = own_journal.saved ++ saved_page ∷ [];
      written = more_written;
      whole = record_whole (file_page_size content) own_journal.saved (journal_of content id) saved_page own_journal.written own_journal.whole savable;
      holds = more_holds;
    }

    more_apart : (q i j : ℕ) → has_page more i q ≡ true → has_page more j q ≡ true → i ≡ j
    more_apart q i j has_i has_j = ⊎_elim
        (λ (new : (i ≡ id) × (q ≡ p)).
        ⊎_elim
        (λ (also : (j ≡ id) × (q ≡ p)). new.0 ∙ sym also.0)
        (λ (old : has_page journalled j q ≡ true). absurd (let both : true ≡ false = sym old ∙ ap (has_page journalled j) new.1 ∙ free j in cc))
        (had_before id p (file_page content p) journalled j q has_j))
        (λ (old : has_page journalled i q ≡ true).
        ⊎_elim
        (λ (new : (j ≡ id) × (q ≡ p)). absurd (let both : true ≡ false = sym old ∙ ap (has_page journalled i) new.1 ∙ free i in cc))
        (λ (also : has_page journalled j q ≡ true). a.apart q i j old also)
        (had_before id p (file_page content p) journalled j q has_j))
        (had_before id p (file_page content p) journalled i q has_i)

    more_numbered : (i q : ℕ) → has_page more i q ≡ true → i < 16
    more_numbered i q has = ⊎_elim
        (λ (new : (i ≡ id) × (q ≡ p)). let is = new.0 in omega arith)
        (λ (old : has_page journalled i q ≡ true). a.numbered i q old)
        (had_before id p (file_page content p) journalled i q has)

    more_before : (i q : ℕ) (found : List ℕ) → more i q ≡ Some found → page_at pages q ≡ Some found
    more_before i q found is = ⊎_elim
        (λ (new : (i ≡ id) × (q ≡ p) × (file_page content p ≡ found)). ap (page_at pages) new.1 ∙ own_page ∙ ap (λ (x : List ℕ). Some x) new.2)
        (λ (old : ((i ≡ id) → q ≢ p) × (journalled i q ≡ Some found)). a.before i q found old.1)
        (gave_before id p (file_page content p) journalled i q found is)

    others_same : (i : ℕ) → i ≢ id → (q : ℕ) → is_some (more i q) ≡ is_some (journalled i q)
    others_same i other q = ap is_some (with_other_id id p (file_page content p) journalled i q other)

    more_saved : AreSaved (now bytes) more
    more_saved =
        let same : file_page_size (now bytes) ≡ file_page_size content = moved_size content (now bytes) id (journal_of content id ++ bytes) (record_moved bytes) in
        record {
          fits = rw same (page_fits content pages a.recovers);
          journals = λ i i_low.
              ⊎_elim
              (λ (here : i ≡ id).
              subst (λ (n : ℕ). Journals (file_page_size (now bytes)) (journal_of (now bytes) n) (more n)) (sym here) (rw (same, (record_moved bytes).own) (inr more_journal)))
              (λ (other : i ≢ id).
              rw (same, (record_moved bytes).others i other) (journals_same (file_page_size content) (journal_of content i) (journalled i) (more i) (others_same i other) (a.journals i i_low)))
              (cases_eq i id);
          numbered = more_numbered;
          apart = more_apart;
        }

    -- another page has the same first record
    found_other : (q : ℕ) → q ≢ p → find (is_of q) (all_hot (now bytes)) ≡ find (is_of q) (all_hot content)
    found_other q other = find_same (hot_of (now bytes)) (hot_of content) q 0 16 (λ i from to.
        ⊎_elim
        (λ (here : i ≡ id).
        rw here
        (ap (find (is_of q)) (moved_own content (now bytes) id (journal_of content id ++ bytes) (record_moved bytes) ∙ written_hot (file_page_size content) (own_journal.saved ++ saved_page ∷ []) (journal_of content id ++ bytes) (page_fits content pages a.recovers) more_written)
        ∙ find-append (is_of q) own_journal.saved (saved_page ∷ [])
        ∙ rw (ne_eqb p q (λ same. other (sym same))) (last (find (is_of q) own_journal.saved))
        ∙ ap (find (is_of q)) (sym hot)))
        (λ (apart : i ≢ id). ap (find (is_of q)) (moved_hot content (now bytes) id (journal_of content id ++ bytes) (record_moved bytes) i apart))
        (cases_eq i id))
      where
        last : (found : Option Saved) → option_or found None ≡ found
        last None = refl
        last (Some s) = refl

    -- the page is saved as the file has it
    found_page : find (is_of p) (all_hot (now bytes)) ≡ Some saved_page
    found_page =
        find_holder (hot_of (now bytes)) p id 0 16
        (λ i from to other. saved_holds (now bytes) more more_saved p i (omega arith) ∙ others_same i other p ∙ free i)
        (omega arith) (omega arith)
        ∙ ap (find (is_of p)) (moved_own content (now bytes) id (journal_of content id ++ bytes) (record_moved bytes) ∙ written_hot (file_page_size content) (own_journal.saved ++ saved_page ∷ []) (journal_of content id ++ bytes) (page_fits content pages a.recovers) more_written)
        ∙ find-append (is_of p) own_journal.saved (saved_page ∷ [])
        ∙ rw (eq-eqb p p refl) (first (find (is_of p) own_journal.saved) (find_no p own_journal.saved (own_journal.holds p ∙ free id)))
      where
        first : (found : Option Saved) → found ≡ None → option_or found (Some saved_page) ≡ Some saved_page
        first found none = rw none refl

    own_image : image_of (now bytes) p ≡ image_of content p
    unfolding image_of
    own_image =
        ap (λ (found : Option Saved). with_front (now bytes) p (saved_or (file_page (now bytes) p) found)) found_page
        ∙ ap (λ (file : List ℕ). if p == 1 then take 24 file ++ drop 24 (file_page content p) else file_page content p) (record_moved bytes).database
        ∙ ap (λ (found : Option Saved). with_front content p (saved_or (file_page content p) found)) (sym (found_none content journalled (are_saved content pages journalled written a) p free))

    record_keeps : Recovers (now bytes) pages
    record_keeps =
        let m = record_moved bytes in
        let has : HasPages content pages = opened content pages a.recovers in
        let read : IsReadable (bytes_of content Database) = page_range content pages a.recovers in
        let same : file_page_size (now bytes) ≡ file_page_size content = moved_size content (now bytes) id (journal_of content id ++ bytes) m in
        keeps content (now bytes) pages (record {
          front = rw m.database (front-refl (bytes_of content Database) read.long);
          sized = saved_other (now bytes) more more_saved;
          apart = saved_shared (now bytes) more more_saved;
          count = ap (λ (f : List ℕ). page_count_of (recovered_header content) (length f)) m.database;
          images = λ q from to.
              ⊎_elim
              (λ (here : q ≡ p). rw here own_image)
              (λ (other : q ≢ p). image_same content (now bytes) q (ap (take 24) m.database) (found_other q other) (λ lacks. moved_page content (now bytes) id (journal_of content id ++ bytes) m q))
              (cases_eq q p);
          there = λ q from to.
              ⊎_elim
              (λ (here : q ≡ p). rw here (or_left (is_held (now bytes) p) (nat_le (p * file_page_size (now bytes)) (length (bytes_of (now bytes) Database))) (ap is_some found_page)))
              (λ (other : q ≢ p). rw (found_other q other, same, m.database) (page_passes (is_there content) (length pages) q has.there from to))
              (cases_eq q p);
        }) a.recovers

    torn_keeps : (front rest : List ℕ) → bytes ≡ front ++ rest → Recovers (now front) pages
    torn_keeps front rest is = ⊎_elim
        (λ (short : length front < file_page_size content + 8).
        let w : IsWritten (file_page_size content) own_journal.saved (journal_of content id ++ front) =
        torn_written (file_page_size content) own_journal.saved (journal_of content id) front own_journal.written own_journal.whole short in
        let fits = page_fits content pages a.recovers in
        same_hot_keeps content (now front) id (journal_of content id ++ front) (record_moved front) pages a.recovers
        (written_own (file_page_size content) own_journal.saved (journal_of content id ++ front) fits w)
        (written_hot (file_page_size content) own_journal.saved (journal_of content id ++ front) fits w ∙ sym hot))
        (λ (whole : file_page_size content + 8 ≤ length front). rw (front_whole bytes front rest is (omega (arith, long))) record_keeps)
        (cases_lt (length front) (file_page_size content + 8))

    record_makes : Makes content (Write (Journal id) (length (journal_of content id)) bytes) pages pages more written
    record_makes = record {
      covered = refl;
      torn = torn_front (Journal id) (length (journal_of content id)) bytes (λ part. Recovers (made_by part content) pages) torn_keeps;
      made =
          moved_work content (now bytes) pages journalled written a id (journal_of content id ++ bytes) more (record_moved bytes) record_keeps (inr more_journal)
          others_same more_numbered more_apart more_before (λ i q has. now_has id p (file_page content p) journalled i q has);
    }

    pub record_works : Makes content (Write (Journal id) (length (journal_of content id)) (record_bytes (u32_at (journal_of content id) 12) p (file_page content p))) pages pages more written
    record_works = rw (written_nonce (file_page_size content) own_journal.saved (journal_of content id) own_journal.written) record_makes
