-- A transaction's journal is cut: it commits, or has nothing left to undo.
use Rattle.std.proofs.Common.{◌≡◌, ◌≢◌, ℕ, ◌*◌, ◌<◌, ◌≤◌, ◌^◌, List, [], ◌∷◌, length, map, take, refl, sym, ap, ◌∙◌, arith, subst, true, false, Option, Some, None, Ok, ⊎_elim, inl, inr}
use Rattle.std.specs.Prelude.{is_some, nat_le, unwrap_or}
use Rattle.std.specs.List.{find}
use Rattle.std.proofs.Math.Path.{fun_ext}
use Rattle.std.proofs.lemmas.Bool.{cases_Bool, cases_eq, cases_lt, false_from_ne_true, le-leb, le-ltb, or_left, or_right}
use Rattle.spe_model.specs.declared.file.FileNo.TheVariants.{Database}
use Rattle.spe_model.specs.declared.header.Header.{Header}
use Rattle.spe_model.specs.declared.header.HeaderFault.TheVariants.{Short, NotADatabase, Wal, BadPageSize}
use Rattle.spe_model.specs.Content.{Content, bytes_of}
use Rattle.spe_model.specs.Covered.{Recovers, is_held}
use Rattle.spe_model.specs.Header.{fields, has_fault, header_of, is_size_valid, page_count_of}
use Rattle.spe_model.specs.Paging.{PageMap, Paging, lay}
use Rattle.spe_model.specs.Recovery.{all_hot, file_page, file_page_size, image_of, is_of, is_there, journal_of, pages_to, recovered_header}
use Rattle.spe_model.specs.Rollback.{cut_of}
use Rattle.spe_model.specs.Settled.{header_in, page_in}
use Rattle.spe_model.specs.Trace.{made_by}
use Rattle.spe_journal.proofs.HotLemmas.{written_long}
use Rattle.spe_crash.proofs.FrontLemmas.{IsReadable}
use Rattle.spe_crash.proofs.KeepLemmas.{image_same}
use Rattle.spe_crash.proofs.NumbersLemmas.{pages_pass, pages_same, pages_to-length}
use Rattle.spe_crash.proofs.PagesLemmas.{HasPages, closed, opened, some_pages}
use Rattle.spe_transactions.specs.Made.{Makes}
use Rattle.spe_transactions.specs.Steps.{BareEnds}
use Rattle.spe_transactions.specs.Pages.{IsAdded, MayCommit, laid_pages, named_count, page_at}
use Rattle.spe_transactions.specs.Work.{AtWork, IsJournal, Works, has_page, without_id}
use Rattle.spe_transactions.proofs.MovedLemmas.{IsMoved, moved, moved_hot, moved_page, moved_size}
use Rattle.spe_transactions.proofs.PageLemmas.{IsAt, image_free, image_is, is_at, page_counted, page_there, pages_are}
use Rattle.spe_transactions.proofs.PutLemmas.{ends_within, page_range}
use Rattle.spe_transactions.proofs.SavedLemmas.{AreSaved, found_none, found_own, holder_of, own_held, saved_other, saved_shared}
use Rattle.spe_transactions.proofs.WorkLemmas.{are_saved, count_named, count_told, valid_count, header_legal, journalled_at, page_fits, page_sized, small_enough}
use Rattle.spe_transactions.proofs.WorksLemmas.{dropped_other, dropped_own, journals_same, still_gives, still_has}

header_now : (content : Content) (new : List (List ℕ)) → image_of content 1 ≡ page_in new 1 → recovered_header content ≡ header_in new
unfolding recovered_header
header_now content new first = ap (λ (page : List ℕ). fields (take 100 page)) first

-- the pages that are recovered once the journal of one transaction is cut
record AreNext (content : Content) (pages new : List (List ℕ)) (id : ℕ) (journalled : Works) : Type 0 where
  legal : header_of (take 100 (page_in new 1)) ≡ Ok (header_in new)
  count : page_count_of (header_in new) (length (bytes_of content Database)) ≡ length new
  more : length pages ≤ length new
  small : length new * file_page_size content ≤ 2 ^ 30
  sized : (p : ℕ) → 1 ≤ p → p ≤ length new → length (page_in new p) ≡ file_page_size content
  held : (i p : ℕ) → i ≢ id → has_page journalled i p ≡ true → page_in new p ≡ page_in pages p
  free : (p : ℕ) → 1 ≤ p → p ≤ length new → ((i : ℕ) → has_page (without_id id journalled) i p ≡ false) → file_page content p ≡ page_in new p

module _ (content : Content) (pages : List (List ℕ)) (journalled written : Works) (a : AtWork content pages journalled written) (id : ℕ) (low : id < 16) where
  abbrev now : Content
  now = made_by (cut_of id) content

  abbrev left : Works
  left = without_id id journalled

  cut : IsMoved content now id []
  cut = moved content id [] a.files low

  same_size : file_page_size now ≡ file_page_size content
  same_size = moved_size content now id [] cut

  left_saved : AreSaved now left
  left_saved = record {
    fits = rw same_size (page_fits content pages a.recovers);
    journals = λ i i_low.
        ⊎_elim
        (λ (here : i ≡ id). inl (ap (journal_of now) here ∙ cut.own, λ p. ap (λ (n : ℕ). is_some (left n p)) here ∙ ap is_some (dropped_own id journalled p)))
        (λ (other : i ≢ id).
        rw (same_size, cut.others i other)
        (journals_same (file_page_size content) (journal_of content i) (journalled i) (left i) (λ q. ap is_some (dropped_other id journalled i q other)) (a.journals i i_low)))
        (cases_eq i id);
    numbered = λ i p has. a.numbered i p (still_has id journalled i p has).1;
    apart = λ p i j has_i has_j. a.apart p i j (still_has id journalled i p has_i).1 (still_has id journalled j p has_j).1;
  }

  -- a page that no other transaction journalled is none that another wrote, up to the count
  others_lack : (p : ℕ) → p ≤ length pages → ((i : ℕ) → has_page left i p ≡ false) → (i : ℕ) → i ≢ id → has_page written i p ≡ false
  others_lack p within none i other = false_from_ne_true (has_page written i p) (λ has.
      ⊎_elim
      (λ (own : has_page journalled i p ≡ true). let both : true ≡ false = sym own ∙ sym (ap is_some (dropped_other id journalled i p other)) ∙ none i in cc)
      (λ (added : IsAdded pages (journalled i) p). let high = added.above in absurd (omega arith))
      (a.placed i p has))

  -- a page that another transaction journalled is not written by this one
  own_lacks : (i p : ℕ) → i ≢ id → has_page journalled i p ≡ true → has_page written id p ≡ false
  own_lacks i p other also = false_from_ne_true (has_page written id p) (λ has.
      ⊎_elim
      (λ (own : has_page journalled id p ≡ true). other (a.apart p i id also own))
      (λ (added : IsAdded pages (journalled id) p).
      let high = added.above in let within = (journalled_at content pages journalled written a i p also).2.high in absurd (omega arith))
      (a.placed id p has))

  module _ (new : List (List ℕ)) (n : AreNext content pages new id journalled) where
    -- another transaction journalled the page, or none
    by_holder : (P : Type 0) (p : ℕ) → ((i : ℕ) → i ≢ id → has_page journalled i p ≡ true → P) → (((i : ℕ) → has_page left i p ≡ false) → P) → P
    by_holder P p one none = ⊎_elim
        (λ (held : is_held now p ≡ true).
        let holder = holder_of now left left_saved p held in
        let both = still_has id journalled holder.0 p holder.1 in
        one holder.0 both.0 both.1)
        (λ (free : is_held now p ≡ false).
        none (λ i. false_from_ne_true (has_page left i p) (λ has. let both : true ≡ false = sym (own_held now left left_saved p i has) ∙ free in cc)))
        (cases_Bool (is_held now p))

    some : 1 ≤ length new
    some = let old : 1 ≤ length pages = some_pages content pages (opened content pages a.recovers) in let more = n.more in omega arith

    next_image : (p : ℕ) → 1 ≤ p → p ≤ length new → image_of now p ≡ page_in new p
    next_image p from to = by_holder (image_of now p ≡ page_in new p) p
        (λ i other has.
        let still : has_page left i p ≡ true = ap is_some (dropped_other id journalled i p other) ∙ has in
        let found : find (is_of p) (all_hot now) ≡ find (is_of p) (all_hot content) =
        found_own now left left_saved p i still ∙ ap (find (is_of p)) (moved_hot content now id [] cut i other) ∙ sym (found_own content journalled (are_saved content pages journalled written a) p i has) in
        image_same content now p (ap (take 24) cut.database) found (λ lacks. moved_page content now id [] cut p)
        ∙ image_is content pages a.recovers p from (journalled_at content pages journalled written a i p has).2.high
        ∙ sym (n.held i p other has))
        (λ none.
        let read : IsReadable (bytes_of content Database) = page_range content pages a.recovers in
        image_free now p (rw same_size read.low) (found_none now left left_saved p none)
        ∙ moved_page content now id [] cut p
        ∙ n.free p from to none)

    next_there : (p : ℕ) → 1 ≤ p → p ≤ length new → is_there now p ≡ true
    next_there p from to = by_holder (is_there now p ≡ true) p
        (λ i other has.
        or_left (is_held now p) (nat_le (p * file_page_size now) (length (bytes_of now Database)))
        (own_held now left left_saved p i (ap is_some (dropped_other id journalled i p other) ∙ has)))
        (λ none.
        let end : p * file_page_size content ≤ length (bytes_of content Database) = ends_within content pages p a.recovers from (ap length (n.free p from to none) ∙ n.sized p from to) in
        or_right (is_held now p) (nat_le (p * file_page_size now) (length (bytes_of now Database))) (rw (same_size, cut.database) (le-leb (p * file_page_size content) (length (bytes_of content Database)) end)))

    next_recovers : Recovers now new
    next_recovers =
        let has : HasPages content pages = opened content pages a.recovers in
        let first : image_of now 1 ≡ page_in new 1 = next_image 1 (omega arith) some in
        let header : recovered_header now ≡ header_in new = header_now now new first in
        closed now new (record {
          front = ap (λ (bytes : List ℕ). find (has_fault (take 100 bytes)) (Short ∷ NotADatabase ∷ Wal ∷ BadPageSize ∷ [])) cut.database ∙ has.front;
          sized = saved_other now left left_saved;
          apart = saved_shared now left left_saved;
          header = ap (λ (page : List ℕ). header_of (take 100 page)) first ∙ n.legal ∙ ap (λ (h : Header). Ok h) (sym header);
          count = sym (ap (λ (h : Header). page_count_of h (length (bytes_of now Database))) header ∙ ap (λ (bytes : List ℕ). page_count_of (header_in new) (length bytes)) cut.database ∙ n.count);
          small = rw same_size (le-ltb (2 ^ 30) (length new * file_page_size content) n.small);
          there = pages_pass (is_there now) (length new) next_there;
          images = pages_are new ∙ sym (pages_same (image_of now) (page_in new) (length new) next_image);
        })

    at_new : (p : ℕ) → 1 ≤ p → p ≤ length pages → (bytes : List ℕ) → page_at pages p ≡ Some bytes → page_in new p ≡ page_in pages p → page_at new p ≡ Some bytes
    at_new p from to bytes found same =
        let more = n.more in
        page_there new p from (omega arith) ∙ ap (λ (x : List ℕ). Some x) (same ∙ (is_at pages p bytes found).is)

    same_header : (i : ℕ) → i ≢ id → has_page journalled i 1 ≡ true → header_in new ≡ header_in pages
    same_header i other has = ap (λ (page : List ℕ). fields (take 100 page)) (n.held i 1 other has)

    -- another transaction that journalled page 1 keeps the count
    same_count : (i : ℕ) → i ≢ id → has_page journalled i 1 ≡ true → length new ≡ length pages
    same_count i other has =
        sym n.count ∙ ap (λ (h : Header). page_count_of h (length (bytes_of content Database))) (same_header i other has) ∙ count_told content pages a.recovers

    cut_work : AtWork now new left (without_id id written)
    cut_work = record {
      files = cut.files ∙ a.files;
      recovers = next_recovers;
      sized = λ p bytes found.
          let at : IsAt new p bytes = is_at new p bytes found in
          ap length (sym at.is) ∙ n.sized p at.low at.high ∙ sym same_size;
      journals = left_saved.journals;
      numbered = left_saved.numbered;
      apart = left_saved.apart;
      before = λ i p bytes found.
          let was = still_gives id journalled i p bytes found in
          let at : IsAt pages p bytes = is_at pages p bytes (a.before i p bytes was.1) in
          at_new p at.low at.high bytes (a.before i p bytes was.1) (n.held i p was.0 (ap is_some was.1));
      placed = λ i p has.
          let was = still_has id written i p has in
          ⊎_elim
          (λ (own : has_page journalled i p ≡ true). inl (ap is_some (dropped_other id journalled i p was.0) ∙ own))
          (λ (added : IsAdded pages (journalled i) p).
          inr
          (record {
            above = rw (same_count i was.0 added.first) added.above;
            counted = ap is_size_valid (same_header i was.0 added.first) ∙ added.counted;
            first = ap is_some (dropped_other id journalled i 1 was.0) ∙ added.first;
          }))
          (a.placed i p was.1);
      in_file = λ i p bytes found.
          let was = still_gives id written i p bytes found in
          let there = a.in_file i p bytes was.1 in
          (moved_page content now id [] cut p ∙ there.0, there.1 ∙ sym same_size);
      kept = λ p bytes found none.
          let at : IsAt new p bytes = is_at new p bytes found in
          moved_page content now id [] cut p
          ∙ by_holder (file_page content p ≡ bytes) p
          (λ i other has.
          let j = journalled_at content pages journalled written a i p has in
          let there : page_at pages p ≡ Some (page_in pages p) = page_there pages p at.low j.2.high in
          a.kept p (page_in pages p) there (none_now p i other has none) ∙ sym (n.held i p other has) ∙ at.is)
          (λ free. n.free p at.low at.high free ∙ at.is);
    }
      where
        none_now : (p i : ℕ) → i ≢ id → has_page journalled i p ≡ true → ((j : ℕ) → has_page (without_id id written) j p ≡ false) → (j : ℕ) → has_page written j p ≡ false
        none_now p i other has none j = ⊎_elim
            (λ (own : j ≡ id). ap (λ (m : ℕ). has_page written m p) own ∙ own_lacks i p other has)
            (λ (apart : j ≢ id). sym (ap is_some (dropped_other id written j p apart)) ∙ none j)
            (cases_eq j id)

    cut_makes : Makes content (cut_of id) pages new left (without_id id written)
    cut_makes = record { covered = refl; torn = λ part torn. absurd torn; made = cut_work }

  -- nothing is left to undo
  pub drop_works : ((p : ℕ) → has_page journalled id p ≡ true → has_page written id p ≡ false) → Makes content (cut_of id) pages pages left (without_id id written)
  drop_works undone = cut_makes pages (record {
    legal = header_legal content pages a.recovers;
    count = count_told content pages a.recovers;
    more = omega arith;
    small = small_enough content pages a.recovers;
    sized = λ p from to. page_sized content pages journalled written a p (page_in pages p) (page_there pages p from to);
    held = λ i p other has. refl;
    free = λ p from to none. a.kept p (page_in pages p) (page_there pages p from to) (λ i.
        ⊎_elim
        (λ (own : i ≡ id). ap (λ (m : ℕ). has_page written m p) own ∙ own_free p to)
        (λ (other : i ≢ id). others_lack p to none i other)
        (cases_eq i id));
  })
    where
      own_free : (p : ℕ) → p ≤ length pages → has_page written id p ≡ false
      own_free p to = false_from_ne_true (has_page written id p) (λ has.
          ⊎_elim
          (λ (own : has_page journalled id p ≡ true). let both : true ≡ false = sym has ∙ undone p own in cc)
          (λ (added : IsAdded pages (journalled id) p). let high = added.above in absurd (omega arith))
          (a.placed id p has))

  -- what was written is committed
  module _ (m : MayCommit pages (written id) (file_page_size content)) where
    abbrev next : Paging
    next = lay (written id) (page_in pages)

    abbrev committed : List (List ℕ)
    committed = laid_pages pages (written id)

    size : length committed ≡ named_count (next 1)
    size = pages_to-length next (named_count (next 1))

    each : (p : ℕ) → 1 ≤ p → p ≤ length committed → page_in committed p ≡ next p
    each p from to = (is_at committed p (next p) (page_counted next (named_count (next 1)) p from (omega (arith, size)))).is

    -- a page of the new ones was written, or is one of the old
    by_written : (P : List ℕ → Type 0) (p : ℕ) → 1 ≤ p → p ≤ length committed → ((bytes : List ℕ) → written id p ≡ Some bytes → P bytes)
        → (p ≤ length pages → has_page written id p ≡ false → P (page_in pages p)) → P (next p)
    by_written P p from to own old = by_found (written id p) refl
      where
        by_found : (found : Option (List ℕ)) → written id p ≡ found → P (unwrap_or found (page_in pages p))
        by_found (Some bytes) e = own bytes e
        by_found None e = old (below (ap is_some e)) (ap is_some e)
          where
            below : has_page written id p ≡ false → p ≤ length pages
            below lacks = ⊎_elim
                (λ (above : length pages < p). absurd (let both : true ≡ false = sym (m.added p above (omega (arith, size))) ∙ lacks in cc))
                (λ (within : p ≤ length pages). within)
                (cases_lt (length pages) p)

    are_next : AreNext content pages committed id journalled
    are_next =
        let old : 1 ≤ length pages = some_pages content pages (opened content pages a.recovers) in
        let low_m = m.low in
        let first : page_in committed 1 ≡ next 1 = each 1 (omega arith) (omega (arith, size)) in
        record {
          legal = rw first m.legal;
          count = valid_count (header_in committed) (length (bytes_of content Database)) (length committed) (rw first m.valid) (ap named_count first ∙ sym size);
          more = omega (arith, size);
          small = rw size m.small;
          sized = λ p from to.
              ap length (each p from to)
              ∙ by_written (λ bytes. length bytes ≡ file_page_size content) p from to
              (λ bytes found. (a.in_file id p bytes found).1)
              (λ within lacks. page_sized content pages journalled written a p (page_in pages p) (page_there pages p from within));
          held = λ i p other has.
              let at = (journalled_at content pages journalled written a i p has).2 in
              let from = at.low in
              let to = at.high in
              each p from (omega (arith, size)) ∙ unwritten p (own_lacks i p other has);
          free = λ p from to none.
              by_written (λ bytes. file_page content p ≡ bytes) p from to
              (λ bytes found. (a.in_file id p bytes found).0)
              (λ within lacks.
              a.kept p (page_in pages p) (page_there pages p from within) (λ i.
              ⊎_elim
              (λ (own : i ≡ id). ap (λ (k : ℕ). has_page written k p) own ∙ lacks)
              (λ (other : i ≢ id). others_lack p within none i other)
              (cases_eq i id)))
              ∙ sym (each p from to);
        }
      where
        unwritten : (p : ℕ) → has_page written id p ≡ false → next p ≡ page_in pages p
        unwritten p lacks = by_found (written id p) lacks
          where
            by_found : (found : Option (List ℕ)) → is_some found ≡ false → unwrap_or found (page_in pages p) ≡ page_in pages p
            by_found None e = refl
            by_found (Some bytes) e = absurd cc

    pub commit_works : Makes content (cut_of id) pages committed left (without_id id written)
    commit_works = cut_makes committed are_next

-- a transaction without a journal has nothing
pub bare_has_none : (content : Content) (pages : List (List ℕ)) (journalled written : Works) → AtWork content pages journalled written → (id : ℕ) → id < 16 → journal_of content id ≡ []
    → (p : ℕ) → (has_page journalled id p ≡ false) × (has_page written id p ≡ false)
bare_has_none content pages journalled written a id low none p = (
  lacks p,
  false_from_ne_true (has_page written id p) (λ has.
      ⊎_elim
      (λ (own : has_page journalled id p ≡ true). let both : true ≡ false = sym own ∙ lacks p in cc)
      (λ (added : IsAdded pages (journalled id) p). let both : true ≡ false = sym added.first ∙ lacks 1 in cc)
      (a.placed id p has)),
)
  where
    lacks : (q : ℕ) → has_page journalled id q ≡ false
    lacks q = ⊎_elim
        (λ (bare : (journal_of content id ≡ []) × ((r : ℕ) → is_some (journalled id r) ≡ false)). bare.1 q)
        (λ (j : IsJournal (file_page_size content) (journal_of content id) (journalled id)).
        absurd (let long : 512 ≤ length (journal_of content id) = written_long (file_page_size content) j.saved (journal_of content id) j.written in omega (arith, ap length none)))
        (a.journals id low)

is_none : (found : Option (List ℕ)) → is_some found ≡ false → None ≡ found
is_none None e = refl
is_none (Some bytes) e = absurd cc

same_without : (id : ℕ) (works : Works) → ((p : ℕ) → has_page works id p ≡ false) → without_id id works ≡ works
same_without id works none = fun_ext (λ i. fun_ext (λ p.
    ⊎_elim
    (λ (own : i ≡ id). ap (λ (n : ℕ). without_id id works n p) own ∙ dropped_own id works p ∙ is_none (works id p) (none p) ∙ ap (λ (n : ℕ). works n p) (sym own))
    (λ (other : i ≢ id). dropped_other id works i p other)
    (cases_eq i id)))

laid_same : (pages : List (List ℕ)) (written : PageMap) → ((p : ℕ) → is_some (written p) ≡ false) → lay written (page_in pages) ≡ page_in pages
laid_same pages written none = fun_ext (λ p. ap (λ (o : Option (List ℕ)). unwrap_or o (page_in pages p)) (sym (is_none (written p) (none p))))

-- a commit that wrote nothing leaves the pages
laid_nothing : (content : Content) (pages : List (List ℕ)) (written : PageMap) → Recovers content pages → ((p : ℕ) → is_some (written p) ≡ false) → MayCommit pages written (file_page_size content)
    → laid_pages pages written ≡ pages
laid_nothing content pages written recovers none m =
    let same : lay written (page_in pages) ≡ page_in pages = laid_same pages written none in
    let valid : is_size_valid (header_in pages) ≡ true = ap (λ (f : Paging). is_size_valid (fields (take 100 (f 1)))) (sym same) ∙ m.valid in
    let count : named_count (page_in pages 1) ≡ length pages = count_named content pages recovers valid in
    ap (λ (f : Paging). map f (pages_to (named_count (f 1)))) same ∙ ap (λ (n : ℕ). map (page_in pages) (pages_to n)) count ∙ sym (pages_are pages)

bare_work : (content : Content) (pages : List (List ℕ)) (journalled written : Works) → AtWork content pages journalled written → (id : ℕ) → id < 16 → journal_of content id ≡ []
    → AtWork content pages (without_id id journalled) (without_id id written)
bare_work content pages journalled written a id low none =
    subst (λ (j : Works). AtWork content pages j (without_id id written)) (sym (same_without id journalled (λ p. (bare_has_none content pages journalled written a id low none p).0)))
    (subst (AtWork content pages journalled) (sym (same_without id written (λ p. (bare_has_none content pages journalled written a id low none p).1))) a)

pub bare_ends : BareEnds
bare_ends content pages journalled written a id low none =
    let has_none : (p : ℕ) → (has_page journalled id p ≡ false) × (has_page written id p ≡ false) = bare_has_none content pages journalled written a id low none in
    record {
      no_journalled = λ p. (has_none p).0;
      no_written = λ p. (has_none p).1;
      work = bare_work content pages journalled written a id low none;
      laid = laid_nothing content pages (written id) a.recovers (λ p. (has_none p).1);
    }

pub commit_leaves : (content : Content) (pages : List (List ℕ)) (journalled written : Works) → AtWork content pages journalled written → (id p : ℕ) (bytes : List ℕ) → MayCommit pages (written id) (file_page_size content)
    → page_at pages p ≡ Some bytes → has_page written id p ≡ false → page_at (laid_pages pages (written id)) p ≡ Some bytes
commit_leaves content pages journalled written a id p bytes m found lacks =
    let at : IsAt pages p bytes = is_at pages p bytes found in
    let low = m.low in
    let high = at.high in
    page_counted (lay (written id) (page_in pages)) (named_count (lay (written id) (page_in pages) 1)) p at.low (omega arith)
    ∙ ap (λ (x : List ℕ). Some x) (ap (λ (o : Option (List ℕ)). unwrap_or o (page_in pages p)) (sym (is_none (written id p) lacks)) ∙ at.is)
