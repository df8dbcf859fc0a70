-- The rollback of hot journals, and stops in it.
use Rattle.std.proofs.Common.{◌≡◌, ℕ, ◌-◌, ◌*◌, ◌<◌, ◌≤◌, List, [], ◌∷◌, ◌++◌, length, map, take, drop, All, refl, arith, sym, ap, ◌∙◌, Bool, true, false, Option, Some, None, ⊎_elim, inl}
use Rattle.std.specs.Prelude.{is_some, nat_le, nat_lt, if◌then◌else◌}
use Rattle.std.specs.List.{find, list_any}
use Rattle.std.proofs.lemmas.Bool.{cases_Bool, le-leb, leb-true}
use Rattle.std.proofs.lemmas.List.Elements.{All-weaker}
use Rattle.spe_model.specs.declared.file.FileNo.TheVariants.{Database}
use Rattle.spe_model.specs.Content.{Content, bytes_of}
use Rattle.spe_model.specs.Covered.{Recovers, is_held}
use Rattle.spe_model.specs.Header.{page_size_at}
use Rattle.spe_model.specs.Journal.{Saved, hot_records, numbers_from}
use Rattle.spe_model.specs.Recovery.{all_hot, file_page, file_page_size, hot_of, image_of, is_of, journal_of, pages_to, saved_or, with_front}
use Rattle.spe_model.specs.Rollback.{any_length, cuts_from, file_cut, firsts, has_length, restores, rule_of}
use Rattle.spe_model.specs.Trace.{Operation, after, made_by}
use Rattle.spe_model.specs.Trace.Operation.{Cut}
use Rattle.spe_crash.proofs.CutLemmas.{cuts_empty, cuts_in, cuts_leave_file, cuts_roll, none_long}
use Rattle.spe_crash.proofs.DatabaseLemmas.{IsKept, KeepsDatabase, database_keeps, whole_page}
use Rattle.spe_crash.proofs.FileLemmas.{file_replaced}
use Rattle.spe_crash.proofs.FirstsLemmas.{IsFirstDue, firsts_any, firsts_first}
use Rattle.spe_crash.proofs.FrontLemmas.{readable, size_same}
use Rattle.spe_crash.proofs.HotLemmas.{find_any, find_none}
use Rattle.spe_crash.proofs.KeepLemmas.{Keeps-refl, Keeps-trans, keeps}
use Rattle.spe_crash.proofs.NumbersLemmas.{pages_same}
use Rattle.spe_crash.proofs.PagesLemmas.{HasPages, opened, some_pages}
use Rattle.spe_crash.proofs.RecordLemmas.{IsWholeRecord, all_whole, find-All}
use Rattle.spe_crash.proofs.RestoreLemmas.{HasPagesOf, IsBack, IsRestorable, restored}
use Rattle.spe_crash.proofs.RollLemmas.{Rolls, Rolls-append}
use Rattle.spe_crash.proofs.ThinLemmas.{IsInPlace, hot_of_none, with_own_front}
use Rattle.spe_crash.proofs.TraceLemmas.{after-append}
use Rattle.spe_crash.proofs.WriteLemmas.{trim_keeps_database, trim_kept}

-- a page that no journal holds is what the file has
image_own : (content : Content) (p : ℕ) → 512 ≤ file_page_size content → is_held content p ≡ false → image_of content p ≡ file_page content p
unfolding image_of
image_own content p low lacks = by_found (find (is_of p) (all_hot content)) lacks
  where
    by_found : (found : Option Saved) → is_some found ≡ false → with_front content p (saved_or (file_page content p) found) ≡ file_page content p
    by_found None e = with_own_front content p low
    by_found (Some s) e = absurd cc

pub own_back : (content : Content) (pages : List (List ℕ)) (p : ℕ) → HasPages content pages → 1 ≤ p → p ≤ length pages → is_held content p ≡ false → IsBack content (bytes_of content Database) p
own_back content pages p has low high lacks = record {
  whole = whole_page content pages has p low high lacks;
  same = sym (image_own content p (readable content has.front).low lacks);
}

-- the content, once some operations were made, and what it has
record HasRolled (base now last : Content) (pages : List (List ℕ)) (ops : List Operation) : Type 0 where
  rolls : Rolls pages now ops
  after : HasPagesOf base last (length pages)
  back : (q : ℕ) → 1 ≤ q → q ≤ length pages → IsBack base (bytes_of last Database) q

restorable : (base : Content) (pages : ℕ) → All (IsRestorable base pages) (firsts (λ p. nat_le p pages) (all_hot base))
restorable base pages =
    All-weaker (IsFirstDue (λ p. nat_le p pages) (all_hot base)) (IsRestorable base pages)
    (λ s first. record {
      first = first.1;
      counted = leb-true s.page pages first.0;
      whole = find-All (IsWholeRecord (file_page_size base)) (is_of s.page) (all_hot base) s (all_whole base) first.1;
    })
    (firsts (λ p. nat_le p pages) (all_hot base)) (firsts_first (λ p. nat_le p pages) (all_hot base))

-- the pages are written back
write_back : (base : Content) (pages : List (List ℕ)) → Recovers base pages
    → HasRolled base base (after base (restores (file_page_size base) (λ p. nat_le p (length pages)) (all_hot base))) pages (restores (file_page_size base) (λ p. nat_le p (length pages)) (all_hot base))
write_back base pages recovers =
    let has : HasPages base pages = opened base pages recovers in
    let due : ℕ → Bool = λ p. nat_le p (length pages) in
    let r = restored base base pages (firsts due (all_hot base)) recovers (record { keeps = Keeps-refl base pages has; journals = λ id. refl }) (restorable base (length pages)) in
    record {
      rolls = r.rolls;
      after = r.after;
      back = λ q low high. ⊎_elim
          (λ (held : is_held base q ≡ true). r.back q low (firsts_any due (all_hot base) q (le-leb q (length pages) high) (sym (find_any q (all_hot base)) ∙ held)))
          (λ (lacks : is_held base q ≡ false). r.stays q low (own_back base pages q has low high lacks))
          (cases_Bool (is_held base q));
    }

-- the file is cut to its pages
trim : (base now : Content) (pages : List (List ℕ)) (size : ℕ) → Recovers base pages → HasPagesOf base now (length pages)
    → ((q : ℕ) → 1 ≤ q → q ≤ length pages → IsBack base (bytes_of now Database) q)
    → HasRolled base now (after now (file_cut size (length pages * file_page_size base))) pages (file_cut size (length pages * file_page_size base))
trim base now pages size recovers h back = by_test (nat_lt (length pages * file_page_size base) size)
  where
    page_size : ℕ
    page_size = file_page_size base

    again : Recovers now pages
    again = keeps base now pages h.keeps recovers

    same_size : file_page_size now ≡ page_size
    same_size = size_same (bytes_of base Database) (bytes_of now Database) h.keeps.front

    next : Content
    next = made_by (Cut Database (length pages * page_size)) now

    file : bytes_of next Database ≡ take (length pages * page_size) (bytes_of now Database)
    file = file_replaced now Database (take (length pages * page_size) (bytes_of now Database)) (omega (arith, h.keeps.front.long_new))

    k : KeepsDatabase now next (length pages)
    k = trim_keeps_database now pages next again (ap (λ (n : ℕ). made_by (Cut Database (length pages * n)) now) (sym same_size))

    kept : (q : ℕ) → 1 ≤ q → q ≤ length pages → IsBack base (bytes_of next Database) q
    kept q low high =
        let here : IsBack base (bytes_of now Database) q = back q low high in
        let still : IsKept page_size (bytes_of now Database) (take (length pages * page_size) (bytes_of now Database)) q =
        trim_kept page_size (bytes_of now Database) (length pages) q low high here.whole in
        rw file (record { whole = still.whole; same = still.same ∙ here.same })

    h_next : HasPagesOf base next (length pages)
    h_next = record {
      keeps = Keeps-trans base now next (length pages) (some_pages base pages (opened base pages recovers)) h.keeps (database_keeps now next pages k (opened now pages again));
      journals = λ id. k.journals id ∙ h.journals id;
    }

    by_test : (b : Bool) → HasRolled base now (after now (if b then Cut Database (length pages * page_size) ∷ [] else [])) pages (if b then Cut Database (length pages * page_size) ∷ [] else [])
    by_test true = record {
      rolls = (again, record { pages = pages; recovers = again; end = ap (λ (n : ℕ). length pages * n) (sym same_size) }, tt, keeps base next pages h_next.keeps recovers);
      after = h_next;
      back = kept;
    }
    by_test false = record { rolls = again; after = h; back = back }

same_page_size : (base now : Content) (pages : ℕ) → HasPagesOf base now pages → file_page_size now ≡ file_page_size base
same_page_size base now pages h = size_same (bytes_of base Database) (bytes_of now Database) h.keeps.front

in_place : (base now : Content) (pages p : ℕ) → HasPagesOf base now pages → 1 ≤ p → p ≤ pages → IsBack base (bytes_of now Database) p → IsInPlace now p
in_place base now pages p h low high back =
    let size : file_page_size now ≡ file_page_size base = same_page_size base now pages h in
    record {
      whole = rw size back.whole;
      same = ap (λ (n : ℕ). take n (drop ((p - 1) * n) (bytes_of now Database))) size ∙ back.same ∙ sym (h.keeps.images p low high);
    }

page_back : (base now last : Content) (pages p : ℕ) → HasPagesOf base now pages → bytes_of last Database ≡ bytes_of now Database → IsBack base (bytes_of now Database) p → file_page last p ≡ image_of base p
page_back base now last pages p h file back =
    ap (λ (b : List ℕ). take (page_size_at (take 100 b)) (drop ((p - 1) * page_size_at (take 100 b)) b)) file
    ∙ ap (λ (n : ℕ). take n (drop ((p - 1) * n) (bytes_of now Database))) (same_page_size base now pages h)
    ∙ back.same

-- what a rollback does, and what it leaves
pub record IsRolledBack (base : Content) (pages : List (List ℕ)) (ops : List Operation) : Type 0 where
  pub rolls : Rolls pages base ops
  pub empty : (id : ℕ) → id < 16 → journal_of (after base ops) id ≡ []
  pub restores : map (file_page (after base ops)) (pages_to (length pages)) ≡ pages

pages_back : (base now last : Content) (pages : List (List ℕ)) → Recovers base pages → HasPagesOf base now (length pages) → bytes_of last Database ≡ bytes_of now Database
    → ((q : ℕ) → 1 ≤ q → q ≤ length pages → IsBack base (bytes_of now Database) q) → map (file_page last) (pages_to (length pages)) ≡ pages
pages_back base now last pages recovers h file back =
    pages_same (file_page last) (image_of base) (length pages) (λ q low high. page_back base now last (length pages) q h file (back q low high))
    ∙ sym (opened base pages recovers).images

rolled_some : (base : Content) (pages : List (List ℕ)) → Recovers base pages
    → IsRolledBack base pages
    (restores (file_page_size base) (λ p. nat_le p (length pages)) (all_hot base) ++ file_cut (length (bytes_of base Database)) (length pages * file_page_size base) ++ cuts_in base 0 16)
rolled_some base pages recovers =
    let size = length (bytes_of base Database) in
    let writes = restores (file_page_size base) (λ p. nat_le p (length pages)) (all_hot base) in
    let file = file_cut size (length pages * file_page_size base) in
    let cuts = cuts_in base 0 16 in
    let one = write_back base pages recovers in
    let two = trim base (after base writes) pages size recovers one.after one.back in
    let middle = after (after base writes) file in
    let three : Rolls pages middle cuts =
    cuts_roll base middle middle pages 0 16 (keeps base middle pages two.after.keeps recovers)
    (λ p low high held. in_place base middle (length pages) p two.after low high (two.back p low high)) refl (λ id. inl refl) in
    let first : after base (writes ++ file) ≡ middle = after-append base writes file in
    let all : after base (writes ++ file ++ cuts) ≡ after middle cuts = after-append base (writes ++ file) cuts ∙ ap (λ (c : Content). after c cuts) first in
    record {
      rolls = Rolls-append pages base (writes ++ file) cuts (Rolls-append pages base writes file one.rolls two.rolls) (rw first three);
      empty = λ id below. ap (λ (c : Content). journal_of c id) all ∙ cuts_empty base middle 0 16 id (λ j above. two.after.journals j) (omega arith) below;
      restores =
          ap (λ (c : Content). map (file_page c) (pages_to (length pages))) all
          ∙ pages_back base middle (after middle cuts) pages recovers two.after (cuts_leave_file base middle 0 16) two.back;
    }

-- no journal has bytes
lacks_all : (base : Content) (p : ℕ) → ((id : ℕ) → id < 16 → journal_of base id ≡ []) → is_held base p ≡ false
lacks_all base p empty =
    ap is_some
    (find_none (hot_of base) p 0 16
    (λ i low high. ap (λ (journal : List ℕ). list_any (is_of p) (hot_records (file_page_size base) journal)) (empty i high) ∙ ap (list_any (is_of p)) (hot_of_none (file_page_size base))))

rolled_none : (base : Content) (pages : List (List ℕ)) → Recovers base pages → ((id : ℕ) → id < 16 → journal_of base id ≡ []) → IsRolledBack base pages []
rolled_none base pages recovers empty =
    let has : HasPages base pages = opened base pages recovers in
    record {
      rolls = recovers;
      empty = empty;
      restores =
          pages_back base base base pages recovers (record { keeps = Keeps-refl base pages has; journals = λ id. refl }) refl
          (λ q low high. own_back base pages q has low high (lacks_all base q empty));
    }

pub rolled_back : (base : Content) (pages : List (List ℕ)) → Recovers base pages → IsRolledBack base pages (rule_of base (length pages))
unfolding rule_of cuts_from any_length
rolled_back base pages recovers = ⊎_elim
    (λ (any : list_any (has_length base) (numbers_from 0 16) ≡ true). rw any (rolled_some base pages recovers))
    (λ (none : list_any (has_length base) (numbers_from 0 16) ≡ false). rw none (rolled_none base pages recovers (λ id below. none_long base 0 16 id none (omega arith) below)))
    (cases_Bool (list_any (has_length base) (numbers_from 0 16)))
