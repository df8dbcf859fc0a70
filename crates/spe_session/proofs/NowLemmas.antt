-- What is so of the pages after all commits, for a transaction that ends.
use Rattle.std.proofs.Common.{◌≡◌, ◌<◌, ◌≤◌, ◌∙◌, ℕ, List, length, take, Option, Some, None, Ok, sym, ap, subst, arith, true}
use Rattle.std.proofs.lemmas.List.Elements.{All-weaker}
use Rattle.std.specs.Prelude.{◌*◌, ◌^◌, IfSome, find, is_some, unwrap_or}
use Rattle.std.specs.Option.{option_map}
use Rattle.spe_model.specs.declared.header.Header.{Header}
use Rattle.spe_model.specs.declared.header.HeaderFault.{HeaderFault}
use Rattle.spe_model.specs.Content.{Content}
use Rattle.spe_model.specs.Database.{Database}
use Rattle.spe_model.specs.Header.{faults, fields, has_fault, header_of, is_size_valid, unless}
use Rattle.spe_model.specs.Justified.{ServedSince}
use Rattle.spe_model.specs.Paging.{Agrees, Given, PageMap, lay}
use Rattle.spe_space.specs.Front.{number_in}
use Rattle.spe_model.specs.Settled.{header_in, page_in}
use Rattle.spe_model.specs.Trace.{History}
use Rattle.spe_transactions.specs.Pages.{MayCommit, named_count, page_at}
use Rattle.spe_transactions.proofs.PageLemmas.{is_at, page_there}
use Rattle.spe_store.specs.Call.{HasFront, IsNow, KeepsPages}
use Rattle.spe_store.specs.Event.{entries_in, seen_in}
use Rattle.spe_store.specs.Opened.{Opened}
use Rattle.spe_store.specs.Store.{AreSeen, IfTold, IsOf, Store, pages_in}
use Rattle.spe_store.specs.Served.{AreServed, database_after}
use Rattle.spe_session.specs.Ending.{WasServed}
use Rattle.spe_session.specs.Working.{BeginsSo}

pub agrees_of : (pages : List (List ℕ)) (seen : Given) → AreSeen pages seen → Agrees (page_in pages) seen
agrees_of pages seen sees = record { each = λ n. All-weaker (λ (b : List ℕ). page_at pages n ≡ Some b) (λ (b : List ℕ). page_in pages n ≡ b) (λ b found. by_found n b found) (seen n) (sees n) }
  where
    by_found : (n : ℕ) (b : List ℕ) → page_at pages n ≡ Some b → page_in pages n ≡ b
    by_found n b found =
        let at = is_at pages n b found in
        let both : Some b ≡ Some (page_in pages n) = sym found ∙ page_there pages n at.low at.high in
        let is : b ≡ page_in pages n = cc in
        sym is

pub front_kept : (opened : Opened) (s : Store) (id : ℕ) (bytes : List ℕ) → KeepsPages opened s → s.desk.stopped ≡ None → BeginsSo (seen_in s.events id) bytes → HasFront opened s bytes
front_kept opened s id bytes keeps going so = by_told s.desk.told (keeps going)
  where
    by_told : (told : Option History) → IfTold told (IsNow opened s) → IfTold told (λ h. take 24 bytes ≡ take 24 (page_in (pages_in opened s.events) 1))
    by_told None now = tt
    by_told (Some h) now = so (page_in (pages_in opened s.events)) (agrees_of (pages_in opened s.events) (seen_in s.events id) (now.seen id))

header_fields : (bytes : List ℕ) (h : Header) → header_of bytes ≡ Ok h → fields bytes ≡ h
header_fields bytes h e = by_found (find (has_fault bytes) faults) (fields bytes) e
  where
    by_found : (found : Option HeaderFault) (x : Header) → unless found x ≡ Ok h → x ≡ h
    by_found None x same = cc
    by_found (Some fault) x same = absurd cc

-- the database for which the pages after all commits are served
pub served_now : (opened : Opened) (s : Store) (h : History) → WasServed opened → opened.first ≡ Some h.first → IsNow opened s h → (db : Database) × AreServed opened.read (pages_in opened s.events) db
served_now opened s h served first now =
    let was = subst (λ (o : Option Content). IfSome o (λ (c : Content). (db : Database) × AreServed opened.read opened.pages db)) first served in
    (database_after was.0 (take (length (entries_in s.events)) (entries_in s.events)), now.says was.0 was.1)

first_page : (opened : Opened) (pages : List (List ℕ)) (db : Database) (a : AreServed opened.read pages db) → 1 ≤ length pages → page_in pages 1 ≡ a.paging 1
first_page opened pages db a some = sym (a.gives 1 (page_in pages 1) (page_there pages 1 (omega arith) some))

-- page 1 after all commits counts its pages
pub now_counted : (opened : Opened) (s : Store) → WasServed opened → IsOf opened s.desk → KeepsPages opened s → s.desk.stopped ≡ None → 1 ≤ s.count → IfTold s.desk.told (λ h. is_size_valid (header_in (pages_in opened s.events)) ≡ true)
now_counted opened s served of keeps going some = by_told s.desk.told of.first (keeps going)
  where
    by_told : (told : Option History) → option_map (λ (h : History). h.first) told ≡ opened.first → IfTold told (IsNow opened s) → IfTold told (λ h. is_size_valid (header_in (pages_in opened s.events)) ≡ true)
    by_told None first now = tt
    by_told (Some h) first now =
        let pages = pages_in opened s.events in
        let both = served_now opened s h served (sym first) now in
        let front = both.1.served.served.front in
        let same = first_page opened pages both.0 both.1 (omega (arith, some, now.counted)) in
        ap is_size_valid (ap (λ (bytes : List ℕ). fields (take 100 bytes)) same ∙ header_fields (take 100 (both.1.paging 1)) both.1.served.served.header front.legal) ∙ front.valid

-- what was written may be laid over served pages, where those that this leaves are served
pub may_end : (opened : Opened) (pages : List (List ℕ)) (written : PageMap) (size number : ℕ) (db later : Database) (a : AreServed opened.read pages db) → 1 ≤ length pages
    → (since : ServedSince opened.read (number_in (lay written a.paging)) (lay written a.paging) later) → number_in (lay written a.paging) ≡ number → since.served.header.page_size ≡ size
    → length pages ≤ number → ((p : ℕ) → length pages < p → p ≤ number → is_some (written p) ≡ true) → MayCommit pages written size
may_end opened pages written size number db later a some since number_is sized more added =
    let header = since.served.header in
    let front = since.served.front in
    let same : lay written (page_in pages) 1 ≡ lay written a.paging 1 = ap (unwrap_or (written 1)) (first_page opened pages db a some) in
    let is : fields (take 100 (lay written (page_in pages) 1)) ≡ header = ap (λ (bytes : List ℕ). fields (take 100 bytes)) same ∙ header_fields (take 100 (lay written a.paging 1)) header front.legal in
    let named : named_count (lay written (page_in pages) 1) ≡ number = ap (λ (h : Header). h.pages) is ∙ front.number ∙ number_is in
    let few : number * size ≤ 2 ^ 30 = subst (λ (n : ℕ). n * size ≤ 2 ^ 30) number_is (subst (λ (n : ℕ). number_in (lay written a.paging) * n ≤ 2 ^ 30) sized front.few) in
    record {
      legal = ap (λ (bytes : List ℕ). header_of (take 100 bytes)) same ∙ front.legal ∙ ap Ok (sym is);
      valid = ap is_size_valid is ∙ front.valid;
      low = subst (λ (n : ℕ). length pages ≤ n) (sym named) more;
      small = subst (λ (n : ℕ). n * size ≤ 2 ^ 30) (sym named) few;
      added = λ p above within. added p above (subst (λ (n : ℕ). p ≤ n) named within);
    }
