-- A transaction reads a page.
use Rattle.std.proofs.Common.{◌≡◌, ◌≢◌, ℕ, ◌<◌, ◌≤◌, List, ◌∷◌, length, All, refl, sym, ap, ◌∙◌, subst, arith, Bool, true, false, Option, Some, None, ⊎_elim}
use Rattle.std.specs.Prelude.{◌==◌, ◌&&◌, ◌*◌, is_some, slice_get, unwrap_or}
use Rattle.std.proofs.lemmas.Bool.{cases_Bool, cases_eq, cases_lt, ne_eqb}
use Rattle.std.proofs.lemmas.List.Elements.{All-cons}
use Rattle.spe_model.specs.declared.file.FileNo.TheVariants.{Database}
use Rattle.spe_model.specs.Content.{bytes_of}
use Rattle.spe_model.specs.Recovery.{file_page, file_page_size}
use Rattle.spe_model.specs.Settled.{page_in}
use Rattle.spe_model.specs.Trace.{History, present}
use Rattle.spe_transactions.specs.Pages.{page_at}
use Rattle.spe_transactions.specs.Work.{has_page}
use Rattle.spe_transactions.proofs.PageLemmas.{page_there}
use Rattle.spe_transactions.proofs.WorkLemmas.{kept_ends, written_ends}
use Rattle.spe_store.specs.declared.work.Work.{Work}
use Rattle.spe_store.specs.Desk.{ReadsPage}
use Rattle.spe_store.specs.Call.{GivesPage, IsGiven, IsInside, MayRead, own_count}
use Rattle.spe_store.specs.Event.{Event, journalled_in, seen_in, with_seen, written_in}
use Rattle.spe_store.specs.Event.Event.{Read}
use Rattle.spe_store.specs.Opened.{Opened}
use Rattle.spe_store.specs.Store.{AreSeen, IfTold, IsServing, IsStored, Order, Store, pages_in}
use Rattle.spe_store.proofs.HeldLemmas.{goes, quiet_held, served}
use Rattle.spe_store.proofs.SaveLemmas.{whole_page}

module _ (opened : Opened) (s : Store) (works : List Work) (order : Order) (i : IsStored opened s works order) (id page : ℕ) (may : MayRead s id page) (inside : IsInside page (own_count s id)) (bytes : List ℕ) (read : ReadsPage s.desk.told s.page_size page bytes) where
  abbrev pages : List (List ℕ)
  pages = pages_in opened s.events

  module _ (h : History) (told : s.desk.told ≡ Some h) (v : IsServing opened h s.events s.page_size s.count works) where
    is_file : page * file_page_size (present h) ≤ length (bytes_of (present h) Database) → bytes ≡ file_page (present h) page
    is_file ends = whole_page (present h) s.page_size page bytes v.sized inside.0 ends (subst (λ (t : Option History). ReadsPage t s.page_size page bytes) told read)

    -- a page that nobody has written is read as it is after all commits
    own_page : has_page (written_in s.events) id page ≡ false → page_at pages page ≡ Some bytes
    own_page lacks =
        let low : 1 ≤ page = inside.0 in
        let within : page ≤ length pages =
        ⊎_elim
        (λ (above : s.count < page). absurd (let both : true ≡ false = sym (may.added above inside.1) ∙ lacks in cc))
        (λ (below : page ≤ s.count). omega (arith, v.counted))
        (cases_lt s.count page) in
        let none : (j : ℕ) → has_page (written_in s.events) j page ≡ false =
        λ j. ⊎_elim (λ (own : j ≡ id). ap (λ (n : ℕ). has_page (written_in s.events) n page) own ∙ lacks) (λ (other : j ≢ id). may.others j other) (cases_eq j id) in
        let there : page_at pages page ≡ Some (page_in pages page) = page_there pages page low within in
        let is : bytes ≡ file_page (present h) page = is_file (kept_ends (present h) pages (journalled_in s.events) (written_in s.events) v.kept.work page (page_in pages page) there none) in
        there ∙ ap (λ (b : List ℕ). Some b) (sym (v.kept.work.kept page (page_in pages page) there none) ∙ sym is)

    -- one that the transaction has written, as it has
    written_page : (own : List ℕ) → written_in s.events id page ≡ Some own → bytes ≡ own
    written_page own found =
        is_file (written_ends (present h) pages (journalled_in s.events) (written_in s.events) v.kept.work id page own found)
        ∙ (v.kept.work.in_file id page own found).0

    given : IsGiven (written_in s.events id page) (page_at pages page) bytes
    given = by_found (written_in s.events id page) refl
      where
        by_found : (found : Option (List ℕ)) → written_in s.events id page ≡ found → IsGiven found (page_at pages page) bytes
        by_found None e = own_page (ap is_some e)
        by_found (Some own) e = written_page own e

    with_one : (lacks : has_page (written_in s.events) id page ≡ false) (j p : ℕ) → All (λ (b : List ℕ). page_at pages p ≡ Some b) (with_seen id page bytes (seen_in s.events) j p)
    with_one lacks j p = ⊎_elim
        (λ (here : ((j == id) && (p == page)) ≡ true).
        rw here
        (⊎_elim
        (λ (at : p ≡ page). All-cons (λ (b : List ℕ). page_at pages p ≡ Some b) bytes (seen_in s.events j p) (ap (page_at pages) at ∙ own_page lacks) (v.seen j p))
        (λ (other : p ≢ page). absurd (let none : ((j == id) && (p == page)) ≡ false = ap (λ (b : Bool). (j == id) && b) (ne_eqb p page other) ∙ and_false (j == id) in let both : true ≡ false = sym here ∙ none in cc))
        (cases_eq p page)))
        (λ (other : ((j == id) && (p == page)) ≡ false). rw other (v.seen j p))
        (cases_Bool ((j == id) && (p == page)))
      where
        and_false : (b : Bool) → (b && false) ≡ false
        and_false true = refl
        and_false false = refl

    seen_now : (j : ℕ) → AreSeen pages (seen_in (Read id page bytes ∷ s.events) j)
    seen_now j p = ⊎_elim
        (λ (has : has_page (written_in s.events) id page ≡ true). rw has (v.seen j p))
        (λ (lacks : has_page (written_in s.events) id page ≡ false). rw lacks (with_one lacks j p))
        (cases_Bool (has_page (written_in s.events) id page))

  pub read_gives : s.desk.stopped ≡ None → GivesPage opened s id page bytes
  read_gives going = by_told s.desk.told refl (served opened s works order i going)
    where
      by_told : (t : Option History) → s.desk.told ≡ t → IfTold t (λ h. IsServing opened h s.events s.page_size s.count works) → IfTold t (λ h. IsGiven (written_in s.events id page) (page_at pages page) bytes)
      by_told None e v = tt
      by_told (Some h) e v = given h e v

  pub read_held : s.desk.stopped ≡ None → (now : List Event) → now ≡ Read id page bytes ∷ s.events → IsStored opened (record { desk = s.desk; events = now; page_size = s.page_size; count = s.count }) works order
  read_held going now is =
      subst (λ (es : List Event). IsStored opened (record { desk = s.desk; events = es; page_size = s.page_size; count = s.count }) works order) (sym is)
      (quiet_held opened s works order i going (Read id page bytes ∷ s.events) s.count works order i.all i.room i.ordered refl
      (λ lists j w found.
      let was = lists j w found in
      record { saved = was.saved; changed = was.changed; own = was.own; begun = was.begun; due = was.due; out = was.out; sized = was.sized })
      (λ lists h told v. record { kept = v.kept; seen = seen_now h told v; counted = v.counted; sized = v.sized; ends = v.ends }))

-- how many pages there are for a transaction, as the store has it
pub own_is : (opened : Opened) (s : Store) (works : List Work) (order : Order) (i : IsStored opened s works order) → s.desk.stopped ≡ None → (id : ℕ) (w : Work) → slice_get works id ≡ Some w → unwrap_or w.own s.count ≡ own_count s id
own_is opened s works order i going id w found = ap (λ (o : Option ℕ). unwrap_or o s.count) ((goes opened s works order i going).listed id w found).own
