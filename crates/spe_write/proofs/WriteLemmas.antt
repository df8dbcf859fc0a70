-- A chain that grows from its tail.
use Rattle.std.proofs.Common.{◌≡◌, ℕ, suc, ◌+◌, ◌-◌, ◌*◌, ◌^◌, ◌<◌, ◌≤◌, ◌∙◌, List, [], ◌∷◌, ◌++◌, take, drop, length, min, refl, sym, ap, subst, arith, Some}
use Rattle.std.proofs.Math.Nat.{zero-mul}
use Rattle.std.proofs.lemmas.Bool.{eq-eqb}
use Rattle.std.proofs.lemmas.List.{drop_all, length-drop, length-take}
use Rattle.spe_model.specs.Big.{u32_at}
use Rattle.spe_model.specs.Chain.{AreLinks, link_room, links, links_bytes, next_page}
use Rattle.spe_model.specs.Paging.{Paging}
use Rattle.spe_model.specs.Standing.{link_pages}
use Rattle.spe_space.specs.declared.pages.Pages.{Ghosts}
use Rattle.spe_space.specs.Calls.{sight}
use Rattle.spe_frame.specs.Chain.{ChainStays}
use Rattle.spe_frame.specs.Held.{AreHeld, IsOthers, IsReady, Shifts, Spares}
use Rattle.spe_frame.specs.Laws.{ShiftsBeside, ShiftsBoth, ShiftsNone, SparesBeside, SparesBoth, SparesMore}
use Rattle.spe_frame.specs.Times.{HoldsOf, times}
use Rattle.spe_write.specs.Chain.{HasChain, IsWritten, link_page}
use Rattle.spe_write.proofs.LinkLemmas.{link_bytes, link_next, links_full, piece_is, piece_then, times_more}

-- no pages are held always
pub none_held : {P : Type 0} (g : Ghosts P) (s : P) (pages : Paging) → AreHeld g s pages []
none_held g s pages = record { single = λ n. omega arith; used = λ n some. absurd (omega (arith, some)); unnamed = refl }

pub written_none : {P : Type 0} (g : Ghosts P) → ShiftsNone g → (s : P) (pages : Paging) (bytes : List ℕ) (at : ℕ) → IsReady g s pages → length bytes ≤ at
    → IsWritten g s s pages bytes at 0 0
written_none g idle s pages bytes at ready past = record {
  chain = (omega (arith, past), refl);
  bytes_are = sym (drop_all at bytes past);
  shifts = idle s pages [] ready;
}

-- a page that was handed out and put
pub record IsNewLink {P : Type 0} (g : Ghosts P) (now new : P) (pages : Paging) (page next : ℕ) (piece : List ℕ) : Type 0 where
  pub shifts : Shifts g now new pages [] (page ∷ []) 1
  pub there : g.laid new page ≡ Some (link_page (g.size now) next piece)
  pub small : next < 2 ^ 32

pub written_more : {P : Type 0} (g : Ghosts P) → ShiftsBoth g → ShiftsBeside g → ChainStays g → (old now new : P) (pages : Paging) (bytes : List ℕ) (start count first page : ℕ)
    → IsWritten g old now pages bytes (start + link_room (g.used old)) count first → start < length bytes
    → IsNewLink g now new pages page first (take (link_room (g.used old)) (drop start bytes)) → IsWritten g old new pages bytes start (suc count) page
written_more g both beside stays old now new pages bytes start count first page written some link =
    let usable = g.used old in
    let room = link_room usable in
    let at = start + room in
    let a = sight g now pages in
    let b = sight g new pages in
    let rest = link_pages a count first in
    let piece = take room (drop start bytes) in
    let left = length bytes - start in
    let held = written.shifts.held (none_held g old pages) in
    let others : HoldsOf (IsOthers g now pages []) rest = λ n there. record { used = held.used n there; lacks = refl } in
    let kept = stays now new pages [] 1 usable count (length bytes - at) first link.shifts.spares others (written.shifts.front refl) in
    let shown : b page ≡ link_page (g.size now) first piece = rw link.there refl in
    let next : next_page b page ≡ first = ap (λ (xs : List ℕ). u32_at xs 0) shown ∙ link_next (g.size now) first piece link.small in
    let fewer : left - room ≡ length bytes - at = omega arith in
    let mine = link.shifts.held (none_held g now pages) in
    let used = mine.used page (omega (arith, here_once page)) in
    let long : length piece ≡ min left room = length-take room (drop start bytes) ∙ omega (arith, length-drop start bytes) in
    let here : take (min left room) (drop 4 (b page)) ≡ piece =
    ap (λ (n : ℕ). take n (drop 4 (b page))) (sym long) ∙ ap (λ (xs : List ℕ). take (length piece) (drop 4 xs)) shown ∙ link_bytes (g.size now) first piece in
    let chain : AreLinks usable b count (left - room) (next_page b page) =
    subst (λ (n : ℕ). AreLinks usable b count n (next_page b page)) (sym fewer) (subst (AreLinks usable b count (length bytes - at)) (sym next) (kept.links written.chain)) in
    let behind : links_bytes usable b count (left - room) (next_page b page) ≡ drop at bytes =
    ap (λ (n : ℕ). links_bytes usable b count n (next_page b page)) fewer ∙ ap (links_bytes usable b count (length bytes - at)) next ∙ kept.bytes_are ∙ written.bytes_are in
    let tail : link_pages b count (next_page b page) ≡ rest = ap (link_pages b count) next ∙ kept.pages_are in
    let step : Shifts g old new pages [] (page ∷ rest) (count + 1) = both old now new pages [] rest (page ∷ rest) count 1 written.shifts (beside now new pages [] (page ∷ []) rest 1 link.shifts) in
    let one : count + 1 ≡ suc count = omega arith in
    record {
      chain = (omega (arith, some), used.low, chain);
      bytes_are = ap (λ (xs : List ℕ). xs ++ links_bytes usable b count (left - room) (next_page b page)) here ∙ ap (λ (xs : List ℕ). piece ++ xs) behind ∙ piece_then bytes start room;
      shifts = subst (λ (ps : List ℕ). Shifts g old new pages [] (page ∷ ps) (suc count)) (sym tail) (subst (Shifts g old new pages [] (page ∷ rest)) one step);
    }
  where
    here_once : (page : ℕ) → 0 < times page (page ∷ [])
    here_once page = rw (eq-eqb page page refl) (omega arith)

pub written_at : {P : Type 0} (g : Ghosts P) (old now : P) (pages : Paging) (bytes : List ℕ) (at at' count count' first : ℕ) → at ≡ at' → count ≡ count'
    → IsWritten g old now pages bytes at count first → IsWritten g old now pages bytes at' count' first
written_at g old now pages bytes at at' count count' first e f written =
    subst (λ (n : ℕ). IsWritten g old now pages bytes n count' first) e (subst (λ (n : ℕ). IsWritten g old now pages bytes at n first) f written)

-- the piece before those that are written is put before them
pub write_step : {P : Type 0} (g : Ghosts P) → ShiftsBoth g → ShiftsBeside g → ChainStays g → (early now new : P) (pages : Paging) (bytes piece left : List ℕ) (index first page : ℕ)
    → 5 ≤ g.used early → 0 < index → index ≤ links (g.used early) (length bytes) → left ≡ take (index * link_room (g.used early)) bytes
    → piece ≡ drop ((index - 1) * link_room (g.used early)) left
    → IsWritten g early now pages bytes (index * link_room (g.used early)) (links (g.used early) (length bytes) - index) first
    → Shifts g now new pages [] (page ∷ []) 1 → g.laid new page ≡ Some (link_page (g.size now) first piece) → first < 2 ^ 32
    → IsWritten g early new pages bytes ((index - 1) * link_room (g.used early)) (links (g.used early) (length bytes) - (index - 1)) page
write_step g both beside stays early now new pages bytes piece left index first page wide some low left_is is written shifts there small =
    let usable = g.used early in
    let room = link_room usable in
    let n = links usable (length bytes) in
    let start = (index - 1) * room in
    let at : index * room ≡ start + room = times_more index room some in
    let e : piece ≡ take room (drop start bytes) =
    is ∙ ap (drop start) (left_is ∙ ap (λ (k : ℕ). take k bytes) at) ∙ piece_is bytes start room in
    let put : g.laid new page ≡ Some (link_page (g.size now) first (take room (drop start bytes))) = there ∙ ap (λ (ps : List ℕ). Some (link_page (g.size now) first ps)) e in
    let more = written_more g both beside stays early now new pages bytes start (n - index) first page
    (written_at g early now pages bytes (index * room) (start + room) (n - index) (n - index) first at refl written)
    (links_full usable (length bytes) index wide some low) (record { shifts = shifts; there = put; small = small }) in
    written_at g early new pages bytes start start (suc (n - index)) (n - (index - 1)) page refl (omega (arith, some, low)) more

pub write_fails : {P : Type 0} (g : Ghosts P) → SparesBoth g → SparesBeside g → SparesMore g → (early now new : P) (pages : Paging) (bytes : List ℕ) (at index n first : ℕ)
    → 0 < index → index ≤ n → IsWritten g early now pages bytes at (n - index) first → Spares g now new pages [] 1 → Spares g early new pages [] n
write_fails g both beside more early now new pages bytes at index n first some low written spares =
    let rest = link_pages (sight g now pages) (n - index) first in
    more early new pages [] (n - index + 1) n (omega (arith, some, low)) (both early now new pages [] rest (n - index) 1 written.shifts (beside now new pages [] rest 1 spares))

pub write_ends : {P : Type 0} (g : Ghosts P) (early now : P) (pages : Paging) (bytes : List ℕ) (index first : ℕ) → index ≤ 0
    → IsWritten g early now pages bytes (index * link_room (g.used early)) (links (g.used early) (length bytes) - index) first → HasChain g early now pages bytes first
write_ends g early now pages bytes index first none written =
    let n = links (g.used early) (length bytes) in
    let e : index ≡ 0 = omega (arith, none) in
    let all = written_at g early now pages bytes (index * link_room (g.used early)) 0 (n - index) n first (ap (λ (k : ℕ). k * link_room (g.used early)) e ∙ zero-mul (link_room (g.used early))) (omega (arith, none)) written in
    let z : length bytes - 0 ≡ length bytes = omega arith in
    record {
      chain = subst (λ (k : ℕ). AreLinks (g.used early) (sight g now pages) n k first) z all.chain;
      bytes_are = sym (ap (λ (k : ℕ). links_bytes (g.used early) (sight g now pages) n k first) z) ∙ all.bytes_are;
      shifts = all.shifts;
    }
