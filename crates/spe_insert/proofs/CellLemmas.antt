-- The cell of a row.
use Rattle.std.proofs.Common.{◌≡◌, ℕ, zero, suc, ◌+◌, ◌-◌, ◌*◌, ◌/◌, ◌%◌, ◌<◌, ◌≤◌, ◌∙◌, ℤ, List, [], ◌∷◌, ◌++◌, take, drop, length, refl, sym, ap, subst, arith, true, false, Bool}
use Rattle.std.specs.Prelude.{◌==◌, nat_le, if◌then◌else◌}
use Rattle.std.proofs.Math.Nat.{div-eq_of_lt, div-mul-le_self}
use Rattle.std.proofs.lemmas.Bool.{eqb-true, leb-false, leb-true}
use Rattle.std.proofs.lemmas.List.{length-drop, length-take-le, take-append-drop}
use Rattle.std.proofs.lemmas.Nat.{le-div}
use Rattle.spe_model.specs.declared.page.Kind.TheVariants.{TableLeaf}
use Rattle.spe_model.specs.Chain.{AreLinks, IsChain, chain_bytes, links, links_bytes}
use Rattle.spe_model.specs.Kind.{local_of}
use Rattle.spe_model.specs.Paging.{Paging}
use Rattle.spe_model.specs.Standing.{link_pages}
use Rattle.spe_space.specs.declared.pages.Pages.{Ghosts}
use Rattle.spe_space.specs.Calls.{sight}
use Rattle.spe_frame.specs.Held.{IsReady, Shifts}
use Rattle.spe_frame.specs.Laws.{ShiftsNone, SparesMore}
use Rattle.spe_write.specs.Chain.{HasChain}
use Rattle.spe_insert.specs.Cell.{HasPayload}

-- what stands in a cell of a payload is no more than there is
pub local_few : (payload usable : ℕ) → 480 ≤ usable → local_of TableLeaf payload usable ≤ payload
unfolding local_of
local_few payload usable wide =
    let most = usable - 35 in
    let least = (usable - 12) * 32 / 255 - 23 in
    let fitted = least + (payload - least) % (usable - 4) in
    let low : least ≤ most =
    (let e : (usable - 12) * 32 / 255 ≤ usable - 12 = div-le_of_le_mul (usable - 12) in omega (arith, e, wide)) in
    pick payload most least fitted (nat_le payload most) (nat_le fitted most) (leb-false payload most) (leb-true fitted most) low
  where
    div-le_of_le_mul : (n : ℕ) → n * 32 / 255 ≤ n
    div-le_of_le_mul n = let e = div-mul-le_self (n * 32) 255 in omega (arith, e)

    pick : (payload most least fitted : ℕ) (a b : Bool) → (a ≡ false → most < payload) → (b ≡ true → fitted ≤ most) → least ≤ most
        → (if a then payload else (if b then fitted else least)) ≤ payload
    pick payload most least fitted true b past under low = omega arith
    pick payload most least fitted false true past under low = omega (arith, past refl, under refl)
    pick payload most least fitted false false past under low = omega (arith, past refl, low)

-- more bytes need no fewer pages
pub links_less : (usable m n : ℕ) → 5 ≤ usable → m ≤ n → links usable m ≤ links usable n
unfolding links
links_less usable m n wide less =
    let room = usable - 4 in
    let e = div-mul-le_self (m + (room - 1)) room in
    le-div ((m + (room - 1)) / room) (n + (room - 1)) room (omega (arith, wide)) (omega (arith, e, less))

links_none : (usable : ℕ) → links usable 0 ≡ 0
unfolding links
links_none usable = none (usable - 4)
  where
    none : (room : ℕ) → (0 + (room - 1)) / room ≡ 0
    none zero = refl
    none (suc k) = div-eq_of_lt (omega arith)

pub empty_is : (xs : List ℕ) → (length xs == 0) ≡ true → xs ≡ []
empty_is [] is = refl
empty_is (x ∷ xs) is = let e = eqb-true (length (x ∷ xs)) 0 is in absurd (omega (arith, e))

-- a change with room for more allocations
pub shifts_more : {P : Type 0} (g : Ghosts P) → SparesMore g → (old new : P) (pages : Paging) (xs ys : List ℕ) (m n : ℕ) → m ≤ n → Shifts g old new pages xs ys m → Shifts g old new pages xs ys n
shifts_more g more old new pages xs ys m n less x = record {
  spares = more old new pages xs m n less x.spares;
  others = x.others;
  front = x.front;
  held = x.held;
  ready = x.ready;
  more = x.more;
  found = x.found;
  added = x.added;
}

-- nothing is written where there are no bytes
pub no_chain : {P : Type 0} (g : Ghosts P) → ShiftsNone g → (s : P) (pages : Paging) (bytes : List ℕ) → bytes ≡ [] → IsReady g s pages → HasChain g s s pages bytes 0
no_chain g idle s pages bytes none ready =
    let count = links_none (g.used s) in
    let a = sight g s pages in
    subst (λ (bs : List ℕ). HasChain g s s pages bs 0) (sym none) (record {
      chain = subst (λ (k : ℕ). AreLinks (g.used s) a k 0 0) (sym count) (refl, refl);
      bytes_are = ap (λ (k : ℕ). links_bytes (g.used s) a k 0 0) count;
      shifts = subst (λ (k : ℕ). Shifts g s s pages [] (link_pages a k 0) k) (sym count) (idle s pages [] ready);
    })

-- the whole payload of a cell whose rest is in a chain
pub has_payload : {P : Type 0} (g : Ghosts P) → SparesMore g → (old new : P) (pages : Paging) (payload head rest local : List ℕ) (key : ℤ) (size first : ℕ) → 5 ≤ g.used old
    → size ≤ length payload → head ≡ take size payload → rest ≡ drop size payload → local ≡ head → HasChain g old new pages rest first
    → HasPayload g old new pages (record { left = 0; key = key; payload = length payload; local = local; chain = first }) payload
has_payload g more old new pages payload head rest local key size first wide few head_is rest_is local_is chain =
    let long : length local ≡ size = ap length (local_is ∙ head_is) ∙ length-take-le size payload few in
    let left : length rest ≡ length payload - length local = ap length rest_is ∙ length-drop size payload ∙ ap (λ (k : ℕ). length payload - k) (sym long) in
    let b = sight g new pages in
    let used = g.used old in
    record {
      chain = subst (λ (k : ℕ). IsChain used b k first) left chain.chain;
      whole = ap (λ (k : ℕ). local ++ chain_bytes used b k first) (sym left) ∙ ap (λ (bs : List ℕ). local ++ bs) (chain.bytes_are ∙ rest_is)
          ∙ ap (λ (bs : List ℕ). bs ++ drop size payload) (local_is ∙ head_is) ∙ take-append-drop size payload;
      shifts = shifts_more g more old new pages [] (link_pages b (links used (length payload - length local)) first) (links used (length rest)) (links used (length payload))
          (links_less used (length rest) (length payload) wide (omega (arith, left)))
          (subst (λ (k : ℕ). Shifts g old new pages [] (link_pages b (links used k) first) (links used (length rest))) left chain.shifts);
    }
