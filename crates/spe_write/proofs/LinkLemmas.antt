-- An overflow page as it is written, and as it is read.
use Rattle.std.proofs.Common.{◌≡◌, ℕ, zero, suc, ◌+◌, ◌-◌, ◌*◌, ◌/◌, ◌%◌, ◌^◌, ◌<◌, ◌≤◌, ◌∙◌, List, [], ◌∷◌, ◌++◌, take, drop, length, length-append, min, sym, ap, subst, arith, inl, inr}
use Rattle.std.specs.Prelude.{replicate}
use Rattle.std.proofs.Math.Nat.{add-div_right, add-mul, div-eq_of_lt, div-mul-le_self, lt-div-mul-add, mod-add-div, mod-lt, mul-add-div, mul-le-mul_right, one-mul}
use Rattle.std.proofs.Math.Seq.{take-append_seam}
use Rattle.std.proofs.lemmas.List.{drop-drop, drop_at, length-drop, length-take, take-append-drop}
use Rattle.std.proofs.lemmas.Slice.{between_is}
use Rattle.byteorder.specs.Endian.{big_bytes}
use Rattle.byteorder.specs.Numbers.{big_number-reads_back, length-bytes_high_first}
use Rattle.spe_model.specs.Big.{u32_at}
use Rattle.spe_model.specs.Chain.{AreLinks, IsAmiss, links}
use Rattle.spe_model.specs.Paging.{Paging}
use Rattle.spe_space.specs.declared.pages.Pages.{Ghosts}
use Rattle.spe_space.specs.Calls.{Keeps}
use Rattle.spe_frame.specs.Times.{times}
use Rattle.spe_write.specs.Chain.{link_page}

pub link_next : (size next : ℕ) (bytes : List ℕ) → next < 2 ^ 32 → u32_at (link_page size next bytes) 0 ≡ next
unfolding u32_at
link_next size next bytes small = big_number-reads_back 4 next (bytes ++ replicate (size - (4 + length bytes)) 0) (omega (arith, small))

pub link_bytes : (size next : ℕ) (bytes : List ℕ) → take (length bytes) (drop 4 (link_page size next bytes)) ≡ bytes
link_bytes size next bytes =
    let zeros = replicate (size - (4 + length bytes)) 0 in
    ap (take (length bytes)) (drop_at (big_bytes 4 next) (bytes ++ zeros) 4 (length-bytes_high_first 4 next)) ∙ take-append_seam bytes zeros

-- a chain's page number goes with the bytes that are left
pub links_well : (usable : ℕ) (pages : Paging) (count left page : ℕ) → AreLinks usable pages count left page → IsAmiss left page → ⊥
links_well usable pages zero left page chain (inl amiss) = omega (arith, chain.0, amiss.0)
links_well usable pages zero left page chain (inr amiss) = amiss.1 chain.1
links_well usable pages (suc n) left page chain (inl amiss) = omega (arith, chain.1, amiss.1)
links_well usable pages (suc n) left page chain (inr amiss) = omega (arith, chain.0, amiss.0)

-- the pages of so many bytes have room for them all
pub links_cover : (usable len : ℕ) → 5 ≤ usable → len ≤ links usable len * (usable - 4)
unfolding links
links_cover usable len some =
    let room = usable - 4 in
    let more : len + (room - 1) < (len + (room - 1)) / room * room + room = lt-div-mul-add {a = len + (room - 1)} {b = room} (omega (arith, some)) in
    omega (arith, more, some)

-- one piece more
pub times_more : (n k : ℕ) → 0 < n → n * k ≡ (n - 1) * k + k
times_more n k some =
    let e : n ≡ (n - 1) + 1 = omega (arith, some) in
    ap (λ (m : ℕ). m * k) e ∙ add-mul (n - 1) 1 k ∙ ap (λ (m : ℕ). (n - 1) * k + m) (one-mul k)

-- and each but the last is full
pub links_full : (usable len index : ℕ) → 5 ≤ usable → 0 < index → index ≤ links usable len → (index - 1) * (usable - 4) < len
unfolding links
links_full usable len index wide some low =
    let room = usable - 4 in
    let all : (len + (room - 1)) / room * room ≤ len + (room - 1) = div-mul-le_self (len + (room - 1)) room in
    let less : index * room ≤ (len + (room - 1)) / room * room = mul-le-mul_right room low in
    let one : index * room ≡ (index - 1) * room + room = times_more index room some in
    omega (arith, all, less, one, wide)

-- a quotient rounded up
pub ceil_is : (a b : ℕ) → 0 < b → a / b + min 1 (a % b) ≡ (a + (b - 1)) / b
ceil_is a b some =
    let q = a / b in
    let r = a % b in
    let whole : r + b * q ≡ a = mod-add-div a b in
    let e : a + (b - 1) ≡ b * q + (r + (b - 1)) = omega (arith, whole, some) in
    sym (ap (λ (n : ℕ). n / b) e ∙ mul-add-div some q (r + (b - 1)) ∙ ap (λ (n : ℕ). q + n) (last r (mod-lt a some)))
  where
    last : (r : ℕ) → r < b → (r + (b - 1)) / b ≡ min 1 r
    last zero low = div-eq_of_lt (omega (arith, some))
    last (suc k) low =
        let e : suc k + (b - 1) ≡ k + b = omega (arith, some) in
        let none : k / b ≡ 0 = div-eq_of_lt (omega (arith, low)) in
        ap (λ (n : ℕ). n / b) e ∙ add-div_right k some ∙ omega (arith, none)

pub links_is : (usable len : ℕ) → 480 ≤ usable → len / (usable - 4) + min 1 (len % (usable - 4)) ≡ links usable len
unfolding links
links_is usable len wide = ceil_is len (usable - 4) (omega (arith, wide))

-- the bytes from one place up to the next
pub piece_is : (bytes : List ℕ) (start room : ℕ) → drop start (take (start + room) bytes) ≡ take room (drop start bytes)
piece_is bytes start room =
    let e : start + room - start ≡ room = omega arith in
    sym (between_is bytes start (start + room)) ∙ ap (λ (n : ℕ). take n (drop start bytes)) e

pub piece_then : (bytes : List ℕ) (start room : ℕ) → take room (drop start bytes) ++ drop (start + room) bytes ≡ drop start bytes
piece_then bytes start room = ap (λ (rest : List ℕ). take room (drop start bytes) ++ rest) (sym (drop-drop room start bytes)) ∙ take-append-drop room (drop start bytes)

-- a page that was handed out is not page 1
pub not_first : (page : ℕ) → times 1 (page ∷ []) ≡ 0 → page ≡ 1 → ⊥
not_first page lacks first = let e = subst (λ (n : ℕ). times 1 (n ∷ []) ≡ 0) first lacks in absurd (omega (arith, e))

-- calls after calls
pub keeps_both : {P : Type 0} (g : Ghosts P) (a b c : P) → Keeps g a b → Keeps g b c → Keeps g a c
keeps_both g a b c x y = record {
  earlier = λ pages agrees. x.earlier pages (y.earlier pages agrees);
  told = y.told ∙ x.told;
  size = y.size ∙ x.size;
  used = y.used ∙ x.used;
  limit = y.limit ∙ x.limit;
  sealed = y.sealed ∙ x.sealed;
  count = omega (arith, x.count, y.count);
}

-- a list that is written back over another of its length has this length
pub written_back : (len : ℕ) (new old : List ℕ) → length new ≡ length old → length old ≤ len → length (take len (new ++ drop (length new) old)) ≡ length old
written_back len new old same fits =
    omega (arith, same, fits, length-take len (new ++ drop (length new) old), length-append new (drop (length new) old), length-drop (length new) old)
