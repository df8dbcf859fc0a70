-- Offsets that are moved.
use Rattle.std.proofs.Common.{◌≡◌, ℕ, zero, suc, ◌+◌, ◌-◌, ◌*◌, ◌<◌, ◌≤◌, List, [], ◌∷◌, ◌++◌, length, take, drop, get_or, refl, sym, ap, ◌∙◌, arith, append_assoc, length-append}
use Rattle.std.proofs.lemmas.List.{drop_more, get_or_append_left, get_or-drop, get_or-take, length-take-le}
use Rattle.std.specs.List.{flat_map}
use Rattle.std.specs.Prelude.{slice_index, slice_range}
use Rattle.byteorder.specs.Endian.{big_bytes, big_number}
use Rattle.spe_model.specs.Big.{u16_at}
use Rattle.spe_model.specs.Page.{numbers}
use Rattle.spe_model.specs.declared.page.Cell.{Cell}
use Rattle.spe_model.specs.declared.page.Kind.TheVariants.{TableLeaf}
use Rattle.spe_format.specs.Canonical.{cell_bytes, cells_length, splice, starts}
use Rattle.spe_format.specs.Packed.{moved_offsets, offset_bytes}
use Rattle.spe_format.proofs.CanonicalLemmas.{starts_length}
use Rattle.spe_format.proofs.ReadBackLemmas.{numbers_starts}
use Rattle.spe_format.proofs.SpliceLemmas.{splice_before, splice-none}

number_there : (xs : List ℕ) (at : ℕ) → u16_at xs at ≡ get_or xs at 0 * 256 + get_or xs (at + 1) 0
unfolding u16_at
number_there xs at =
    let none : at + 0 ≡ at = omega arith in
    let first : get_or (drop at xs) 0 0 ≡ get_or xs at 0 = get_or-drop at xs 0 0 ∙ ap (λ (n : ℕ). get_or xs n 0) none in
    let second : get_or (drop at xs) 1 0 ≡ get_or xs (at + 1) 0 = get_or-drop at xs 1 0 in
    omega (arith, first, second)

-- a number in front of what was put
number_below : (at m : ℕ) (b xs : List ℕ) → at + 2 ≤ m → m ≤ length xs → u16_at (splice m b xs) at ≡ u16_at xs at
number_below at m b xs below within =
    let front : length (take m xs) ≡ m = length-take-le m xs within in
    let there : (i : ℕ) → i < m → get_or (splice m b xs) i 0 ≡ get_or xs i 0 = λ i less.
    get_or_append_left (take m xs) (b ++ drop (m + length b) xs) 0 i (omega (arith, front, less)) ∙ get_or-take m xs i 0 less in
    number_there (splice m b xs) at ∙ rw (there at (omega arith), there (at + 1) (omega arith)) (sym (number_there xs at))

-- the offsets from a place on
offsets_from : (xs : List ℕ) (at count : ℕ) → at + 2 * suc count ≤ length xs
    → numbers (slice_range xs at (at + 2 * suc count)) ≡ u16_at xs at ∷ numbers (slice_range xs (at + 2) (at + 2 + 2 * count))
offsets_from xs at count within =
    let one : drop at xs ≡ get_or xs at 0 ∷ drop (at + 1) xs = drop_more xs at 0 (omega arith) in
    let two : drop (at + 1) xs ≡ get_or xs (at + 1) 0 ∷ drop (at + 1 + 1) xs = drop_more xs (at + 1) 0 (omega arith) in
    let next : at + 1 + 1 ≡ at + 2 = omega arith in
    let wide : at + 2 * suc count - at ≡ suc (suc (2 * count)) = omega arith in
    let narrow : at + 2 + 2 * count - (at + 2) ≡ 2 * count = omega arith in
    rw (wide, narrow, one, two, next, number_there xs at) refl

-- a turn of the loop, the offset at the end of those that are left
pub move_turn : (old page new : List ℕ) (from left next count by : ℕ) → next + 1 ≡ left → left ≤ count → from + 2 * count + 2 ≤ length old
    → page ≡ splice (from + 2 + 2 * left) (moved_offsets by (slice_range old (from + 2 * left) (from + 2 * count))) old
    → new ≡ splice (from + 2 * next + 2) (big_bytes 2 (u16_at page (from + 2 * next) - by)) page
    → new ≡ splice (from + 2 + 2 * next) (moved_offsets by (slice_range old (from + 2 * next) (from + 2 * count))) old
move_turn old page new from left next count by turn few room is put =
    let at = from + 2 * next in
    let m = from + 2 + 2 * left in
    let rest = count - left in
    let put_at : at + 2 ≡ from + 2 + 2 * next = omega arith in
    let tail : from + 2 * left ≡ at + 2 = omega arith in
    let stop : from + 2 * count ≡ at + 2 * suc rest = omega arith in
    let end : at + 2 * suc rest ≡ at + 2 + 2 * rest = omega arith in
    let same : u16_at page at ≡ u16_at old at =
    ap (λ (xs : List ℕ). u16_at xs at) is ∙ number_below at m (moved_offsets by (slice_range old (from + 2 * left) (from + 2 * count))) old (omega arith) (omega arith) in
    let parts : moved_offsets by (slice_range old at (from + 2 * count)) ≡ big_bytes 2 (u16_at page at - by) ++ moved_offsets by (slice_range old (from + 2 * left) (from + 2 * count)) =
    ap (λ (n : ℕ). moved_offsets by (slice_range old at n)) stop
    ∙ ap (λ (ns : List ℕ). flat_map (λ offset. big_bytes 2 (offset - by)) ns) (offsets_from old at rest (omega arith))
    ∙ ap (λ (n : ℕ). big_bytes 2 (n - by) ++ moved_offsets by (slice_range old (at + 2) (at + 2 + 2 * rest))) (sym same)
    ∙ ap (λ (n : ℕ). big_bytes 2 (u16_at page at - by) ++ moved_offsets by (slice_range old (at + 2) n)) (sym end ∙ sym stop)
    ∙ ap (λ (n : ℕ). big_bytes 2 (u16_at page at - by) ++ moved_offsets by (slice_range old n (from + 2 * count))) (sym tail) in
    splice_before (at + 2) m (big_bytes 2 (u16_at page at - by)) (moved_offsets by (slice_range old (from + 2 * left) (from + 2 * count))) old page new (omega arith) (omega arith) is put
    ∙ ap (λ (bytes : List ℕ). splice (at + 2) bytes old) (sym parts) ∙ ap (λ (n : ℕ). splice n (moved_offsets by (slice_range old at (from + 2 * count))) old) put_at

lowered : (end by : ℕ) (cells : List Cell) → flat_map (λ offset. big_bytes 2 (offset - by)) (starts TableLeaf end cells) ≡ offset_bytes (end - by) cells
lowered end by [] = refl
lowered end by (c ∷ cs) =
    let n = length (cell_bytes TableLeaf c) in
    let same : end - n - by ≡ end - by - n = omega arith in
    ap (λ (xs : List ℕ). big_bytes 2 (end - n - by) ++ xs) (lowered (end - n) by cs) ∙ ap (λ (k : ℕ). big_bytes 2 k ++ offset_bytes k cs) same

-- the offsets of cells that are moved
pub moved_are : (end by : ℕ) (cells : List Cell) → cells_length TableLeaf cells ≤ end → end ≤ 65536 → moved_offsets by (offset_bytes end cells) ≡ offset_bytes (end - by) cells
moved_are end by cells fits high = ap (λ (ns : List ℕ). flat_map (λ offset. big_bytes 2 (offset - by)) ns) (numbers_starts TableLeaf end cells fits high) ∙ lowered end by cells

-- before the loop nothing is moved
pub move_start : (page : List ℕ) (from count by : ℕ) → page ≡ splice (from + 2 + 2 * count) (moved_offsets by (slice_range page (from + 2 * count) (from + 2 * count))) page
move_start page from count by =
    let none : from + 2 * count - (from + 2 * count) ≡ 0 = omega arith in
    rw none (sym (splice-none (from + 2 + 2 * count) page))

pub move_end : (page old : List ℕ) (from left count by : ℕ) → left ≡ 0
    → page ≡ splice (from + 2 + 2 * left) (moved_offsets by (slice_range old (from + 2 * left) (from + 2 * count))) old
    → page ≡ splice (from + 2) (moved_offsets by (slice_range old from (from + 2 * count))) old
move_end page old from left count by none is =
    let one : from + 2 + 2 * left ≡ from + 2 = omega arith in
    let two : from + 2 * left ≡ from = omega arith in
    is ∙ ap (λ (n : ℕ). splice n (moved_offsets by (slice_range old (from + 2 * left) (from + 2 * count))) old) one
    ∙ ap (λ (n : ℕ). splice (from + 2) (moved_offsets by (slice_range old n (from + 2 * count))) old) two
