-- A cell that is put into a leaf whose offsets and cells stand as they are written.
use Rattle.std.proofs.Common.{◌≡◌, ℕ, ◌+◌, ◌-◌, ◌*◌, ◌<◌, ◌≤◌, false, true, List, [], ◌∷◌, ◌++◌, length, take, drop, refl, sym, ap, ◌∙◌, arith, append_assoc, length-append}
use Rattle.std.proofs.lemmas.Bool.{le-leb, lt-leb}
use Rattle.std.proofs.lemmas.List.{drop_at, drop-drop, length-replicate, take_at}
use Rattle.std.specs.Prelude.{replicate, slice_range}
use Rattle.byteorder.specs.Endian.{big_bytes}
use Rattle.spe_model.specs.declared.page.Cell.{Cell}
use Rattle.spe_model.specs.declared.page.Kind.TheVariants.{TableLeaf}
use Rattle.spe_format.specs.declared.slot.Slot.{Slot}
use Rattle.spe_format.specs.Canonical.{AreInRange, IsInRange, canonical, fits, cell_bytes, cells_length, content, header_bytes, right_bytes, page_written, splice, used}
use Rattle.spe_format.specs.Packed.{IsSlot, IsWithin, leaf_header, leaf_page, moved_offsets, offset_bytes}
use Rattle.spe_format.proofs.CanonicalLemmas.{content_length, starts_length}
use Rattle.spe_format.proofs.ContentLemmas.{content_joined, length_joined, offsets_joined, ranges_joined, ranges_parted}
use Rattle.spe_format.proofs.MoveLemmas.{moved_are}
use Rattle.spe_format.proofs.SpliceLemmas.{drop_splice_past, length-splice, splice_before, splice_same, then_splice}

-- what each step leaves
pub record Steps (at : ℕ) (slot : Slot) (size : ℕ) (cell : Cell) (old one two three four five six : List ℕ) : Type 0 where
  pub offsets : one ≡ splice (at + 8 + 2 * slot.place + 2)
      (moved_offsets size (slice_range old (at + 8 + 2 * slot.place) (at + 8 + 2 * slot.place + 2 * (slot.count - slot.place)))) old
  pub offset : two ≡ splice (at + 8 + 2 * slot.place) (big_bytes 2 (slot.end - size)) one
  pub moved : three ≡ splice (slot.low - size) (slice_range two slot.low slot.end) two
  pub put : four ≡ splice (slot.end - size) (cell_bytes TableLeaf cell) three
  pub zeros : five ≡ splice (at + 8 + 2 * slot.count + 2) (replicate (slot.low - size - (at + 8 + 2 * slot.count + 2)) 0) four
  pub header : six ≡ splice at (leaf_header (slot.count + 1) (slot.low - size)) five

header_is : (cells : List Cell) (usable count low : ℕ) → length cells ≡ count → usable - cells_length TableLeaf cells ≡ low → leaf_header count low ≡ header_bytes (leaf_page cells) usable
unfolding right_bytes
header_is cells usable count low long at = rw (long, at) refl

-- sizes of a leaf with a place in it
pub record Sizes (at usable : ℕ) (slot : Slot) (before after : List Cell) : Type 0 where
  pub count : slot.count ≡ length before + length after
  pub place : slot.place ≡ length before
  pub low : slot.low + (cells_length TableLeaf before + cells_length TableLeaf after) ≡ usable
  pub end : slot.end + cells_length TableLeaf before ≡ usable

sizes_of : (page : List ℕ) (at usable : ℕ) (slot : Slot) (before after : List Cell) → IsSlot page at usable slot before after → Sizes at usable slot before after
sizes_of page at usable slot before after is =
    let all = length-append before after in
    let sum = length_joined before after in
    record { count = omega (arith, is.count, all); place = is.place; low = omega (arith, is.low, sum); end = is.end }

-- the offsets behind the place, and the cells from the last one on, as they are
after_offsets : (page : List ℕ) (at usable : ℕ) (slot : Slot) (before after : List Cell) → IsSlot page at usable slot before after
    → slice_range page (at + 8 + 2 * slot.place) (at + 8 + 2 * slot.place + 2 * (slot.count - slot.place)) ≡ offset_bytes slot.end after
after_offsets page at usable slot before after is =
    let s = sizes_of page at usable slot before after is in
    let from = at + 8 + 2 * slot.place in
    let first = offset_bytes usable before in
    let long : length first ≡ 2 * slot.place = starts_length TableLeaf usable before ∙ ap (λ (n : ℕ). 2 * n) (sym s.place) in
    let end : usable - cells_length TableLeaf before ≡ slot.end = omega (arith, s.end) in
    let tail = drop (at + 8 + 2 * length (before ++ after)) page in
    let all : drop (at + 8) page ≡ first ++ (offset_bytes slot.end after ++ tail) =
    is.packed.offsets ∙ ap (λ (xs : List ℕ). xs ++ tail) (offsets_joined usable before after ∙ ap (λ (n : ℕ). first ++ offset_bytes n after) end)
    ∙ append_assoc first (offset_bytes slot.end after) tail in
    let behind : drop from page ≡ offset_bytes slot.end after ++ tail =
    sym (drop-drop (2 * slot.place) (at + 8) page) ∙ ap (drop (2 * slot.place)) all ∙ drop_at first (offset_bytes slot.end after ++ tail) (2 * slot.place) long in
    let width : from + 2 * (slot.count - slot.place) - from ≡ 2 * length after = omega (arith, s.count, s.place) in
    rw (width, behind) (take_at (offset_bytes slot.end after) tail (2 * length after) (starts_length TableLeaf slot.end after))

cells_from : (page : List ℕ) (at usable : ℕ) (slot : Slot) (before after : List Cell) → IsSlot page at usable slot before after
    → drop slot.low page ≡ content TableLeaf after ++ (content TableLeaf before ++ drop usable page)
cells_from page at usable slot before after is =
    let low : usable - cells_length TableLeaf (before ++ after) ≡ slot.low = omega (arith, is.low) in
    ap (λ (n : ℕ). drop n page) (sym low) ∙ is.packed.cells_are ∙ ap (λ (xs : List ℕ). xs ++ drop usable page) (content_joined before after)
    ∙ append_assoc (content TableLeaf after) (content TableLeaf before) (drop usable page)

cells_before : (page : List ℕ) (at usable : ℕ) (slot : Slot) (before after : List Cell) → IsSlot page at usable slot before after
    → drop slot.end page ≡ content TableLeaf before ++ drop usable page
cells_before page at usable slot before after is =
    let s = sizes_of page at usable slot before after is in
    let up : slot.low + cells_length TableLeaf after ≡ slot.end = omega (arith, s.low, s.end) in
    ap (λ (n : ℕ). drop n page) (sym up) ∙ sym (drop-drop (cells_length TableLeaf after) slot.low page) ∙ ap (drop (cells_length TableLeaf after)) (cells_from page at usable slot before after is)
    ∙ drop_at (content TableLeaf after) (content TableLeaf before ++ drop usable page) (cells_length TableLeaf after) (content_length TableLeaf after)

offsets_before : (page : List ℕ) (at usable : ℕ) (slot : Slot) (before after : List Cell) → IsSlot page at usable slot before after
    → page ≡ splice (at + 8) (offset_bytes usable before) page
offsets_before page at usable slot before after is =
    let first = offset_bytes usable before in
    let rest = offset_bytes (usable - cells_length TableLeaf before) after in
    let tail = drop (at + 8 + 2 * length (before ++ after)) page in
    let all : drop (at + 8) page ≡ first ++ (rest ++ tail) =
    is.packed.offsets ∙ ap (λ (xs : List ℕ). xs ++ tail) (offsets_joined usable before after) ∙ append_assoc first rest tail in
    let behind : rest ++ tail ≡ drop (at + 8 + length first) page =
    sym (drop_at first (rest ++ tail) (length first) refl) ∙ ap (drop (length first)) (sym all) ∙ drop-drop (length first) (at + 8) page in
    splice_same (at + 8) first page (all ∙ ap (λ (xs : List ℕ). first ++ xs) behind)

-- all that is written from the first offset that changes up to the new cell
abbrev written : (at : ℕ) (slot : Slot) (size : ℕ) (cell : Cell) (after : List Cell) → List ℕ
written at slot size cell after =
    (big_bytes 2 (slot.end - size) ++ offset_bytes (slot.end - size) after)
    ++ (replicate (slot.low - size - (at + 8 + 2 * slot.count + 2)) 0 ++ (content TableLeaf after ++ cell_bytes TableLeaf cell))

pub written_is : (at usable : ℕ) (slot : Slot) (size : ℕ) (cell : Cell) (before after : List Cell) (old one two three four five six : List ℕ) → usable ≤ 65536 → size ≡ length (cell_bytes TableLeaf cell)
    → at + 8 + 2 * slot.count + 2 + size ≤ slot.low → slot.end ≤ length old → IsSlot old at usable slot before after → Steps at slot size cell old one two three four five six
    → five ≡ splice (at + 8 + 2 * slot.place) (written at slot size cell after) old
written_is at usable slot size cell before after old one two three four five six high size_is room inside is st =
    let s = sizes_of old at usable slot before after is in
    let from = at + 8 + 2 * slot.place in
    let stop = at + 8 + 2 * slot.count in
    let moved = offset_bytes (slot.end - size) after in
    let offset = big_bytes 2 (slot.end - size) in
    let kept = content TableLeaf after in
    let bytes = cell_bytes TableLeaf cell in
    let zeros : List ℕ = replicate (slot.low - size - (stop + 2)) 0 in
    let kept_long = content_length TableLeaf after in
    let moved_long = starts_length TableLeaf (slot.end - size) after in
    let zeros_long : length zeros ≡ slot.low - size - (stop + 2) = length-replicate {A = ℕ} (slot.low - size - (stop + 2)) 0 in
    let offsets : one ≡ splice (from + 2) moved old =
    st.offsets ∙ ap (λ (xs : List ℕ). splice (from + 2) (moved_offsets size xs) old) (after_offsets old at usable slot before after is)
    ∙ ap (λ (xs : List ℕ). splice (from + 2) xs old) (moved_are slot.end size after (omega (arith, s.low, s.end)) (omega (arith, s.end, high))) in
    let array : two ≡ splice from (offset ++ moved) old = splice_before from (from + 2) offset moved old one two refl (omega (arith, s.count, s.place, room, s.low, s.end, inside)) offsets st.offset in
    let long_two : length two ≡ length old =
    ap (λ (xs : List ℕ). length xs) array ∙ length-splice from (offset ++ moved) old (omega (arith, length-append offset moved, moved_long, s.count, s.place, room, s.low, s.end, inside)) in
    let low_two : drop slot.low two ≡ kept ++ (content TableLeaf before ++ drop usable old) =
    ap (drop slot.low) array ∙ drop_splice_past from slot.low (offset ++ moved) old (omega (arith, length-append offset moved, moved_long, s.count, s.place, room)) (omega (arith, s.count, s.place, room, s.low, s.end, inside))
    ∙ cells_from old at usable slot before after is in
    let width : slot.end - slot.low ≡ cells_length TableLeaf after = omega (arith, s.low, s.end) in
    let cells : slice_range two slot.low slot.end ≡ kept = rw (width, low_two) (take_at kept (content TableLeaf before ++ drop usable old) (cells_length TableLeaf after) kept_long) in
    let third : three ≡ splice (slot.low - size) kept two = st.moved ∙ ap (λ (xs : List ℕ). splice (slot.low - size) xs two) cells in
    let fourth : four ≡ splice (slot.low - size) (kept ++ bytes) two =
    then_splice (slot.low - size) (slot.end - size) kept bytes two three four (omega (arith, kept_long, s.low, s.end, room)) (omega (arith, long_two, s.low, s.end, inside)) third st.put in
    let fifth : five ≡ splice (stop + 2) (zeros ++ (kept ++ bytes)) two =
    splice_before (stop + 2) (slot.low - size) zeros (kept ++ bytes) two four five (omega (arith, zeros_long, room)) (omega (arith, long_two, s.low, s.end, inside)) fourth st.zeros in
    then_splice from (stop + 2) (offset ++ moved) (zeros ++ (kept ++ bytes)) old two five (omega (arith, length-append offset moved, moved_long, s.count, s.place)) (omega (arith, s.count, s.place, room, s.low, s.end, inside)) array fifth

-- the page is then as it is written with these cells
pub put_is : (at usable : ℕ) (slot : Slot) (size : ℕ) (cell : Cell) (before after : List Cell) (old one two three four five six : List ℕ) → usable ≤ 65536 → size ≡ length (cell_bytes TableLeaf cell)
    → at + 8 + 2 * slot.count + 2 + size ≤ slot.low → slot.end ≤ length old → IsSlot old at usable slot before after → Steps at slot size cell old one two three four five six
    → six ≡ splice at (canonical (leaf_page (before ++ (cell ∷ after))) at usable) old
put_is at usable slot size cell before after old one two three four five six high size_is room inside is st =
    let s = sizes_of old at usable slot before after is in
    let from = at + 8 + 2 * slot.place in
    let stop = at + 8 + 2 * slot.count in
    let low = slot.low - size in
    let first = offset_bytes usable before in
    let last = content TableLeaf before in
    let kept = content TableLeaf after in
    let bytes = cell_bytes TableLeaf cell in
    let offset = big_bytes 2 (slot.end - size) in
    let moved = offset_bytes (slot.end - size) after in
    let zeros : List ℕ = replicate (low - (stop + 2)) 0 in
    let all = before ++ (cell ∷ after) in
    let total : cells_length TableLeaf all ≡ cells_length TableLeaf before + (size + cells_length TableLeaf after) =
    length_joined before (cell ∷ after) ∙ ap (λ (n : ℕ). cells_length TableLeaf before + (n + cells_length TableLeaf after)) (sym size_is) in
    let count : length all ≡ slot.count + 1 = length-append before (cell ∷ after) ∙ omega (arith, s.count) in
    let begin : usable - cells_length TableLeaf all ≡ low = omega (arith, total, s.low, room) in
    let new = written at slot size cell after in
    let head = leaf_header (slot.count + 1) low in
    let first_long = starts_length TableLeaf usable before in
    let moved_long = starts_length TableLeaf (slot.end - size) after in
    let array_long = length-append offset moved in
    let zeros_long : length zeros ≡ low - (stop + 2) = length-replicate {A = ℕ} (low - (stop + 2)) 0 in
    let cells_long = length-append kept bytes in
    let tail_long = length-append zeros (kept ++ bytes) in
    let new_long = length-append (offset ++ moved) (zeros ++ (kept ++ bytes)) in
    let kept_long = content_length TableLeaf after in
    let start : five ≡ splice (at + 8) (first ++ new) old =
    then_splice (at + 8) from first new old old five (omega (arith, first_long, s.place)) (omega (arith, s.count, room, s.low, s.end, inside)) (offsets_before old at usable slot before after is)
    (written_is at usable slot size cell before after old one two three four five six high size_is room inside is st) in
    let body : six ≡ splice at (head ++ (first ++ new)) old =
    splice_before at (at + 8) head (first ++ new) old five six (omega arith) (omega (arith, s.count, room, s.low, s.end, inside)) start st.header in
    let there : old ≡ splice slot.end last old =
    splice_same slot.end last old (cells_before old at usable slot before after is
    ∙ ap (λ (n : ℕ). last ++ drop n old) (sym (ap (λ (n : ℕ). slot.end + n) (content_length TableLeaf before) ∙ s.end))) in
    let stops : at + length (head ++ (first ++ new)) ≡ slot.end =
    omega (arith, length-append head (first ++ new), length-append first new, first_long, moved_long, array_long, zeros_long, cells_long, tail_long, new_long, kept_long, size_is, s.place, s.count, s.low, s.end, room) in
    let whole : six ≡ splice at ((head ++ (first ++ new)) ++ last) old = splice_before at slot.end (head ++ (first ++ new)) last old old six stops inside there body in
    let end : usable - cells_length TableLeaf before ≡ slot.end = omega (arith, s.end) in
    let offsets : offset_bytes usable all ≡ first ++ (offset ++ moved) =
    offsets_joined usable before (cell ∷ after) ∙ ap (λ (n : ℕ). first ++ (big_bytes 2 (n - length bytes) ++ offset_bytes (n - length bytes) after)) end
    ∙ ap (λ (n : ℕ). first ++ (big_bytes 2 (slot.end - n) ++ offset_bytes (slot.end - n) after)) (sym size_is) in
    let cells : content TableLeaf all ≡ (kept ++ bytes) ++ last = content_joined before (cell ∷ after) in
    let gap : usable - used (leaf_page all) at ≡ low - (stop + 2) = omega (arith, total, count, s.low, room) in
    let shape : (head ++ (first ++ ((offset ++ moved) ++ (zeros ++ (kept ++ bytes))))) ++ last ≡ head ++ ((first ++ (offset ++ moved)) ++ (zeros ++ ((kept ++ bytes) ++ last))) =
    parts_shape head first (offset ++ moved) zeros (kept ++ bytes) last in
    let written_so : head ++ ((first ++ (offset ++ moved)) ++ (zeros ++ ((kept ++ bytes) ++ last))) ≡ canonical (leaf_page all) at usable =
    ap (λ (h : List ℕ). h ++ ((first ++ (offset ++ moved)) ++ (zeros ++ ((kept ++ bytes) ++ last)))) (header_is all usable (slot.count + 1) low count begin)
    ∙ ap (λ (o : List ℕ). header_bytes (leaf_page all) usable ++ (o ++ (zeros ++ ((kept ++ bytes) ++ last)))) (sym offsets)
    ∙ ap (λ (n : ℕ). header_bytes (leaf_page all) usable ++ (offset_bytes usable all ++ (replicate n 0 ++ ((kept ++ bytes) ++ last)))) (sym gap)
    ∙ ap (λ (cs : List ℕ). header_bytes (leaf_page all) usable ++ (offset_bytes usable all ++ (replicate (usable - used (leaf_page all) at) 0 ++ cs))) (sym cells) in
    whole ∙ ap (λ (bs : List ℕ). splice at bs old) (shape ∙ written_so)
  where
    parts_shape : (h a b z k l : List ℕ) → (h ++ (a ++ (b ++ (z ++ k)))) ++ l ≡ h ++ ((a ++ b) ++ (z ++ (k ++ l)))
    parts_shape h a b z k l = simp append_assoc

-- whether there is room
pub has_room : (page : List ℕ) (at usable : ℕ) (slot : Slot) (size : ℕ) (cell : Cell) (before after : List Cell) → size ≡ length (cell_bytes TableLeaf cell) → IsSlot page at usable slot before after
    → at + 8 + 2 * slot.count + 2 + size ≤ slot.low → used (leaf_page (before ++ (cell ∷ after))) at ≤ usable
has_room page at usable slot size cell before after size_is is room =
    let s = sizes_of page at usable slot before after is in
    omega (arith, length_joined before (cell ∷ after), length-append before (cell ∷ after), s.count, s.low, size_is, room)

pub no_room : (page : List ℕ) (at usable : ℕ) (slot : Slot) (size : ℕ) (cell : Cell) (before after : List Cell) → size ≡ length (cell_bytes TableLeaf cell) → IsSlot page at usable slot before after
    → slot.low < at + 8 + 2 * slot.count + 2 + size → fits (leaf_page (before ++ (cell ∷ after))) at usable ≡ false
no_room page at usable slot size cell before after size_is is room =
    let s = sizes_of page at usable slot before after is in
    let all = before ++ (cell ∷ after) in
    let more : usable < at + 8 + (2 * length all + cells_length TableLeaf all) =
    omega (arith, length_joined before (cell ∷ after), length-append before (cell ∷ after), s.count, s.low, size_is, room) in
    lt-leb (used (leaf_page all) at) usable more

pub ranges_with : (before after : List Cell) (cell : Cell) → AreInRange (before ++ after) → IsInRange cell → AreInRange (before ++ (cell ∷ after))
ranges_with before after cell all is = let two = ranges_parted before after all in ranges_joined before (cell ∷ after) two.0 (is, two.1)

pub left_so : (at usable : ℕ) (cells : List Cell) (page : List ℕ) → fits (leaf_page cells) at usable ≡ false → page ≡ page_written (leaf_page cells) at usable page
left_so at usable cells page none = rw none refl

pub written_so : (at usable : ℕ) (cells : List Cell) (page new : List ℕ) → used (leaf_page cells) at ≤ usable → new ≡ splice at (canonical (leaf_page cells) at usable) page
    → new ≡ page_written (leaf_page cells) at usable page
written_so at usable cells page new room is = let enough : fits (leaf_page cells) at usable ≡ true = le-leb (used (leaf_page cells) at) usable room in rw enough is
