-- A page that is written reads back.
use Rattle.std.proofs.Common.{◌≡◌, ℕ, ◌+◌, ◌-◌, ◌*◌, ◌/◌, ◌%◌, ◌^◌, ◌≤◌, ◌<◌, List, [], ◌∷◌, ◌++◌, length, take, drop, true, false, refl, sym, ap, ◌∙◌, arith, append_assoc, append-nil, length-append, Option, Some, Result, Ok}
use Rattle.std.proofs.lemmas.Bool.{le-ltb, le-leb}
use Rattle.std.proofs.lemmas.List.{take_at, drop_at, drop-drop, get_or_at, length-replicate, length-take-le}
use Rattle.std.specs.List.{flat_map, list_all, list_any}
use Rattle.std.specs.Prelude.{replicate, slice_index, slice_range, nat_lt, nat_le, not, ◌&&◌, max, min}
use Rattle.byteorder.specs.Endian.{big_bytes}
use Rattle.byteorder.specs.Numbers.{big_number-reads_back}
use Rattle.spe_model.specs.declared.page.Cell.{Cell}
use Rattle.spe_model.specs.declared.page.Kind.{Kind}
use Rattle.spe_model.specs.declared.page.Kind.TheVariants.{TableLeaf, TableInterior, IndexLeaf, IndexInterior}
use Rattle.spe_model.specs.declared.page.PageCells.{PageCells}
use Rattle.spe_model.specs.declared.page.PageFault.{PageFault}
use Rattle.spe_model.specs.Big.{u16_at, u32_at}
use Rattle.spe_model.specs.Kind.{kind_of, is_leaf, is_table}
use Rattle.spe_model.specs.Page.{share, apart, ascends, array_start, array_end, cell_count, numbers, offsets_at, is_within, placed_at, placed_all, right_at, page_of_kind, page_at}
use Rattle.spe_format.specs.Canonical.{splice, fits, page_written, type_byte, cell_bytes, cells_length, starts, content, right_bytes, header_bytes, body_bytes, used, canonical, IsWritableCell, AreWritable, IsWritable, IsInRange, AreInRange}
use Rattle.spe_format.proofs.SpliceLemmas.{take_splice, then_splice}
use Rattle.spe_format.proofs.CanonicalLemmas.{starts_length, content_length, body_length, header_length}
use Rattle.spe_format.proofs.CellLemmas.{cell_reads, cell_some}

cons_same : {X : Type 0} {x y : X} {xs ys : List X} → x ≡ y → xs ≡ ys → x ∷ xs ≡ y ∷ ys
cons_same e f = rw (e, f) refl

two_bytes : (n : ℕ) → n < 65536 → n / 256 % 256 * 256 + n % 256 ≡ n
two_bytes n fits = omega arith

-- the array holds the offsets
pub numbers_starts : (kind : Kind) (end : ℕ) (cells : List Cell) → cells_length kind cells ≤ end → end ≤ 65536
    → numbers (flat_map (λ offset. big_bytes 2 offset) (starts kind end cells)) ≡ starts kind end cells
numbers_starts kind end [] fits high = refl
numbers_starts kind end (c ∷ cs) fits high =
    let some = cell_some kind c in
    cons_same (two_bytes (end - length (cell_bytes kind c)) (omega arith)) (numbers_starts kind (end - length (cell_bytes kind c)) cs (omega arith) (omega arith))

starts_within : (kind : Kind) (low high end : ℕ) (cells : List Cell) → low + cells_length kind cells ≤ end → end ≤ high
    → list_all (is_within low high) (starts kind end cells) ≡ true
starts_within kind low high end [] fits within = refl
starts_within kind low high end (c ∷ cs) fits within =
    let start = end - length (cell_bytes kind c) in
    let above : nat_le low start ≡ true = le-leb low start (omega arith) in
    let below : nat_le start high ≡ true = le-leb start high (omega arith) in
    rw (above, below) (starts_within kind low high start cs (omega arith) (omega arith))

-- from where to where each cell lies
abbrev spans : Kind → ℕ → List Cell → List (ℕ × ℕ)
spans kind end [] = []
spans kind end (c ∷ cs) = (end - length (cell_bytes kind c), end) ∷ spans kind (end - length (cell_bytes kind c)) cs

spans_past : (kind : Kind) (s : ℕ × ℕ) (end : ℕ) (cells : List Cell) → end ≤ s.0 → list_any (share s) (spans kind end cells) ≡ false
spans_past kind s end [] below = refl
spans_past kind s end (c ∷ cs) below =
    let start = end - length (cell_bytes kind c) in
    let none : share s (start, end) ≡ false = le-ltb (max s.0 start) (min s.1 end) (omega arith) in
    rw (none, spans_past kind s start cs (omega arith)) refl

spans_apart : (kind : Kind) (end : ℕ) (cells : List Cell) → apart (spans kind end cells) ≡ true
spans_apart kind end [] = refl
spans_apart kind end (c ∷ cs) =
    let start = end - length (cell_bytes kind c) in
    rw (spans_past kind (start, end) start cs (omega arith), spans_apart kind start cs) refl

placed_one : (kind : Kind) (usable : ℕ) (page front tail : List ℕ) (start end : ℕ) (c : Cell) → IsWritableCell kind usable c → IsInRange c
    → page ≡ front ++ (cell_bytes kind c ++ tail) → length front ≡ start → start + length (cell_bytes kind c) ≡ end
    → placed_at kind usable page start ≡ Some (c, end)
unfolding placed_at
placed_one kind usable page front tail start end c w r e long stop =
    let behind : drop start page ≡ cell_bytes kind c ++ tail = ap (drop start) e ∙ drop_at front (cell_bytes kind c ++ tail) start long in
    let whole : length page ≡ start + (length (cell_bytes kind c) + length tail) =
    ap length e ∙ rw (length-append, length-append) (omega arith) in
    let past : length page - length tail ≡ end = omega arith in
    rw (behind, cell_reads kind usable c tail w r, past) refl

-- each cell is found where its offset says
placed_starts : (kind : Kind) (usable : ℕ) (page front tail : List ℕ) (end : ℕ) (cells : List Cell) → AreWritable kind usable cells → AreInRange cells
    → page ≡ front ++ (content kind cells ++ tail) → length front + cells_length kind cells ≡ end
    → placed_all kind usable page (starts kind end cells) ≡ Some (cells, spans kind end cells)
placed_starts kind usable page front tail end [] w r e long = refl
placed_starts kind usable page front tail end (c ∷ cs) w r e long =
    let start = end - length (cell_bytes kind c) in
    let shape : front ++ ((content kind cs ++ cell_bytes kind c) ++ tail) ≡ (front ++ content kind cs) ++ (cell_bytes kind c ++ tail) = simp append_assoc in
    let other : front ++ ((content kind cs ++ cell_bytes kind c) ++ tail) ≡ front ++ (content kind cs ++ (cell_bytes kind c ++ tail)) = simp append_assoc in
    let ahead : length (front ++ content kind cs) ≡ start = rw (length-append, content_length kind cs) (omega arith) in
    let first : placed_at kind usable page start ≡ Some (c, end) =
    placed_one kind usable page (front ++ content kind cs) tail start end c w.0 r.0 (e ∙ shape) ahead (omega arith) in
    let rest : placed_all kind usable page (starts kind start cs) ≡ Some (cs, spans kind start cs) =
    placed_starts kind usable page front (cell_bytes kind c ++ tail) start cs w.1 r.1 (e ∙ other) (omega arith) in
    rw (first, rest) refl

kind_is : (kind : Kind) → kind_of (type_byte kind) ≡ Some kind
unfolding kind_of
kind_is TableLeaf = refl
kind_is TableInterior = refl
kind_is IndexLeaf = refl
kind_is IndexInterior = refl

drop_behind : (front back : List ℕ) (at n : ℕ) → length front ≡ at → drop (at + n) (front ++ back) ≡ drop n back
drop_behind front back at n long = sym (drop-drop n at (front ++ back)) ∙ ap (drop n) (drop_at front back at long)

count_is : (front behind : List ℕ) (at : ℕ) (p : PageCells) (usable : ℕ) → length front ≡ at → length p.cells < 65536
    → cell_count (front ++ (header_bytes p usable ++ behind)) at ≡ length p.cells
unfolding u16_at
count_is front behind at p usable long few =
    rw (drop_behind front (header_bytes p usable ++ behind) at 3 long)
    (big_number-reads_back 2 (length p.cells) (big_bytes 2 (usable - cells_length p.kind p.cells) ++ (0 ∷ right_bytes p.kind p.right) ++ behind) (omega arith))

right_is : (front behind : List ℕ) (at : ℕ) (kind : Kind) (cells : List Cell) (right usable : ℕ) → length front ≡ at → (is_leaf kind ≡ true → right ≡ 0) → right < 2 ^ 32
    → right_at kind (front ++ (header_bytes (record { kind = kind; cells = cells; right = right }) usable ++ behind)) at ≡ right
unfolding u32_at right_bytes
right_is front behind at TableLeaf cells right usable long none fits = sym (none refl)
right_is front behind at TableInterior cells right usable long none fits =
    rw (drop_behind front (header_bytes (record { kind = TableInterior; cells = cells; right = right }) usable ++ behind) at 8 long)
    (big_number-reads_back 4 right behind (omega arith))
right_is front behind at IndexLeaf cells right usable long none fits = sym (none refl)
right_is front behind at IndexInterior cells right usable long none fits =
    rw (drop_behind front (header_bytes (record { kind = IndexInterior; cells = cells; right = right }) usable ++ behind) at 8 long)
    (big_number-reads_back 4 right behind (omega arith))

-- a page with no fault
page_is : (kind : Kind) (page : List ℕ) (at : ℕ) (cells : List Cell) (lie : List (ℕ × ℕ)) → nat_lt (length page) (array_end kind page at) ≡ false
    → list_all (is_within (array_end kind page at) (length page)) (offsets_at kind page at) ≡ true
    → placed_all kind (length page) page (offsets_at kind page at) ≡ Some (cells, lie) → apart lie ≡ true → (is_table kind && not (ascends cells)) ≡ false
    → page_of_kind (Some kind) page at ≡ Ok (record { kind = kind; cells = cells; right = right_at kind page at })
page_is kind page at cells lie array within placed free order = rw (array, within, placed, free, order) refl

order_is : (kind : Kind) (cells : List Cell) → (is_table kind ≡ true → ascends cells ≡ true) → (is_table kind && not (ascends cells)) ≡ false
order_is TableLeaf cells up = rw (up refl) refl
order_is TableInterior cells up = rw (up refl) refl
order_is IndexLeaf cells up = refl
order_is IndexInterior cells up = refl

abbrev ok_page : PageCells → Result PageCells PageFault
ok_page x = Ok x

-- what a page reads as whose offsets and cells stand so, whatever is ahead of them and between them
pub layout_reads : (page ahead unused : List ℕ) (at usable : ℕ) (p : PageCells) → length ahead ≡ array_start p.kind at
    → array_start p.kind at + (2 * length p.cells + (length unused + cells_length p.kind p.cells)) ≡ usable → usable ≤ 65536 → IsWritable p usable → AreInRange p.cells
    → page ≡ ahead ++ (flat_map (λ offset. big_bytes 2 offset) (starts p.kind usable p.cells) ++ (unused ++ content p.kind p.cells))
    → cell_count page at ≡ length p.cells → right_at p.kind page at ≡ p.right
    → page_of_kind (Some p.kind) page at ≡ Ok p
layout_reads page ahead unused at usable p long whole high w r e count right =
    let kind = p.kind in
    let cells = p.cells in
    let array : List ℕ = flat_map (λ offset. big_bytes 2 offset) (starts kind usable cells) in
    let body : List ℕ = array ++ (unused ++ content kind cells) in
    let all : ahead ++ body ≡ ((ahead ++ array) ++ unused) ++ (content kind cells ++ []) = simp (append_assoc, append-nil) in
    let behind : drop (array_start kind at) page ≡ body = ap (drop (array_start kind at)) e ∙ drop_at ahead body (array_start kind at) long in
    let size : length page ≡ usable =
    ap length e ∙ rw (length-append, length-append, length-append, long, starts_length kind usable cells, content_length kind cells) (omega (arith, whole)) in
    let end : array_end kind page at ≡ array_start kind at + 2 * length cells = ap (λ (n : ℕ). array_start kind at + 2 * n) count in
    let few : array_start kind at + 2 * length cells - array_start kind at ≡ 2 * length cells = omega arith in
    let slots : slice_range page (array_start kind at) (array_start kind at + 2 * length cells) ≡ array =
    rw (behind, few) (take_at array (unused ++ content kind cells) (2 * length cells) (starts_length kind usable cells)) in
    let offsets : offsets_at kind page at ≡ starts kind usable cells =
    ap (λ (n : ℕ). numbers (slice_range page (array_start kind at) n)) end ∙ ap numbers slots ∙ numbers_starts kind usable cells (omega arith) high in
    let room : nat_lt (length page) (array_end kind page at) ≡ false = le-ltb (length page) (array_end kind page at) (omega (arith, end, size)) in
    let within : list_all (is_within (array_end kind page at) (length page)) (offsets_at kind page at) ≡ true =
    rw (offsets, end, size) (starts_within kind (array_start kind at + 2 * length cells) usable usable cells (omega arith) (omega arith)) in
    let before : length ((ahead ++ array) ++ unused) + cells_length kind cells ≡ usable =
    rw (length-append, length-append, long, starts_length kind usable cells) (omega (arith, whole)) in
    let placed : placed_all kind (length page) page (offsets_at kind page at) ≡ Some (cells, spans kind usable cells) =
    rw (offsets, size) (placed_starts kind usable page ((ahead ++ array) ++ unused) [] usable cells w.cells r (e ∙ all) before) in
    page_is kind page at cells (spans kind usable cells) room within placed (spans_apart kind usable cells) (order_is kind cells w.ascends)
    ∙ ap (λ (n : ℕ). ok_page (record { kind = kind; cells = cells; right = n })) right

-- what a page reads as whose parts are these
parts_read : (page front : List ℕ) (at usable : ℕ) (p : PageCells) → length front ≡ at → array_start p.kind at + (2 * length p.cells + cells_length p.kind p.cells) ≤ usable
    → usable ≤ 65536 → IsWritable p usable → AreInRange p.cells → page ≡ front ++ (header_bytes p usable ++ body_bytes p.kind usable (usable - used p at) p.cells)
    → cell_count page at ≡ length p.cells → right_at p.kind page at ≡ p.right
    → page_of_kind (Some p.kind) page at ≡ Ok p
parts_read page front at usable p long fits high w r e count right =
    let unused : List ℕ = replicate (usable - used p at) 0 in
    let start = header_length p at usable in
    let ahead : length (front ++ header_bytes p usable) ≡ array_start p.kind at = rw length-append (omega arith) in
    let gap : length unused ≡ usable - used p at = length-replicate {A = ℕ} (usable - used p at) 0 in
    let shape : front ++ (header_bytes p usable ++ body_bytes p.kind usable (usable - used p at) p.cells) ≡ (front ++ header_bytes p usable) ++ body_bytes p.kind usable (usable - used p at) p.cells = simp append_assoc in
    layout_reads page (front ++ header_bytes p usable) unused at usable p ahead (omega (arith, gap)) high w r (e ∙ shape) count right

pub canonical_length : (p : PageCells) (at usable : ℕ) → used p at ≤ usable → at + length (canonical p at usable) ≡ usable
canonical_length p at usable fits =
    let head = header_length p at usable in
    let body = body_length p.kind usable (usable - used p at) p.cells in
    rw length-append (omega arith)

front_reads : (front : List ℕ) (p : PageCells) (at usable : ℕ) → length front ≡ at → used p at ≤ usable → usable ≤ 65536 → IsWritable p usable → AreInRange p.cells → p.right < 2 ^ 32
    → page_at (front ++ canonical p at usable) at ≡ Ok p
unfolding page_at
front_reads front p at usable long fits high w r right =
    let page = front ++ canonical p at usable in
    let byte : slice_index page at ≡ type_byte p.kind = get_or_at front (type_byte p.kind) (drop 1 (canonical p at usable)) 0 at long in
    let count = count_is front (body_bytes p.kind usable (usable - used p at) p.cells) at p usable long (omega arith) in
    let last = right_is front (body_bytes p.kind usable (usable - used p at) p.cells) at p.kind p.cells p.right usable long w.right right in
    ap (λ (n : ℕ). page_of_kind (kind_of n) page at) byte ∙ ap (λ (k : Option Kind). page_of_kind k page at) (kind_is p.kind)
    ∙ parts_read page front at usable p long fits high w r refl count last

-- the page as it was written
pub written_reads : (page old : List ℕ) (p : PageCells) (at usable : ℕ) → used p at ≤ usable → usable ≤ 65536 → usable ≤ length old → IsWritable p usable → AreInRange p.cells → p.right < 2 ^ 32
    → page ≡ splice at (canonical p at usable) old → page_at (take usable page) at ≡ Ok p
written_reads page old p at usable fits high within w r right e =
    let long = canonical_length p at usable fits in
    let front : length (take at old) ≡ at = length-take-le at old (omega arith) in
    let taken : take usable page ≡ take at old ++ canonical p at usable = ap (take usable) e ∙ take_splice at usable (canonical p at usable) old (omega arith) (omega arith) in
    rw taken (front_reads (take at old) p at usable front fits high w r right)

-- the header and what is behind it
pub page_put : (old one two : List ℕ) (p : PageCells) (at usable start : ℕ) → start ≡ array_start p.kind at → used p at ≤ usable → usable ≤ length old
    → one ≡ splice at (header_bytes p usable) old → two ≡ splice start (body_bytes p.kind usable (usable - (start + (2 * length p.cells + cells_length p.kind p.cells))) p.cells) one
    → (two ≡ splice at (canonical p at usable) old) × (two ≡ page_written p at usable old)
page_put old one two p at usable start is room within e f =
    let head = header_length p at usable in
    let body : two ≡ splice start (body_bytes p.kind usable (usable - used p at) p.cells) one =
    f ∙ ap (λ (n : ℕ). splice start (body_bytes p.kind usable (usable - (n + (2 * length p.cells + cells_length p.kind p.cells))) p.cells) one) is in
    let whole : two ≡ splice at (canonical p at usable) old =
    then_splice at start (header_bytes p usable) (body_bytes p.kind usable (usable - used p at) p.cells) old one two (omega (arith, head)) (omega (arith, head)) e body in
    let enough : fits p at usable ≡ true = le-leb (used p at) usable room in
    (whole, rw enough whole)
