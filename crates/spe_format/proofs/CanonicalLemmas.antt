-- The canonical page, part by part.
use Rattle.std.proofs.Common.{◌≡◌, ℕ, ◌+◌, ◌-◌, ◌*◌, ◌≤◌, List, [], ◌∷◌, ◌++◌, length, take, drop, get_or, refl, sym, ap, ◌∙◌, arith, append_assoc, length-append, inl, inr}
use Rattle.std.proofs.Math.Seq.{take-length}
use Rattle.std.proofs.lemmas.List.{length-replicate}
use Rattle.std.specs.List.{flat_map}
use Rattle.std.specs.Prelude.{◌⊎◌, replicate}
use Rattle.byteorder.specs.Endian.{big_bytes}
use Rattle.spe_model.specs.declared.page.Cell.{Cell}
use Rattle.spe_model.specs.declared.page.Kind.{Kind}
use Rattle.spe_model.specs.declared.page.Kind.TheVariants.{TableLeaf, TableInterior, IndexLeaf, IndexInterior}
use Rattle.spe_model.specs.declared.page.PageCells.{PageCells}
use Rattle.spe_model.specs.Page.{array_start}
use Rattle.spe_format.specs.Canonical.{splice, cell_bytes, cells_length, starts, content, right_bytes, header_bytes, body_bytes}
use Rattle.spe_format.proofs.SpliceLemmas.{body_turn, body_end}

-- how many bytes an offset and a cell take, for each of these
abbrev pub need : Kind → List Cell → ℕ
need kind cells = 2 * length cells + cells_length kind cells

pub starts_length : (kind : Kind) (end : ℕ) (cells : List Cell) → length (flat_map (λ offset. big_bytes 2 offset) (starts kind end cells)) ≡ 2 * length cells
starts_length kind end [] = refl
starts_length kind end (c ∷ cs) =
    let rest = starts_length kind (end - length (cell_bytes kind c)) cs in
    omega (arith, rest)

pub content_length : (kind : Kind) (cells : List Cell) → length (content kind cells) ≡ cells_length kind cells
content_length kind [] = refl
content_length kind (c ∷ cs) = rw (length-append, content_length kind cs) (omega arith)

pub body_length : (kind : Kind) (end unused : ℕ) (cells : List Cell) → length (body_bytes kind end unused cells) ≡ 2 * length cells + (unused + cells_length kind cells)
body_length kind end unused cells =
    length-append (flat_map (λ offset. big_bytes 2 offset) (starts kind end cells)) (replicate unused 0 ++ content kind cells)
    ∙ rw (length-append (replicate unused 0) (content kind cells), starts_length kind end cells, content_length kind cells, length-replicate {A = ℕ} unused 0) refl

pub header_length : (page : PageCells) (at usable : ℕ) → at + length (header_bytes page usable) ≡ array_start page.kind at
unfolding right_bytes
header_length page at usable = by_kind page.kind
  where
    by_kind : (kind : Kind) → at + length (header_bytes (record page { kind = kind }) usable) ≡ array_start kind at
    by_kind TableLeaf = omega arith
    by_kind TableInterior = omega arith
    by_kind IndexLeaf = omega arith
    by_kind IndexInterior = omega arith

-- where the right-most child ends
pub right_end : (kind : Kind) (at right : ℕ) → at + 8 + length (right_bytes kind right) ≡ array_start kind at
unfolding right_bytes
right_end TableLeaf at right = omega arith
right_end TableInterior at right = omega arith
right_end IndexLeaf at right = omega arith
right_end IndexInterior at right = omega arith

rest_is : (c : Cell) (cs : List Cell) → take (length (c ∷ cs) - 1) (drop 1 (c ∷ cs)) ≡ cs
rest_is c cs = let few : length (c ∷ cs) - 1 ≡ length cs = omega arith in rw few (take-length cs)

-- a cell in front of others
body_shape : (kind : Kind) (low new unused : ℕ) (c : Cell) (cs : List Cell) → low - length (cell_bytes kind c) ≡ new
    → big_bytes 2 new ++ (body_bytes kind new unused cs ++ cell_bytes kind c) ≡ body_bytes kind low unused (c ∷ cs)
body_shape kind low new unused c cs e = rw e (simp append_assoc)

-- a turn of the loop that writes cells
turn : (kind : Kind) (page one two : List ℕ) (slot low new : ℕ) (cell c : Cell) (cs : List Cell) (whole : List ℕ) → cell ≡ c
    → new + length (cell_bytes kind cell) ≡ low → slot + need kind (c ∷ cs) ≤ low → low ≤ length page
    → one ≡ splice new (cell_bytes kind cell) page → two ≡ splice slot (big_bytes 2 new) one
    → take slot page ++ (body_bytes kind low (low - (slot + need kind (c ∷ cs))) (c ∷ cs) ++ drop low page) ≡ whole
    → take (slot + 2) two ++ (body_bytes kind new (new - (slot + 2 + need kind cs)) cs ++ drop new two) ≡ whole
turn kind page one two slot low new cell c cs whole is ends fits within e f same =
    let long : length (cell_bytes kind cell) ≡ length (cell_bytes kind c) = ap (λ (x : Cell). length (cell_bytes kind x)) is in
    let unused : new - (slot + 2 + need kind cs) ≡ low - (slot + need kind (c ∷ cs)) = omega arith in
    let less : low - length (cell_bytes kind c) ≡ new = omega arith in
    let shape : big_bytes 2 new ++ (body_bytes kind new (new - (slot + 2 + need kind cs)) cs ++ cell_bytes kind cell) ≡ body_bytes kind low (low - (slot + need kind (c ∷ cs))) (c ∷ cs) =
    rw (unused, is) (body_shape kind low new (low - (slot + need kind (c ∷ cs))) c cs less) in
    body_turn page one two (cell_bytes kind cell) (body_bytes kind new (new - (slot + 2 + need kind cs)) cs) slot low new ends (omega arith) within e f
    ∙ ap (λ (b : List ℕ). take slot page ++ (b ++ drop low page)) shape ∙ same

pub body_step : (kind : Kind) (page one two : List ℕ) (slot low new : ℕ) (cell : Cell) (left : List Cell) (whole : List ℕ) → 1 ≤ length left → cell ≡ get_or left 0 cell
    → new + length (cell_bytes kind cell) ≡ low → slot + need kind left ≤ low → low ≤ length page
    → one ≡ splice new (cell_bytes kind cell) page → two ≡ splice slot (big_bytes 2 new) one
    → take slot page ++ (body_bytes kind low (low - (slot + need kind left)) left ++ drop low page) ≡ whole
    → take (slot + 2) two
    ++ (body_bytes kind new (new - (slot + 2 + need kind (take (length left - 1) (drop 1 left)))) (take (length left - 1) (drop 1 left)) ++ drop new two)
    ≡ whole
body_step kind page one two slot low new cell [] whole some is ends fits within e f same = absurd (omega arith)
body_step kind page one two slot low new cell (c ∷ cs) whole some is ends fits within e f same =
    rw (rest_is c cs) (turn kind page one two slot low new cell c cs whole is ends fits within e f same)

pub need_step : (kind : Kind) (cell : Cell) (left : List Cell) → 1 ≤ length left → cell ≡ get_or left 0 cell
    → 2 + (length (cell_bytes kind cell) + need kind (take (length left - 1) (drop 1 left))) ≡ need kind left
need_step kind cell [] some is = absurd (omega arith)
need_step kind cell (c ∷ cs) some is =
    let long : length (cell_bytes kind cell) ≡ length (cell_bytes kind c) = ap (λ (x : Cell). length (cell_bytes kind x)) is in
    rw (rest_is c cs) (omega arith)

pub length_step : (kind : Kind) (cell : Cell) (left : List Cell) → 1 ≤ length left → cell ≡ get_or left 0 cell
    → length (cell_bytes kind cell) + cells_length kind (take (length left - 1) (drop 1 left)) ≡ cells_length kind left
length_step kind cell [] some is = absurd (omega arith)
length_step kind cell (c ∷ cs) some is =
    let long : length (cell_bytes kind cell) ≡ length (cell_bytes kind c) = ap (λ (x : Cell). length (cell_bytes kind x)) is in
    rw (rest_is c cs) (omega arith)

-- the end of that loop
pub body_done : (kind : Kind) (page last old : List ℕ) (slot low start end : ℕ) (left cells : List Cell) → length left ≡ 0
    → slot ≤ low → start + need kind cells ≤ end → end ≤ length old → last ≡ splice slot (replicate (low - slot) 0) page
    → take slot page ++ (body_bytes kind low (low - (slot + need kind left)) left ++ drop low page)
    ≡ take start old ++ (body_bytes kind end (end - (start + need kind cells)) cells ++ drop end old)
    → last ≡ splice start (body_bytes kind end (end - (start + need kind cells)) cells) old
body_done kind page last old slot low start end (c ∷ cs) cells none gap fits within e same = absurd (omega arith)
body_done kind page last old slot low start end [] cells none gap fits within e same =
    let body = body_bytes kind end (end - (start + need kind cells)) cells in
    let last_is : last ≡ take slot page ++ (replicate (low - slot) 0 ++ drop low page) = body_end page last slot low (replicate (low - slot) 0) (length-replicate {A = ℕ} (low - slot) 0) gap e in
    let unused : low - (slot + need kind []) ≡ low - slot = omega arith in
    let long = body_length kind end (end - (start + need kind cells)) cells in
    let stop : start + length body ≡ end = omega arith in
    let empty : take slot page ++ (replicate (low - slot) 0 ++ drop low page) ≡ take start old ++ (body ++ drop end old) =
    ap (λ (n : ℕ). take slot page ++ (replicate n 0 ++ drop low page)) (sym unused) ∙ shape (replicate (low - (slot + need kind [])) 0) ∙ same in
    last_is ∙ empty ∙ ap (λ (k : ℕ). take start old ++ (body ++ drop k old)) (sym stop)
  where
    shape : (zeros : List ℕ) → take slot page ++ (zeros ++ drop low page) ≡ take slot page ++ (([] ++ (zeros ++ [])) ++ drop low page)
    shape zeros = simp append_assoc

-- cells that fit behind the header fit the page
pub room_left : (kind : Kind) (cells : List Cell) (at start usable : ℕ) → start ≡ array_start kind at → (at ≡ 0) ⊎ (at ≡ 100) → 480 ≤ usable
    → need kind cells ≤ usable - start → array_start kind at + need kind cells ≤ usable
room_left TableLeaf cells at start usable is (inl e) low fits = omega arith
room_left TableLeaf cells at start usable is (inr e) low fits = omega arith
room_left TableInterior cells at start usable is (inl e) low fits = omega arith
room_left TableInterior cells at start usable is (inr e) low fits = omega arith
room_left IndexLeaf cells at start usable is (inl e) low fits = omega arith
room_left IndexLeaf cells at start usable is (inr e) low fits = omega arith
room_left IndexInterior cells at start usable is (inl e) low fits = omega arith
room_left IndexInterior cells at start usable is (inr e) low fits = omega arith
