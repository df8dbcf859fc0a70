-- Turns of the loop over cells from the front, and what becomes of cells that are cut.
use Rattle.std.proofs.Common.{◌≡◌, ℕ, zero, suc, ◌+◌, ◌-◌, ◌*◌, ◌≤◌, ◌∙◌, List, [], ◌∷◌, ◌++◌, length, take, drop, get_or, refl, sym, ap, arith, append_assoc}
use Rattle.std.proofs.Math.Seq.{take-length}
use Rattle.std.proofs.lemmas.Bool.{le-leb}
use Rattle.std.proofs.lemmas.List.{drop-take, take-append-drop}
use Rattle.spe_model.specs.declared.page.Cell.{Cell}
use Rattle.spe_model.specs.declared.page.Kind.{Kind}
use Rattle.spe_format.specs.Canonical.{cell_bytes}
use Rattle.spe_cut.specs.Parts.{need}
use Rattle.spe_cut.specs.Place.{count_within, part_of, parts_at}
use Rattle.spe_cut.proofs.NeedLemmas.{size}

-- so many cells were taken from the front of all, which take so many bytes, and the others are left
pub record FrontTaken (kind : Kind) (most count taken : ℕ) (left all : List Cell) : Type 0 where
  pub enough : taken ≤ most
  pub places : count + length left ≡ length all
  pub whole : taken + need kind left ≡ need kind all
  pub count_is : count + count_within kind (most - taken) left ≡ count_within kind most all
  pub taken_is : taken + need kind (take (count_within kind (most - taken) left) left) ≡ need kind (take (count_within kind most all) all)

rest_is : (c : Cell) (cs : List Cell) → take (length (c ∷ cs) - 1) (drop 1 (c ∷ cs)) ≡ cs
rest_is c cs = let few : length (c ∷ cs) - 1 ≡ length cs = omega arith in rw few (take-length cs)

pub front_few : (kind : Kind) (most count taken : ℕ) (left all : List Cell) → FrontTaken kind most count taken left all → 1 ≤ length left → 2 * (count + 1) ≤ need kind all
front_few kind most count taken left all front some = let places = front.places in omega (arith, places, some)

size_is : (kind : Kind) (cell c : Cell) (n : ℕ) → cell ≡ c → n ≡ length (cell_bytes kind cell) → n + 2 ≡ size kind c
size_is kind cell c n is long = let same : length (cell_bytes kind cell) ≡ length (cell_bytes kind c) = ap (λ (x : Cell). length (cell_bytes kind x)) is in omega (arith, same, long)

pub front_room : (kind : Kind) (most count taken : ℕ) (left all : List Cell) (cell : Cell) (n : ℕ) → FrontTaken kind most count taken left all → 1 ≤ length left → cell ≡ get_or left 0 cell
    → n ≡ length (cell_bytes kind cell) → n + 2 ≤ need kind all
front_room kind most count taken [] all cell n front some is long = absurd (omega (arith, some))
front_room kind most count taken (c ∷ cs) all cell n front some is long =
    let one = size_is kind cell c n is long in let whole = front.whole in omega (arith, one, whole)

count_more : (kind : Kind) (room : ℕ) (c : Cell) (cs : List Cell) → size kind c ≤ room → count_within kind room (c ∷ cs) ≡ suc (count_within kind (room - size kind c) cs)
count_more kind room c cs fits = rw (le-leb (size kind c) room fits) (omega arith)

turn : (kind : Kind) (most count taken n : ℕ) (c : Cell) (cs all : List Cell) → FrontTaken kind most count taken (c ∷ cs) all → n ≡ size kind c → n ≤ most - taken
    → FrontTaken kind most (count + 1) (taken + n) cs all
turn kind most count taken n c cs all front is fits =
    let enough = front.enough in
    let places = front.places in
    let whole = front.whole in
    let next : most - taken - size kind c ≡ most - (taken + n) = omega (arith, is, fits) in
    let more : count_within kind (most - taken) (c ∷ cs) ≡ suc (count_within kind (most - (taken + n)) cs) =
    count_more kind (most - taken) c cs (omega (arith, is, fits)) ∙ ap (λ (k : ℕ). suc (count_within kind k cs)) next in
    let count_is = front.count_is in
    let taken_is : taken + need kind (c ∷ take (count_within kind (most - (taken + n)) cs) cs) ≡ need kind (take (count_within kind most all) all) =
    ap (λ (k : ℕ). taken + need kind (take k (c ∷ cs))) (sym more) ∙ front.taken_is in
    record {
      enough = omega (arith, fits, enough);
      places = omega (arith, places);
      whole = omega (arith, whole, is);
      count_is = omega (arith, count_is, more);
      taken_is = omega (arith, taken_is, is);
    }

pub front_turn : (kind : Kind) (most count taken : ℕ) (left all : List Cell) (cell : Cell) (n : ℕ) → FrontTaken kind most count taken left all → 1 ≤ length left → cell ≡ get_or left 0 cell
    → n ≡ length (cell_bytes kind cell) → n + 2 ≤ most - taken → FrontTaken kind most (count + 1) (taken + (n + 2)) (take (length left - 1) (drop 1 left)) all
front_turn kind most count taken [] all cell n front some is long fits = absurd (omega (arith, some))
front_turn kind most count taken (c ∷ cs) all cell n front some is long fits =
    rw (rest_is c cs) (turn kind most count taken (n + 2) c cs all front (size_is kind cell c n is long) fits)

pub take_less : (at : ℕ) (cells : List Cell) → take at (take (at + 1) cells) ≡ take at cells
take_less zero cells = refl
take_less (suc at) [] = let more : suc at + 1 ≡ suc (at + 1) = omega arith in rw more refl
take_less (suc at) (c ∷ cs) = let more : suc at + 1 ≡ suc (at + 1) = omega arith in rw more (ap (λ (ds : List Cell). c ∷ ds) (take_less at cs))

-- the last cell of the front, what stood before it, and what is behind
pub record FrontCut (at : ℕ) (cells popped back : List Cell) (middle : Cell) : Type 0 where
  pub low : popped ≡ take at cells
  pub joined : cells ≡ popped ++ (middle ∷ back)

pub front_cut : (at : ℕ) (cells front popped back : List Cell) (middle : Cell) → front ≡ take (at + 1) cells → back ≡ drop (at + 1) cells
    → front ≡ popped ++ (middle ∷ []) → popped ≡ take at front → FrontCut at cells popped back middle
front_cut at cells front popped back middle front_is back_is split rest = record {
  low = rest ∙ ap (take at) front_is ∙ take_less at cells;
  joined = sym (take-append-drop (at + 1) cells) ∙ ap (λ (xs : List Cell). xs ++ drop (at + 1) cells) (sym front_is ∙ split)
      ∙ ap (λ (ys : List Cell). (popped ++ (middle ∷ [])) ++ ys) (sym back_is) ∙ append_assoc popped (middle ∷ []) back;
}

pub around_is : (place : ℕ) (cells front before one after : List Cell) (none first second third : List (List Cell)) → front ≡ take (place + 1) cells → after ≡ drop (place + 1) cells
    → before ≡ take place front → one ≡ drop place front → none ≡ [] → first ≡ none ++ part_of before → second ≡ first ++ part_of one → third ≡ second ++ part_of after
    → third ≡ parts_at place cells
around_is place cells front before one after none first second third front_is after_is before_is one_is none_is a b c =
    let low : before ≡ take place cells = before_is ∙ ap (take place) front_is ∙ take_less place cells in
    let middle : one ≡ take 1 (drop place cells) = one_is ∙ ap (drop place) front_is ∙ drop-take place 1 cells in
    c ∙ ap (λ (ps : List (List Cell)). ps ++ part_of after) (b ∙ ap (λ (ps : List (List Cell)). ps ++ part_of one) (a ∙ ap (λ (ps : List (List Cell)). ps ++ part_of before) none_is))
    ∙ append_assoc (part_of before) (part_of one) (part_of after)
    ∙ rw (low, middle, after_is) refl
