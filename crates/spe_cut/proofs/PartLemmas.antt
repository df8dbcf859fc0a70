-- Cells in parts: what the parts of cells are that can be written.
use Rattle.std.proofs.Common.{◌≡◌, ℕ, zero, suc, ◌+◌, ◌-◌, ◌*◌, ◌/◌, ◌<◌, ◌≤◌, ◌∙◌, ◌⊎◌, ℤ, List, [], ◌∷◌, ◌++◌, All, Bool, Result, Ok, Err, length, take, drop, true, false, refl, sym, ap, subst, arith, inl, inr, length-append, append_assoc}
use Rattle.std.specs.Prelude.{◌&&◌, IfOk, int_lt, min}
use Rattle.std.specs.List.{flat_map}
use Rattle.std.proofs.lemmas.Grind.{flat_map-append}
use Rattle.std.proofs.lemmas.Bool.{cases_lt}
use Rattle.std.proofs.lemmas.List.{length-drop, length-take, take-append-drop}
use Rattle.std.proofs.lemmas.List.Elements.{All-append, All-cons, All-nil}
use Rattle.spe_model.specs.declared.page.Cell.{Cell}
use Rattle.spe_model.specs.declared.page.Kind.{Kind}
use Rattle.spe_model.specs.declared.page.Kind.TheVariants.{TableInterior, TableLeaf}
use Rattle.spe_model.specs.Page.{above, ascends}
use Rattle.spe_format.specs.Canonical.{AreWritable, IsWritable}
use Rattle.spe_cut.specs.Parts.{AreLeaves, IsHalved, leaf_cells, need, room, run_cells, without}
use Rattle.spe_cut.specs.Place.{IsCutAt, count_within, part_of, parts_at}
use Rattle.spe_cut.proofs.NeedLemmas.{at_place, few_front, first_fits, full_front, need_append, need_more, need_parted}
use Rattle.spe_cut.proofs.SizeLemmas.{interior_size, leaf_size}

and_both : (a b : Bool) → (a && b) ≡ true → (a ≡ true) × (b ≡ true)
and_both true b both = (refl, both)
and_both false b both = absurd cc

pub writable_parts : (kind : Kind) (usable : ℕ) (xs ys : List Cell) → AreWritable kind usable (xs ++ ys) → AreWritable kind usable xs × AreWritable kind usable ys
writable_parts kind usable [] ys are = (tt, are)
writable_parts kind usable (c ∷ cs) ys are = let rest = writable_parts kind usable cs ys are.1 in ((are.0, rest.0), rest.1)

pub writable_joined : (kind : Kind) (usable : ℕ) (xs ys : List Cell) → AreWritable kind usable xs → AreWritable kind usable ys → AreWritable kind usable (xs ++ ys)
writable_joined kind usable [] ys first second = second
writable_joined kind usable (c ∷ cs) ys first second = (first.0, writable_joined kind usable cs ys first.1 second)

above_ascends : (key : ℤ) (cells : List Cell) → above key cells ≡ true → ascends cells ≡ true
above_ascends key [] up = refl
above_ascends key (c ∷ cs) up = (and_both (int_lt key c.key) (above c.key cs) up).1

above_parts : (key : ℤ) (xs ys : List Cell) → above key (xs ++ ys) ≡ true → (above key xs ≡ true) × (ascends ys ≡ true)
above_parts key [] ys up = (refl, above_ascends key ys up)
above_parts key (c ∷ cs) ys up =
    let both = and_both (int_lt key c.key) (above c.key (cs ++ ys)) up in
    let rest = above_parts c.key cs ys both.1 in (rw (both.0, rest.0) refl, rest.1)

ascends_parts : (xs ys : List Cell) → ascends (xs ++ ys) ≡ true → (ascends xs ≡ true) × (ascends ys ≡ true)
ascends_parts [] ys up = (refl, up)
ascends_parts (c ∷ cs) ys up = above_parts c.key cs ys up

leaves_parts : (usable : ℕ) (xs ys : List Cell) → IsWritable (leaf_cells (xs ++ ys)) usable → IsWritable (leaf_cells xs) usable × IsWritable (leaf_cells ys) usable
leaves_parts usable xs ys is =
    let cells = writable_parts TableLeaf usable xs ys is.cells in
    let up = ascends_parts xs ys (is.ascends refl) in (
      record { cells = cells.0; right = λ _. refl; ascends = λ _. up.0 },
      record { cells = cells.1; right = λ _. refl; ascends = λ _. up.1 },
    )

abbrev CanBeLeaf : ℕ → List Cell → Type 0
CanBeLeaf usable part = IsWritable (leaf_cells part) usable

all_writable : (usable : ℕ) (parts : List (List Cell)) → CanBeLeaf usable (flat_map (λ (part : List Cell). part) parts) → All (CanBeLeaf usable) parts
all_writable usable [] is = All-nil (CanBeLeaf usable)
all_writable usable (part ∷ parts) is =
    let both = leaves_parts usable part (flat_map (λ (p : List Cell). p) parts) is in
    All-cons (CanBeLeaf usable) part parts both.0 (all_writable usable parts both.1)

-- a part has a cell and fits a page
abbrev HasSome : List Cell → Type 0
HasSome part = 1 ≤ length part

abbrev Fits : ℕ → List Cell → Type 0
Fits usable part = need TableLeaf part ≤ room TableLeaf 0 usable

-- parts that join to the cells, each with a cell and no more than fit
pub leaves_of : (usable : ℕ) (cells : List Cell) (parts : List (List Cell)) → CanBeLeaf usable cells → flat_map (λ (part : List Cell). part) parts ≡ cells
    → All HasSome parts → All (Fits usable) parts → 1 ≤ length parts → length parts ≤ 3 → AreLeaves usable cells parts
leaves_of usable cells parts is joined some fit low high = record {
  joined = joined;
  some = some;
  fit = fit;
  writable = all_writable usable parts (subst (CanBeLeaf usable) (sym joined) is);
  low = low;
  high = high;
}

no_more : (xs : List Cell) → xs ++ [] ≡ xs
no_more [] = refl
no_more (x ∷ xs) = ap (λ (ys : List Cell). x ∷ ys) (no_more xs)

pub one_leaf : (usable : ℕ) (cells : List Cell) → CanBeLeaf usable cells → 1 ≤ length cells → Fits usable cells → AreLeaves usable cells (cells ∷ [])
one_leaf usable cells is some fits =
    leaves_of usable cells (cells ∷ []) is (no_more cells) (All-cons HasSome cells [] some (All-nil HasSome))
    (All-cons (Fits usable) cells [] fits (All-nil (Fits usable))) (omega arith) (omega arith)

some_front : (at : ℕ) (cells : List Cell) → 1 ≤ at → at < length cells → (1 ≤ length (take at cells)) × (1 ≤ length (drop at cells))
some_front zero cells from to = absurd (omega (arith, from))
some_front (suc at) [] from to = absurd (omega (arith, to))
some_front (suc at) (c ∷ cs) from to = (omega arith, some_behind at cs (omega (arith, to)))
  where
    some_behind : (at : ℕ) (cells : List Cell) → at < length cells → 1 ≤ length (drop at cells)
    some_behind at [] to = absurd (omega (arith, to))
    some_behind zero (d ∷ ds) to = omega arith
    some_behind (suc at) (d ∷ ds) to = some_behind at ds (omega (arith, to))

pub two_leaves : (usable at : ℕ) (cells : List Cell) → CanBeLeaf usable cells → IsCutAt (room TableLeaf 0 usable) cells at
    → AreLeaves usable cells (take at cells ∷ drop at cells ∷ [])
two_leaves usable at cells is cut =
    let some = some_front at cells cut.from cut.to in
    leaves_of usable cells (take at cells ∷ drop at cells ∷ []) is
    (ap (λ (rest : List Cell). take at cells ++ rest) (no_more (drop at cells)) ∙ take-append-drop at cells)
    (All-cons HasSome (take at cells) (drop at cells ∷ []) some.0 (All-cons HasSome (drop at cells) [] some.1 (All-nil HasSome)))
    (All-cons (Fits usable) (take at cells) (drop at cells ∷ []) cut.low (All-cons (Fits usable) (drop at cells) [] cut.high (All-nil (Fits usable)))) (omega arith) (omega arith)

part_joined : (cells : List Cell) → flat_map (λ (part : List Cell). part) (part_of cells) ≡ cells
part_joined [] = refl
part_joined (c ∷ cs) = no_more (c ∷ cs)

part_some : (cells : List Cell) → All HasSome (part_of cells)
part_some [] = All-nil HasSome
part_some (c ∷ cs) = All-cons HasSome (c ∷ cs) [] (omega arith) (All-nil HasSome)

part_fits : (usable : ℕ) (cells : List Cell) → Fits usable cells → All (Fits usable) (part_of cells)
part_fits usable [] fits = All-nil (Fits usable)
part_fits usable (c ∷ cs) fits = All-cons (Fits usable) (c ∷ cs) [] fits (All-nil (Fits usable))

one_part : (cells : List Cell) → length (part_of cells) ≤ 1
one_part [] = omega arith
one_part (c ∷ cs) = omega arith

-- the cell at a place can be written, and fits a page
place_fits : (usable place : ℕ) (cells : List Cell) → 480 ≤ usable → place < length cells → AreWritable TableLeaf usable cells
    → Fits usable (take 1 (drop place cells))
place_fits usable place cells low within are =
    let at = at_place place cells within in
    let both = writable_parts TableLeaf usable (take place cells) (at.cell ∷ drop (place + 1) cells) (subst (AreWritable TableLeaf usable) at.split are) in
    let fits = leaf_size usable at.cell low both.1.0 in
    rw at.one (omega (arith, fits))

pub leaves_around : (usable place : ℕ) (cells : List Cell) → 480 ≤ usable → CanBeLeaf usable cells → place < length cells
    → need TableLeaf (without place cells) ≤ room TableLeaf 0 usable → AreLeaves usable cells (parts_at place cells)
leaves_around usable place cells low is within fits =
    let before = take place cells in
    let one = take 1 (drop place cells) in
    let after = drop (place + 1) cells in
    let at = at_place place cells within in
    let both = need_append TableLeaf before after in
    let joined : flat_map (λ (part : List Cell). part) (parts_at place cells) ≡ cells =
    flat_map-append (λ (part : List Cell). part) (part_of before) (part_of one ++ part_of after)
    ∙ rw (flat_map-append (λ (part : List Cell). part) (part_of one) (part_of after), part_joined before, part_joined one, part_joined after, at.one) (sym at.split) in
    let first = one_part before in
    let third = one_part after in
    let long : length (parts_at place cells) ≡ length (part_of before) + (length (part_of one) + length (part_of after)) =
    length-append (part_of before) (part_of one ++ part_of after) ∙ ap (λ (n : ℕ). length (part_of before) + n) (length-append (part_of one) (part_of after)) in
    let middle : length (part_of one) ≡ 1 = rw at.one refl in
    leaves_of usable cells (parts_at place cells) is joined
    (All-append HasSome (part_of before) _ (part_some before) (All-append HasSome (part_of one) _ (part_some one) (part_some after)))
    (All-append (Fits usable) (part_of before) _ (part_fits usable before (omega (arith, both, fits)))
    (All-append (Fits usable) (part_of one) _ (part_fits usable one (place_fits usable place cells low within is.cells)) (part_fits usable after (omega (arith, both, fits)))))
    (omega (arith, long, middle)) (omega (arith, long, middle, first, third))

-- all cells take less than twice a page
pub total_few : (usable place : ℕ) (cells : List Cell) → 480 ≤ usable → AreWritable TableLeaf usable cells → place < length cells
    → need TableLeaf (without place cells) ≤ room TableLeaf 0 usable → need TableLeaf cells ≤ 2 * room TableLeaf 0 usable
total_few usable place cells low are within fits =
    let at = at_place place cells within in
    let one = place_fits usable place cells low within are in
    let single : need TableLeaf (at.cell ∷ []) ≤ room TableLeaf 0 usable = subst (λ (xs : List Cell). need TableLeaf xs ≤ room TableLeaf 0 usable) at.one one in
    let both = need_append TableLeaf (take place cells) (drop (place + 1) cells) in
    let all : need TableLeaf cells ≡ need TableLeaf (take place cells) + need TableLeaf (at.cell ∷ drop (place + 1) cells) =
    ap (need TableLeaf) at.split ∙ need_append TableLeaf (take place cells) (at.cell ∷ drop (place + 1) cells) in
    omega (arith, single, both, all, fits)

-- interior cells take 15 bytes each at most
pub interior_few : (usable : ℕ) (cells : List Cell) → AreWritable TableInterior usable cells → need TableInterior cells ≤ 15 * length cells
interior_few usable [] are = omega arith
interior_few usable (c ∷ cs) are =
    let first = interior_size usable c are.0 in let rest = interior_few usable cs are.1 in omega (arith, first, rest)

pub record InteriorCut (usable : ℕ) (cells : List Cell) (at : ℕ) : Type 0 where
  pub from : 1 ≤ at
  pub to : at + 1 < length cells
  pub low : need TableInterior (take at cells) ≤ room TableInterior 0 usable
  pub high : need TableInterior (drop (at + 1) cells) ≤ room TableInterior 0 usable

last_fits : (usable : ℕ) (at : ℕ) (cells : List Cell) → 480 ≤ usable → AreWritable TableInterior usable cells → length cells ≤ at + 2
    → need TableInterior (drop (at + 1) cells) ≤ room TableInterior 0 usable
last_fits usable at cells low are few =
    let parts = writable_parts TableInterior usable (take (at + 1) cells) (drop (at + 1) cells) (subst (AreWritable TableInterior usable) (sym (take-append-drop (at + 1) cells)) are) in
    let size = interior_few usable (drop (at + 1) cells) parts.1 in
    let long = length-drop (at + 1) cells in
    omega (arith, size, long, few, low)

first_counted : (usable most : ℕ) (cells : List Cell) → AreWritable TableInterior usable cells → 1 ≤ length cells → 15 ≤ most → 1 ≤ count_within TableInterior most cells
first_counted usable most [] are some enough = absurd (omega (arith, some))
first_counted usable most (c ∷ cs) are some enough =
    let fits = interior_size usable c are.0 in first_fits TableInterior most c cs (omega (arith, fits, enough))

-- where interior cells that overflow page 1 are cut
pub interior_cut : (usable most count at total : ℕ) (cells : List Cell) → 480 ≤ usable → AreWritable TableInterior usable cells
    → room TableInterior 100 usable < need TableInterior cells → need TableInterior cells ≤ room TableInterior 0 usable + 30 → total ≡ need TableInterior cells
    → (most ≡ room TableInterior 0 usable) ⊎ (most ≡ total / 2) → count ≡ count_within TableInterior most cells → at ≡ min count (length cells - 2)
    → InteriorCut usable cells at
interior_cut usable most count at total cells low are over few is share count_is at_is =
    let many = interior_few usable cells are in
    let long : 8 ≤ length cells = omega (arith, many, over, low) in
    let enough : 15 ≤ most = elim share [ inl e ↦ omega (arith, e, low) | inr e ↦ omega (arith, e, is, over, low) ] in
    let most_fits : most ≤ room TableInterior 0 usable = elim share [ inl e ↦ omega (arith, e) | inr e ↦ omega (arith, e, is, few, low) ] in
    let some : 1 ≤ count = rw count_is (first_counted usable most cells are (omega (arith, long)) enough) in
    let front : need TableInterior (take count cells) ≤ most = rw count_is (few_front TableInterior most cells) in
    let fewer = need_more TableInterior at count cells (omega (arith, at_is)) in
    record {
      from = omega (arith, at_is, some, long);
      to = omega (arith, at_is, long);
      low = omega (arith, fewer, front, most_fits);
      high = elim (cases_lt count (length cells - 2)) [
        | inl within ↦ (
            let same : at ≡ count = omega (arith, at_is, within) in
            let full : most < need TableInterior (take (count + 1) cells) = subst (λ (n : ℕ). most < need TableInterior (take (n + 1) cells)) (sym count_is)
            (full_front TableInterior most cells (subst (λ (n : ℕ). n < length cells) count_is (omega (arith, within)))) in
            let both = need_parted TableInterior (count + 1) cells in
            let rest : need TableInterior (drop (count + 1) cells) ≤ room TableInterior 0 usable =
            elim share [ inl e ↦ omega (arith, e, full, both, few, low) | inr e ↦ omega (arith, e, is, full, both, few, low) ] in
            subst (λ (n : ℕ). need TableInterior (drop (n + 1) cells) ≤ room TableInterior 0 usable) (sym same) rest)
        | inr all ↦ last_fits usable at cells low are (omega (arith, at_is, all, long))
      ];
    }

pub many_cells : (usable : ℕ) (cells : List Cell) → 480 ≤ usable → AreWritable TableInterior usable cells → room TableInterior 100 usable < need TableInterior cells → 8 ≤ length cells
many_cells usable cells low are over = let many = interior_few usable cells are in omega (arith, many, over, low)

run_parts : (usable : ℕ) (cells : List Cell) (right : ℕ) → IsWritable (run_cells (record { cells = cells; right = right })) usable → (xs ys : List Cell) (r : ℕ) → cells ≡ xs ++ ys
    → IsWritable (run_cells (record { cells = xs; right = r })) usable × IsWritable (run_cells (record { cells = ys; right = r })) usable
run_parts usable cells right is xs ys r split =
    let both = writable_parts TableInterior usable xs ys (subst (AreWritable TableInterior usable) split is.cells) in
    let up = ascends_parts xs ys (ap ascends (sym split) ∙ is.ascends refl) in (
      record { cells = both.0; right = λ (leaf : false ≡ true). absurd cc; ascends = λ _. up.0 },
      record { cells = both.1; right = λ (leaf : false ≡ true). absurd cc; ascends = λ _. up.1 },
    )

-- cells before and behind a middle one as halves
pub halved : (usable right low_right high_right at : ℕ) (cells low high : List Cell) (middle : Cell) (key : ℤ) → IsWritable (run_cells (record { cells = cells; right = right })) usable
    → InteriorCut usable cells at → low ≡ take at cells → high ≡ drop (at + 1) cells → cells ≡ low ++ (middle ∷ high) → low_right ≡ middle.left → key ≡ middle.key → high_right ≡ right
    → IsHalved usable (record { cells = cells; right = right }) (record { cells = low; right = low_right }) key (record { cells = high; right = high_right })
halved usable right low_right high_right at cells low high middle key is cut low_is high_is joined child key_is last =
    let first = run_parts usable cells right is low (middle ∷ high) low_right joined in
    let second = run_parts usable cells right is (low ++ (middle ∷ [])) high high_right (joined ∙ sym (append_assoc low (middle ∷ []) high)) in
    let long = length-take at cells in
    let rest = length-drop (at + 1) cells in
    let from = cut.from in
    let to = cut.to in
    record {
      middle = middle;
      joined = joined;
      key_is = sym key_is;
      child = sym child;
      right = sym last;
      some = (rw low_is (omega (arith, long, from, to)), rw high_is (omega (arith, rest, from, to)));
      fit = (rw low_is cut.low, rw high_is cut.high);
      writable = (first.0, second.1);
    }

-- what follows of an answer
pub ok_so : {X E : Type 0} (answer : Result X E) (P Q : X → Type 0) → ((x : X) → P x → Q x) → IfOk answer P → IfOk answer Q
ok_so (Ok x) P Q so is = so x is
ok_so (Err e) P Q so is = tt

pub two_answer : (usable at most : ℕ) (cells list items : List Cell) (parts : List (List Cell)) → CanBeLeaf usable cells → list ≡ cells → items ≡ cells → most ≡ room TableLeaf 0 usable
    → IsCutAt most list at → parts ≡ take at items ∷ drop at items ∷ [] → AreLeaves usable cells parts
two_answer usable at most cells list items parts is list_is items_is most_is cut parts_are =
    let now : IsCutAt (room TableLeaf 0 usable) cells at = subst (λ (n : ℕ). IsCutAt n cells at) most_is (subst (λ (xs : List Cell). IsCutAt most xs at) list_is cut) in
    subst (AreLeaves usable cells) (sym (parts_are ∙ ap (λ (xs : List Cell). take at xs ∷ drop at xs ∷ []) items_is)) (two_leaves usable at cells is now)

pub around_answer : (usable place : ℕ) (cells items : List Cell) (parts : List (List Cell)) → 480 ≤ usable → CanBeLeaf usable cells → place < length cells
    → need TableLeaf (without place cells) ≤ room TableLeaf 0 usable → items ≡ cells → parts ≡ parts_at place items → AreLeaves usable cells parts
around_answer usable place cells items parts low is within fits items_is parts_are =
    subst (AreLeaves usable cells) (sym (parts_are ∙ ap (parts_at place) items_is)) (leaves_around usable place cells low is within fits)

pub one_answer : (usable place most total : ℕ) (cells list : List Cell) (parts : List (List Cell)) → CanBeLeaf usable cells → place < length cells → list ≡ cells
    → most ≡ room TableLeaf 0 usable → total ≡ need TableLeaf list → total ≤ most → parts ≡ cells ∷ [] → AreLeaves usable cells parts
one_answer usable place most total cells list parts is within list_is most_is total_is fits parts_are =
    let all = ap (need TableLeaf) list_is in
    subst (AreLeaves usable cells) (sym parts_are) (one_leaf usable cells is (omega (arith, within)) (omega (arith, all, most_is, total_is, fits)))

pub interior_answer : (usable right low_right high_right most count at total : ℕ) (cells list items low high : List Cell) (middle : Cell) (key : ℤ) → 480 ≤ usable
    → IsWritable (run_cells (record { cells = cells; right = right })) usable → room TableInterior 100 usable < need TableInterior cells
    → need TableInterior cells ≤ room TableInterior 0 usable + 30 → list ≡ cells → items ≡ cells → total ≡ need TableInterior list
    → (most ≡ room TableInterior 0 usable) ⊎ (most ≡ total / 2) → count ≡ count_within TableInterior most list → at ≡ min count (length list - 2)
    → low ≡ take at items → high ≡ drop (at + 1) items → items ≡ low ++ (middle ∷ high) → low_right ≡ middle.left → key ≡ middle.key → high_right ≡ right
    → IsHalved usable (record { cells = cells; right = right }) (record { cells = low; right = low_right }) key (record { cells = high; right = high_right })
interior_answer usable right low_right high_right most count at total cells list items low high middle key wide is over few list_is items_is total_is share count_is at_is low_is high_is joined child key_is last =
    let cut = interior_cut usable most count at total cells wide is.cells over few (total_is ∙ ap (need TableInterior) list_is) share
    (count_is ∙ ap (count_within TableInterior most) list_is) (at_is ∙ ap (λ (xs : List Cell). min count (length xs - 2)) list_is) in
    halved usable right low_right high_right at cells low high middle key is cut (low_is ∙ ap (take at) items_is) (high_is ∙ ap (drop (at + 1)) items_is) (sym items_is ∙ joined) child key_is last

-- no cut of the cells, as they are seen in another list
pub none_so : (most most' : ℕ) (list cells : List Cell) → most ≡ most' → list ≡ cells → ((at : ℕ) → ¬ IsCutAt most list at) → (at : ℕ) → ¬ IsCutAt most' cells at
none_so most most' list cells most_is list_is none at cut =
    none at (subst (λ (n : ℕ). IsCutAt n list at) (sym most_is) (subst (λ (xs : List Cell). IsCutAt most' xs at) (sym list_is) cut))
