-- Children of an interior page, cut at a place and joined again: for any trees, and for whatever each child has.
use Rattle.std.proofs.Common.{◌≡◌, ℕ, ◌+◌, ◌<◌, ◌≤◌, ◌∙◌, List, [], ◌∷◌, ◌++◌, refl, sym, ap, arith, append_assoc}
use Rattle.std.specs.List.{flat_map}
use Rattle.spe_model.specs.declared.page.Cell.{Cell}
use Rattle.spe_model.specs.Standing.{AreBelow}
use Rattle.spe_model.specs.Tree.{AreUnder, fan, rank}
use Rattle.spe_cut.specs.Run.{Place, Run, back, bound_after, front, inner, last, with_child, with_run}

-- what the children of some cells have, without a last child
abbrev pub all_left : {X : Type 0} → (ℕ → List X) → List Cell → List X
all_left own cells = flat_map (λ (d : Cell). own d.left) cells

-- the children of some cells are trees, one behind the other from a bound on
abbrev pub AreFront : (T : (low high page : ℕ) → Type 0) (low : ℕ) → List Cell → Type 0
AreFront T low [] = Unit {0}
AreFront T low (c ∷ cs) = (low ≤ rank c.key) × T low (rank c.key + 1) c.left × AreFront T (rank c.key + 1) cs

abbrev pub AreLeft : (T : ℕ → Type 0) → List Cell → Type 0
AreLeft T [] = Unit {0}
AreLeft T (c ∷ cs) = T c.left × AreLeft T cs

-- a tree's lower bound is not above its higher one
abbrev pub Orders : (T : (low high page : ℕ) → Type 0) → Type 0
Orders T = (low high page : ℕ) → T low high page → low ≤ high

pub fan_append : {X : Type 0} (own : ℕ → List X) (xs ys : List Cell) (right : ℕ) → fan own (xs ++ ys) right ≡ all_left own xs ++ fan own ys right
fan_append own [] ys right = refl
fan_append own (c ∷ cs) ys right = rw (fan_append own cs ys right) (sym (append_assoc (own c.left) (all_left own cs) (fan own ys right)))

pub fan_parted : {X : Type 0} (own : ℕ → List X) (lower : List Cell) (m : Cell) (higher : List Cell) (right : ℕ)
    → fan own (lower ++ (m ∷ higher)) right ≡ fan own lower m.left ++ fan own higher right
fan_parted own [] m higher right = refl
fan_parted own (c ∷ cs) m higher right = rw (fan_parted own cs m higher right) (sym (append_assoc (own c.left) (fan own cs m.left) (fan own higher right)))

nothing_behind : {X : Type 0} (xs : List X) → xs ++ [] ≡ xs
nothing_behind [] = refl
nothing_behind (x ∷ xs) = ap (λ (ys : List _). x ∷ ys) (nothing_behind xs)

fan_of_all : {X : Type 0} (own : ℕ → List X) (xs : List Cell) (right : ℕ) → fan own xs right ≡ all_left own xs ++ own right
fan_of_all own [] right = refl
fan_of_all own (c ∷ cs) right = rw (fan_of_all own cs right) (sym (append_assoc (own c.left) (all_left own cs) (own right)))

-- all that the children have, with a child at a place, and with a run there
pub fan_child : {X : Type 0} (own : ℕ → List X) (place : Place) (child : ℕ)
    → fan own (with_child place child).cells (with_child place child).right ≡ front own place ++ (own child ++ back own place)
fan_child own (inner before c after right) child = fan_append own before (record c { left = child } ∷ after) right
fan_child own (last before) child = fan_of_all own before child ∙ ap (λ (ys : List _). all_left own before ++ ys) (sym (nothing_behind (own child)))

pub fan_run : {X : Type 0} (own : ℕ → List X) (place : Place) (run : Run)
    → fan own (with_run place run).cells (with_run place run).right ≡ front own place ++ (fan own run.cells run.right ++ back own place)
fan_run own (inner before c after right) run =
    fan_append own before (run.cells ++ (record c { left = run.right } ∷ after)) right
    ∙ ap (λ (ys : List _). all_left own before ++ ys) (fan_parted own run.cells (record c { left = run.right }) after right)
fan_run own (last before) run =
    fan_append own before run.cells run.right ∙ ap (λ (ys : List _). all_left own before ++ ys) (sym (nothing_behind (fan own run.cells run.right)))

pub under_orders : (T : (low high page : ℕ) → Type 0) → Orders T → (low high : ℕ) (cells : List Cell) (right : ℕ) → AreUnder T low high cells right → low ≤ high
under_orders T orders low high [] right under = orders low high right under
under_orders T orders low high (c ∷ cs) right under = omega (arith, under.0, under.1)

pub bound_above : (T : (low high page : ℕ) → Type 0) (low : ℕ) (cells : List Cell) → AreFront T low cells → low ≤ bound_after low cells
bound_above T low [] are = omega arith
bound_above T low (c ∷ cs) are = let next = bound_above T (rank c.key + 1) cs are.2 in omega (arith, next, are.0)

-- trees before and behind
pub record UnderParts (T : (low high page : ℕ) → Type 0) (low high : ℕ) (before after : List Cell) (right : ℕ) : Type 0 where
  pub lower : AreFront T low before
  pub higher : AreUnder T (bound_after low before) high after right

pub under_parts : (T : (low high page : ℕ) → Type 0) (low high : ℕ) (before after : List Cell) (right : ℕ)
    → AreUnder T low high (before ++ after) right → UnderParts T low high before after right
under_parts T low high [] after right under = record { lower = tt; higher = under }
under_parts T low high (c ∷ cs) after right under =
    let next = under_parts T (rank c.key + 1) high cs after right under.3 in
    record { lower = (under.0, under.2, next.lower); higher = next.higher }

-- all before the last child
pub record UnderEnd (T : (low high page : ℕ) → Type 0) (low high : ℕ) (cells : List Cell) (right : ℕ) : Type 0 where
  pub lower : AreFront T low cells
  pub end : T (bound_after low cells) high right

pub under_end : (T : (low high page : ℕ) → Type 0) (low high : ℕ) (cells : List Cell) (right : ℕ) → AreUnder T low high cells right → UnderEnd T low high cells right
under_end T low high [] right under = record { lower = tt; end = under }
under_end T low high (c ∷ cs) right under =
    let next = under_end T (rank c.key + 1) high cs right under.3 in
    record { lower = (under.0, under.2, next.lower); end = next.end }

pub under_joined : (T : (low high page : ℕ) → Type 0) → Orders T → (low high : ℕ) (before after : List Cell) (right : ℕ)
    → UnderParts T low high before after right → AreUnder T low high (before ++ after) right
under_joined T orders low high [] after right parts = parts.higher
under_joined T orders low high (c ∷ cs) after right parts =
    let next = under_joined T orders (rank c.key + 1) high cs after right (record { lower = parts.lower.2; higher = parts.higher }) in
    let order = under_orders T orders (rank c.key + 1) high (cs ++ after) right next in
    (parts.lower.0, omega (arith, order), parts.lower.1, next)

-- a run in the place of one child, and what follows it
pub under_followed : (T : (low high page : ℕ) → Type 0) → Orders T → (low high key : ℕ) (cells : List Cell) (c : Cell) (after : List Cell) (right : ℕ)
    → key ≡ rank c.key → AreUnder T low (key + 1) cells c.left → bound_after low cells ≤ key → key < high
    → AreUnder T (key + 1) high after right → AreUnder T low high (cells ++ (c ∷ after)) right
under_followed T orders low high key [] c after right is under fits below rest =
    rw (sym is) (fits, below, under, rest)
under_followed T orders low high key (d ∷ ds) c after right is under fits below rest =
    (under.0, omega (arith, under.1, below), under.2, under_followed T orders (rank d.key + 1) high key ds c after right is under.3 fits below rest)

-- the halves at a cell
pub record UnderHalves (T : (low high page : ℕ) → Type 0) (low high : ℕ) (lower : List Cell) (m : Cell) (higher : List Cell) (right : ℕ) : Type 0 where
  pub first : AreUnder T low (rank m.key + 1) lower m.left
  pub second : AreUnder T (rank m.key + 1) high higher right
  pub above : low ≤ rank m.key
  pub below : rank m.key < high

pub under_halves : (T : (low high page : ℕ) → Type 0) (low high : ℕ) (lower : List Cell) (m : Cell) (higher : List Cell) (right : ℕ)
    → AreUnder T low high (lower ++ (m ∷ higher)) right → UnderHalves T low high lower m higher right
under_halves T low high [] m higher right under = record { first = under.2; second = under.3; above = under.0; below = under.1 }
under_halves T low high (c ∷ cs) m higher right under =
    let next = under_halves T (rank c.key + 1) high cs m higher right under.3 in
    record {
      first = (under.0, omega (arith, next.above), under.2, next.first);
      second = next.second;
      above = omega (arith, under.0, next.above);
      below = next.below;
    }

pub below_parts : (T : ℕ → Type 0) (before after : List Cell) (right : ℕ) → AreBelow T (before ++ after) right → AreLeft T before × AreBelow T after right
below_parts T [] after right below = (tt, below)
below_parts T (c ∷ cs) after right below = let next = below_parts T cs after right below.1 in ((below.0, next.0), next.1)

pub below_end : (T : ℕ → Type 0) (cells : List Cell) (right : ℕ) → AreBelow T cells right → AreLeft T cells × T right
below_end T [] right below = (tt, below)
below_end T (c ∷ cs) right below = let next = below_end T cs right below.1 in ((below.0, next.0), next.1)

pub below_joined : (T : ℕ → Type 0) (before after : List Cell) (right : ℕ) → AreLeft T before → AreBelow T after right → AreBelow T (before ++ after) right
below_joined T [] after right left below = below
below_joined T (c ∷ cs) after right left below = (left.0, below_joined T cs after right left.1 below)

pub below_followed : (T : ℕ → Type 0) (cells : List Cell) (c : Cell) (after : List Cell) (right : ℕ) → AreBelow T cells c.left → AreBelow T after right
    → AreBelow T (cells ++ (c ∷ after)) right
below_followed T [] c after right below rest = (below, rest)
below_followed T (d ∷ ds) c after right below rest = (below.0, below_followed T ds c after right below.1 rest)

pub below_halves : (T : ℕ → Type 0) (lower : List Cell) (m : Cell) (higher : List Cell) (right : ℕ) → AreBelow T (lower ++ (m ∷ higher)) right
    → AreBelow T lower m.left × AreBelow T higher right
below_halves T [] m higher right below = below
below_halves T (c ∷ cs) m higher right below = let next = below_halves T cs m higher right below.1 in ((below.0, next.0), next.1)
