-- How many pages a tree takes at least.
use Rattle.std.proofs.Common.{◌≡◌, ◌≢◌, ℕ, zero, suc, ◌+◌, ◌-◌, ◌*◌, ◌^◌, ◌≤◌, ◌∙◌, List, [], ◌∷◌, ◌++◌, length, refl, sym, ap, arith, inl, inr, length-append}
use Rattle.std.specs.Prelude.{◌==◌, if◌then◌else◌}
use Rattle.std.specs.List.{flat_map}
use Rattle.std.proofs.Math.Nat.{pow-suc, suc-mul}
use Rattle.std.proofs.Math.Pow.{pow_mono}
use Rattle.std.proofs.lemmas.Bool.{cases_Bool, cases_lt}
use Rattle.std.proofs.lemmas.Nat.{mul-le}
use Rattle.spe_model.specs.declared.page.Cell.{Cell}
use Rattle.spe_model.specs.Served.{HasCells}
use Rattle.spe_model.specs.Standing.{AreBelow, IsOneOf, all_pages, chain_pages}
use Rattle.spe_model.specs.Tree.{fan, node_cells, node_right}
use Rattle.spe_frame.specs.Times.{AreSingle, HoldsOf, Lacks, times}
use Rattle.spe_frame.proofs.TimesLemmas.{here, times-append}
use Rattle.spe_cut.specs.Depth.{FilledTreeIsWide, RootStaysLow, SingleTreeIsWide}

-- what holds of joined lists holds of each
abbrev Parts : (Q : List ℕ → Type 0) → Type 0
Parts Q = (xs ys : List ℕ) → Q (xs ++ ys) → Q xs × Q ys

lacks_parts : (n : ℕ) → Parts (λ xs. Lacks xs n)
lacks_parts n xs ys none = let both = times-append n xs ys in (omega (arith, both, none), omega (arith, both, none))

single_parts : Parts AreSingle
single_parts xs ys single = (
  λ n. let both = times-append n xs ys in let one = single n in omega (arith, both, one),
  λ n. let both = times-append n xs ys in let one = single n in omega (arith, both, one),
)

-- where each child has so many pages, all have so many for each
fan_wide : (T : ℕ → Type 0) (Q : List ℕ → Type 0) (own : ℕ → List ℕ) (least : ℕ) → Parts Q → ((page : ℕ) → T page → Q (own page) → least ≤ length (own page))
    → (cells : List Cell) (right : ℕ) → AreBelow T cells right → Q (fan own cells right) → suc (length cells) * least ≤ length (fan own cells right)
fan_wide T Q own least parts wide [] right below has = let h = wide right below has in omega (arith, h)
fan_wide T Q own least parts wide (c ∷ cs) right below has =
    let two = parts (own c.left) (fan own cs right) has in
    let first = wide c.left below.0 two.0 in
    let others = fan_wide T Q own least parts wide cs right below.1 two.1 in
    let long = length-append (own c.left) (fan own cs right) in
    rw (suc-mul (suc (length cs)) least) (omega (arith, first, others, long))

twice : (n : ℕ) → 2 ^ suc n ≡ 2 ^ n + 2 ^ n
twice n = pow-suc 2 n ∙ omega arith

-- the pages of an interior page: its own, and those of its children
below_root : (Q : List ℕ → Type 0) (page : ℕ) (chains fanned : List ℕ) → Parts Q → Q (page ∷ (chains ++ fanned)) → Q fanned
below_root Q page chains fanned parts has = (parts chains fanned (parts (page ∷ []) (chains ++ fanned) has).1).1

pub filled_wide : FilledTreeIsWide
filled_wide usable pages zero page has lacks = omega arith
filled_wide usable pages (suc height) page has lacks =
    let own = all_pages usable pages height in
    let cells = node_cells usable pages page in
    let right = node_right usable pages page in
    let chains = flat_map (chain_pages usable pages) cells in
    let Q : List ℕ → Type 0 = λ xs. Lacks xs 1 in
    let not_first : page ≢ 1 = λ e. let at = here 1 page (chains ++ fan own cells right) (sym e) in absurd (omega (arith, at, lacks)) in
    let some : 1 ≤ length cells = elim has.0 [ inl e ↦ absurd (not_first e) | inr some ↦ some ] in
    let least = 2 ^ (height + 1) - 1 in
    let wide = fan_wide (HasCells usable pages height) Q own least (lacks_parts 1) (λ p h l. let w = filled_wide usable pages height p h l in omega (arith, w))
    cells right has.1 (below_root Q page chains (fan own cells right) (lacks_parts 1) lacks) in
    let two = mul-le 2 least (suc (length cells)) least (omega (arith, some)) (omega arith) in
    let long = length-append chains (fan own cells right) in
    let level : suc height + 1 ≡ suc (height + 1) = omega arith in
    let more = twice (height + 1) in
    rw level (omega (arith, wide, two, long, more))

pub single_wide : SingleTreeIsWide
single_wide usable pages zero page has single = omega arith
single_wide usable pages (suc height) page has single =
    let own = all_pages usable pages height in
    let cells = node_cells usable pages page in
    let right = node_right usable pages page in
    let chains = flat_map (chain_pages usable pages) cells in
    let long = length-append chains (fan own cells right) in
    let more = twice height in
    elim has.0 [
      | inl e ↦ (
          let at = here 1 page (chains ++ fan own cells right) (sym e) in
          let once = single 1 in
          let lacks : Lacks (chains ++ fan own cells right) 1 = omega (arith, at, once) in
          let least = 2 ^ (height + 1) - 1 in
          let wide = fan_wide (HasCells usable pages height) (λ xs. Lacks xs 1) own least (lacks_parts 1) (λ p h l. let w = filled_wide usable pages height p h l in omega (arith, w))
          cells right has.1 (lacks_parts 1 chains (fan own cells right) lacks).1 in
          let one = mul-le 1 least (suc (length cells)) least (omega arith) (omega arith) in
          let level : 2 ^ (height + 1) ≡ 2 ^ suc height = ap (λ (k : ℕ). 2 ^ k) (let e : height + 1 ≡ suc height = omega arith in e) in
          omega (arith, wide, one, long, level))
      | inr some ↦ (
          let wide = fan_wide (HasCells usable pages height) AreSingle own (2 ^ height) single_parts (λ p h s. single_wide usable pages height p h s)
          cells right has.1 (below_root AreSingle page chains (fan own cells right) single_parts single) in
          let two = mul-le 2 (2 ^ height) (suc (length cells)) (2 ^ height) (omega (arith, some)) (omega arith) in
          omega (arith, wide, two, long, more))
    ]

-- the numbers but one of them
abbrev others : ℕ → List ℕ → List ℕ
others n [] = []
others n (x ∷ xs) = if n == x then others n xs else x ∷ others n xs

others_length : (n : ℕ) (xs : List ℕ) → length xs ≡ length (others n xs) + times n xs
others_length n [] = refl
others_length n (x ∷ xs) =
    let rest = others_length n xs in elim (cases_Bool (n == x)) [ inl same ↦ rw same (omega (arith, rest)) | inr other ↦ rw other (omega (arith, rest)) ]

others_times : (m n : ℕ) (xs : List ℕ) → times m (others n xs) ≤ times m xs
others_times m n [] = omega arith
others_times m n (x ∷ xs) =
    let rest = others_times m n xs in elim (cases_Bool (n == x)) [ inl same ↦ rw same (omega (arith, rest)) | inr other ↦ rw other (omega (arith, rest)) ]

others_none : (n : ℕ) (xs : List ℕ) → times n (others n xs) ≡ 0
others_none n [] = refl
others_none n (x ∷ xs) =
    let rest = others_none n xs in
    elim (cases_Bool (n == x)) [ inl same ↦ rw same rest | inr other ↦ rw other (let at : times n (x ∷ others n xs) ≡ 0 = rw other (omega (arith, rest)) in at) ]

-- numbers from 1 to a count, none twice, are no more than the count
few_within : (count : ℕ) (xs : List ℕ) → AreSingle xs → HoldsOf (IsOneOf count) xs → length xs ≤ count
few_within zero [] single within = omega arith
few_within zero (x ∷ xs) single within =
    let at = here x x xs refl in let is = within x (omega (arith, at)) in absurd (omega (arith, is.0, is.1))
few_within (suc count) xs single within =
    let top = suc count in
    let once = single top in
    let all = others_length top xs in
    let fewer = few_within count (others top xs)
    (λ n. let less = others_times n top xs in let one = single n in omega (arith, less, one))
    (λ n some.
    let less = others_times n top xs in
    let is = within n (omega (arith, less, some)) in
    let other : n ≢ top = λ e. let none = others_none top xs in let gone : times n (others top xs) ≡ 0 = ap (λ (m : ℕ). times m (others top xs)) e ∙ none in absurd (omega (arith, gone, some)) in
    (is.0, omega (arith, is.1, other))) in
    omega (arith, once, all, fewer)

pub stays_low : RootStaysLow
stays_low usable count pages height run full =
    let wide = fan_wide (HasCells usable pages height) AreSingle (all_pages usable pages height) (2 ^ height) single_parts (λ p h s. single_wide usable pages height p h s)
    run.cells run.right full.filled full.single in
    let fits = few_within count (fan (all_pages usable pages height) run.cells run.right) full.single full.within in
    let nine = mul-le 9 (2 ^ height) (suc (length run.cells)) (2 ^ height) (omega (arith, full.many)) (omega arith) in
    let few = full.few in
    elim (cases_lt height 18) [
      | inl low ↦ omega (arith, low)
      | inr deep ↦ (let more : 2 ^ 18 ≤ 2 ^ height = pow_mono deep in absurd (omega (arith, wide, fits, nine, few, more)))
    ]
