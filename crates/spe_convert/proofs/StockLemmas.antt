-- Free pages in one list, as they are made.
use Rattle.std.proofs.Common.{◌≡◌, ℕ, zero, suc, ◌-◌, ◌*◌, ◌<◌, ◌≤◌, ◌∙◌, List, [], ◌∷◌, ◌++◌, take, drop, length, map, refl, sym, ap, arith, append_assoc, min, ⊎_elim}
use Rattle.std.specs.Prelude.{get_or}
use Rattle.std.proofs.lemmas.List.{drop_all, length-append, length-drop, length-replicate, take_all}
use Rattle.std.proofs.lemmas.Bool.{cases_lt}
use Rattle.byteorder.specs.Endian.{big_bytes}
use Rattle.byteorder.specs.Numbers.{length-bytes_high_first}
use Rattle.spe_model.specs.Content.{zeros}
use Rattle.spe_model.specs.Paging.{Paging}
use Rattle.spe_rewrite.specs.declared.change.Change.{Change}
use Rattle.spe_convert.specs.Trunk.{Trunk, number_bytes, page_of, room}
use Rattle.spe_convert.specs.Changes.{change_of}
use Rattle.spe_convert.specs.Dealt.{chained, first_of}
use Rattle.spe_convert.specs.Made.{trunk_of}

-- a greater count changes nothing
pub chained_enough : (most count more : ℕ) (pages : List ℕ) → length pages ≤ count → length pages ≤ more → chained most count pages ≡ chained most more pages
chained_enough most zero zero [] a b = refl
chained_enough most zero (suc more) [] a b = refl
chained_enough most (suc count) zero [] a b = refl
chained_enough most (suc count) (suc more) [] a b = refl
chained_enough most zero more (p ∷ ps) a b = absurd (omega (arith, a))
chained_enough most (suc count) zero (p ∷ ps) a b = absurd (omega (arith, b))
chained_enough most (suc count) (suc more) (p ∷ ps) a b =
    let l = length-drop most ps in
    ap (λ (ts : List Trunk). trunk_of p (first_of (drop most ps)) (take most ps) ∷ ts) (chained_enough most count more (drop most ps) (omega (arith, a, l)) (omega (arith, b, l)))

pub take_min : (n : ℕ) (xs : List ℕ) → take (min (length xs) n) xs ≡ take n xs
take_min n xs = ⊎_elim
    (λ (low : length xs < n). let e : min (length xs) n ≡ length xs = omega (arith, low) in
    ap (λ (k : ℕ). take k xs) e ∙ take_all (length xs) xs (omega arith) ∙ sym (take_all n xs (omega (arith, low))))
    (λ (high : n ≤ length xs). let e : min (length xs) n ≡ n = omega (arith, high) in ap (λ (k : ℕ). take k xs) e)
    (cases_lt (length xs) n)

pub drop_min : (n : ℕ) (xs : List ℕ) → drop (min (length xs) n) xs ≡ drop n xs
drop_min n xs = ⊎_elim
    (λ (low : length xs < n). let e : min (length xs) n ≡ length xs = omega (arith, low) in
    ap (λ (k : ℕ). drop k xs) e ∙ drop_all (length xs) xs (omega arith) ∙ sym (drop_all n xs (omega (arith, low))))
    (λ (high : n ≤ length xs). let e : min (length xs) n ≡ n = omega (arith, high) in ap (λ (k : ℕ). drop k xs) e)
    (cases_lt (length xs) n)

-- a trunk that is made of a page that was read
pub trunk_made : (usable used page next : ℕ) (leaves buf bytes : List ℕ) (pages : Paging) → used ≡ usable → bytes ≡ page_of used (next ∷ length leaves ∷ leaves) buf → buf ≡ pages page
    → record { page = page; bytes = bytes } ≡ change_of usable pages (trunk_of page next leaves)
trunk_made usable used page next leaves buf bytes pages same is read =
    let whole : bytes ≡ page_of usable (next ∷ length leaves ∷ leaves) (pages page) =
    is ∙ ap (λ (u : ℕ). page_of u (next ∷ length leaves ∷ leaves) buf) same ∙ ap (page_of usable (next ∷ length leaves ∷ leaves)) read in
    let made : List ℕ → Change = λ b. record { page = page; bytes = b } in ap made whole

-- one trunk more is made
pub chain_turn : {X : Type 0} (most : ℕ) (f : Trunk → X) (left leaves more : List ℕ) (change : X) (start done after : List X) (all : List Trunk) → 1 ≤ length left
    → leaves ≡ take most (drop 1 left) → more ≡ drop most (drop 1 left) → change ≡ f (trunk_of (get_or left 0 0) (first_of more) leaves) → after ≡ done ++ change ∷ []
    → done ++ map f (chained most (length left) left) ≡ start ++ map f all → after ++ map f (chained most (length more) more) ≡ start ++ map f all
chain_turn most f [] leaves more change start done after all some leaves_are more_is is after_is kept = absurd (omega (arith, some))
chain_turn {X = X} most f (p ∷ ps) leaves more change start done after all some leaves_are more_is is after_is kept =
    let l = length-drop most ps in
    let rest : chained most (length more) more ≡ chained most (length ps) (drop most ps) =
    ap (λ (qs : List ℕ). chained most (length qs) qs) more_is ∙ chained_enough most (length (drop most ps)) (length ps) (drop most ps) (omega arith) (omega (arith, l)) in
    let mine : change ≡ f (trunk_of p (first_of (drop most ps)) (take most ps)) =
    is ∙ ap (λ (qs : List ℕ). f (trunk_of p (first_of qs) leaves)) more_is ∙ ap (λ (qs : List ℕ). f (trunk_of p (first_of (drop most ps)) qs)) leaves_are in
    ap (λ (cs : List X). cs ++ map f (chained most (length more) more)) after_is
    ∙ append_assoc done (change ∷ []) (map f (chained most (length more) more))
    ∙ ap (λ (c : X). done ++ c ∷ map f (chained most (length more) more)) mine
    ∙ ap (λ (ts : List Trunk). done ++ f (trunk_of p (first_of (drop most ps)) (take most ps)) ∷ map f ts) rest ∙ kept

numbers_long : (ns : List ℕ) → length (number_bytes ns) ≡ 4 * length ns
numbers_long [] = refl
numbers_long (n ∷ ns) =
    let a = length-append (big_bytes 4 n) (number_bytes ns) in
    let b = length-bytes_high_first 4 n in
    let c = numbers_long ns in
    omega (arith, a, b, c)

pub page_long : (used : ℕ) (numbers old bytes : List ℕ) → bytes ≡ page_of used numbers old → 4 * length numbers ≤ used → used ≤ length old → length bytes ≡ length old
page_long used numbers old bytes is low high =
    let a = length-append (number_bytes numbers ++ zeros (used - 4 * length numbers)) (drop used old) in
    let b = length-append (number_bytes numbers) (zeros (used - 4 * length numbers)) in
    let c = numbers_long numbers in
    let d : length (zeros (used - 4 * length numbers)) ≡ used - 4 * length numbers = length-replicate (used - 4 * length numbers) 0 in
    let e = length-drop used old in
    let f = ap length is in
    omega (arith, a, b, c, d, e, f, low, high)

pub leaves_fit : (used n : ℕ) → 480 ≤ used → n ≤ room used → 4 * suc (suc n) ≤ used
unfolding room
leaves_fit used n low few = omega (arith, low, few)
