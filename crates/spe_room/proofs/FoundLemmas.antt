use Rattle.std.proofs.Common.{◌≡◌, ◌∙◌, ℕ, zero, suc, ◌+◌, ◌-◌, ◌*◌, ◌<◌, ◌≤◌, List, [], ◌∷◌, ◌++◌, take, drop, length, map, slice_get, unwrap_or, Some, Option, refl, sym, ap, subst, arith, append-nil}
use Rattle.std.proofs.Math.Nat.{mul-le-mul_right}
use Rattle.spe_model.specs.declared.recovery.Recovered.{Recovered}
use Rattle.spe_model.specs.declared.file.FileNo.TheVariants.{Database}
use Rattle.spe_model.specs.Content.{Content, bytes_of, zeros}
use Rattle.spe_model.specs.Journal.{numbers_from}
use Rattle.spe_model.specs.Recovery.{file_page, file_page_size}
use Rattle.spe_model.specs.Settled.{IsFound, page_in}
use Rattle.spe_space.specs.Outcome.{IsInside}
use Rattle.spe_room.specs.Held.{held_page, held_pages}

-- an element of a list by a function of numbers
pub numbered : (f : ℕ → List ℕ) (a count i : ℕ) → i < count → slice_get (map f (numbers_from a count)) i ≡ Some (f (a + i))
numbered f a zero i less = absurd (omega (arith, less))
numbered f a (suc count) zero less = ap (λ n. Some (f n)) (omega arith)
numbered f a (suc count) (suc i) less = numbered f (a + 1) count i (omega (arith, less)) ∙ ap (λ n. Some (f n)) (omega arith)

-- a page that the file holds whole has no zeros behind it
whole_page : (bytes : List ℕ) (at size : ℕ) → at + size ≤ length bytes → take size (drop at bytes) ++ zeros (size - (length bytes - at)) ≡ take size (drop at bytes)
whole_page bytes at size fits =
    let none : size - (length bytes - at) ≡ 0 = omega (arith, fits) in
    ap (λ n. take size (drop at bytes) ++ zeros n) none ∙ append-nil (take size (drop at bytes))

fits_in : (n count size len : ℕ) → 1 ≤ n → n ≤ count → count * size ≤ len → (n - 1) * size + size ≤ len
fits_in n count size len one few long =
    let more : n * size ≤ count * size = mul-le-mul_right size few in
    let same : (n - 1) * size + size ≡ n * size = apart n size one in
    omega (arith, more, same, long)
  where
    apart : (n size : ℕ) → 1 ≤ n → (n - 1) * size + size ≡ n * size
    apart zero size one = absurd (omega (arith, one))
    apart (suc m) size one = grind arith

-- a page among the first ones of a file
pub held_at : (size count : ℕ) (content : Content) (n : ℕ) → IsInside count n → page_in (held_pages size count content) n ≡ held_page size content n
held_at size count content n inside =
    let there = numbered (held_page size content) 1 count (n - 1) (omega (arith, inside.0, inside.1)) in
    let place : 1 + (n - 1) ≡ n = omega (arith, inside.0) in
    ap (λ (o : Option (List ℕ)). unwrap_or o []) there ∙ ap (held_page size content) place

-- pages that the file holds whole
all_whole : (content : Content) (size count a k : ℕ) → size ≡ file_page_size content → count * size ≤ length (bytes_of content Database) → 1 ≤ a → a + k ≤ count + 1
    → map (held_page size content) (numbers_from a k) ≡ map (file_page content) (numbers_from a k)
all_whole content size count a zero same long one few = refl
all_whole content size count a (suc k) same long one few =
    let fits = fits_in a count size (length (bytes_of content Database)) one (omega (arith, few)) long in
    let here : held_page size content a ≡ file_page content a = whole_page (bytes_of content Database) ((a - 1) * size) size fits ∙ ap (λ (s : ℕ). take s (drop ((a - 1) * s) (bytes_of content Database))) same in
    let rest = all_whole content size count (a + 1) k same long (omega (arith, one)) (omega (arith, few)) in
    ap (λ p. p ∷ map (held_page size content) (numbers_from (a + 1) k)) here ∙ ap (λ ps. file_page content a ∷ ps) rest

pub found_are : (found : Recovered) (content : Content) (pages : List (List ℕ)) → IsFound found content pages
    → held_pages found.page_size found.pages content ≡ pages
found_are found content pages is =
    let P : ℕ → Type 0 = λ size. length pages * size ≤ length (bytes_of content Database) in
    ap (λ count. held_pages found.page_size count content) is.counted
    ∙ all_whole content found.page_size (length pages) 1 (length pages) is.sized (subst P (sym is.sized) is.whole) (omega arith) (omega arith)
    ∙ is.held
