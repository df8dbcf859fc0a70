-- The whole pieces of some bytes, one after the other.
use Rattle.std.proofs.Common.{length-append, ◌≡◌, ℕ, zero, suc, ◌+◌, ◌*◌, ◌/◌, ◌≤◌, ◌<◌, List, [], ◌∷◌, ◌++◌, length, take, drop, map, refl, arith, ap, ◌∙◌}
use Rattle.std.proofs.lemmas.List.{drop-drop, drop_at, length-drop, take_at}
use Rattle.std.proofs.Math.Nat.{div-eq-sub-div, div-eq_of_lt}
use Rattle.std.specs.Prelude.{true, false}
use Rattle.std.proofs.lemmas.List.Sums.{take_while-cons}
use Rattle.spe_model.specs.Journal.{saved_of, is_right, numbers_from, pieces_of}
use Rattle.spe_journal.specs.Saved.{saved_in}

-- numbers that begin one later
map-numbers_from : {X : Type 0} (f g : ℕ → X) → ((i : ℕ) → f (i + 1) ≡ g i) → (n count : ℕ) → map f (numbers_from (n + 1) count) ≡ map g (numbers_from n count)
map-numbers_from f g same n zero = refl
map-numbers_from {X} f g same n (suc count) =
    rw (same n) (ap (λ (xs : List X). g n ∷ xs) (map-numbers_from f g same (n + 1) count))

pub pieces_of-more : (size : ℕ) (bytes : List ℕ) → 0 < size → size ≤ length bytes
    → pieces_of size bytes ≡ take size bytes ∷ pieces_of size (drop size bytes)
pieces_of-more size bytes some fits =
    let count : length bytes / size ≡ suc (length (drop size bytes) / size) =
    div-eq-sub-div some fits ∙ rw (length-drop size bytes) (omega arith) in
    let next : (i : ℕ) → take size (drop ((i + 1) * size) bytes) ≡ take size (drop (i * size) (drop size bytes)) =
    λ i. rw (drop-drop (i * size) size bytes) (ap (λ (n : ℕ). take size (drop n bytes)) (grind arith)) in
    let front : 0 * size ≡ 0 = omega arith in
    rw (count, front) (ap (λ (xs : List (List ℕ)). take size bytes ∷ xs)
    (map-numbers_from (λ i. take size (drop (i * size) bytes)) (λ i. take size (drop (i * size) (drop size bytes))) next 0 (length (drop size bytes) / size)))

pub pieces_of-none : (size : ℕ) (bytes : List ℕ) → length bytes < size → pieces_of size bytes ≡ []
pieces_of-none size bytes short = rw (div-eq_of_lt short) refl

-- the pieces that begin with a whole one
pieces_of-append : (size : ℕ) (piece rest : List ℕ) → 0 < size → length piece ≡ size → pieces_of size (piece ++ rest) ≡ piece ∷ pieces_of size rest
pieces_of-append size piece rest some whole =
    pieces_of-more size (piece ++ rest) some (omega (arith, length-append piece rest))
    ∙ rw (take_at piece rest size whole, drop_at piece rest size whole) refl

-- a record that is right is saved before what comes after it
pub saved_in-right : (nonce page_size : ℕ) (piece rest : List ℕ) → length piece ≡ page_size + 8 → is_right nonce page_size piece ≡ true
    → saved_in nonce page_size (piece ++ rest) ≡ saved_of page_size piece ∷ saved_in nonce page_size rest
unfolding saved_in
saved_in-right nonce page_size piece rest whole right =
    rw (pieces_of-append (page_size + 8) piece rest (omega arith) whole, take_while-cons (is_right nonce page_size) piece (pieces_of (page_size + 8) rest), right) refl

-- behind a record that is wrong nothing is saved
pub saved_in-wrong : (nonce page_size : ℕ) (piece rest : List ℕ) → length piece ≡ page_size + 8 → is_right nonce page_size piece ≡ false
    → saved_in nonce page_size (piece ++ rest) ≡ []
unfolding saved_in
saved_in-wrong nonce page_size piece rest whole wrong =
    rw (pieces_of-append (page_size + 8) piece rest (omega arith) whole, take_while-cons (is_right nonce page_size) piece (pieces_of (page_size + 8) rest), wrong) refl

-- a record that is cut off saves nothing
pub saved_in-torn : (nonce page_size : ℕ) (bytes : List ℕ) → length bytes < page_size + 8 → saved_in nonce page_size bytes ≡ []
unfolding saved_in
saved_in-torn nonce page_size bytes torn = rw (pieces_of-none (page_size + 8) bytes torn) refl
