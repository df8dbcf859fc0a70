-- Taking a write back.
use Rattle.std.proofs.Common.{◌≡◌, ℕ, ◌+◌, ◌-◌, ◌≤◌, List, ◌++◌, length, take, drop, min, ap, ◌∙◌, sym, refl, inl, inr, arith, length-append, length-drop, length-take, take-add}
use Rattle.std.proofs.lemmas.Bool.{cases_lt}
use Rattle.std.proofs.lemmas.List.{take-append-le, take_at, drop_at, take_min, take-append-drop, take_all, length-replicate}
use Rattle.spe_model.specs.Content.{zeros}
use Rattle.spe_model.specs.Trace.{laid_over}

-- what a write puts before its own bytes
front : List ℕ → ℕ → List ℕ
front old at = take at (old ++ zeros (at - length old))

front_length : (old : List ℕ) (at : ℕ) → length (front old at) ≡ at
unfolding front
front_length old at =
    let whole = length-append old (zeros (at - length old)) in
    let blank : length (zeros (at - length old)) ≡ at - length old = length-replicate (at - length old) 0 in
    length-take at (old ++ zeros (at - length old)) ∙ omega arith

front_kept : (old : List ℕ) (at n : ℕ) → n ≤ at → n ≤ length old → take n (front old at) ≡ take n old
unfolding front
front_kept old at n low within =
    let long : List ℕ = old ++ zeros (at - length old) in
    let sum : n + (at - n) ≡ at = omega arith in
    let parts : take at long ≡ take n long ++ take (at - n) (drop n long) = ap (λ (k : ℕ). take k long) (sym sum) ∙ take-add n (at - n) long in
    let same : take n long ≡ take n old = take-append-le n old (zeros (at - length old)) within in
    let size : length (take n old) ≡ n = length-take n old ∙ omega arith in
    ap (take n) (parts ∙ ap (λ (l : List ℕ). l ++ take (at - n) (drop n long)) same) ∙ take_at (take n old) (take (at - n) (drop n long)) n size

-- the bytes before those that were written, these, and what stands behind
back_whole : (old saved rest : List ℕ) (from : ℕ) → saved ≡ drop from old → take (length old) (take from old ++ saved ++ rest) ≡ old
back_whole old saved rest from s =
    let all : take from old ++ saved ≡ old = ap (λ (l : List ℕ). take from old ++ l) s ∙ take-append-drop from old in
    ap (λ (l : List ℕ). take (length old) (l ++ rest)) all ∙ take_at old rest (length old) refl

back_part : (old bytes saved : List ℕ) (at : ℕ) → at + length bytes ≤ length old → saved ≡ take (length bytes) (drop at old)
    → take at old ++ saved ++ drop (at + length saved) (laid_over old at bytes) ≡ old
unfolding front
back_part old bytes saved at within s =
    let count : length saved ≡ length bytes = ap length s ∙ length-take (length bytes) (drop at old) ∙ omega (arith, length-drop at old) in
    let tail : List ℕ = drop (at + length bytes) old in
    let size : length (front old at ++ bytes) ≡ at + length saved = length-append (front old at) bytes ∙ omega (arith, front_length old at) in
    let behind : drop (at + length saved) (laid_over old at bytes) ≡ tail = drop_at (front old at ++ bytes) tail (at + length saved) size in
    let start : take (at + length bytes) old ≡ take at old ++ saved = take-add at (length bytes) old ∙ ap (λ (l : List ℕ). take at old ++ l) (sym s) in
    ap (λ (l : List ℕ). take at old ++ saved ++ l) behind ∙ ap (λ (l : List ℕ). l ++ tail) (sym start) ∙ take-append-drop (at + length bytes) old

-- some bytes of the old ones put back, and what stands behind them
pub laid_back : (old bytes saved : List ℕ) (at count from : ℕ) → from ≡ min at (length old) → length bytes ≡ count → saved ≡ take count (drop from old)
    → take (length old) (take from (laid_over old at bytes) ++ saved ++ drop (from + length saved) (laid_over old at bytes)) ≡ old
unfolding front
laid_back old bytes saved at count from f k s =
    let low : from ≤ at = omega arith in
    let high : from ≤ length old = omega arith in
    let tail : List ℕ = drop (at + length bytes) old in
    let size = length-append (front old at) bytes in
    let before : take from (laid_over old at bytes) ≡ take from old =
    take-append-le from (front old at ++ bytes) tail (omega (arith, front_length old at))
    ∙ take-append-le from (front old at) bytes (omega (arith, front_length old at)) ∙ front_kept old at from low high in
    let rest : List ℕ = drop (from + length saved) (laid_over old at bytes) in
    ap (λ (l : List ℕ). take (length old) (l ++ saved ++ rest)) before ∙ elim (cases_lt (length old) (at + length bytes)) [
      | inl past ↦
          let all : saved ≡ drop from old = s ∙ take_all count (drop from old) (omega (arith, length-drop from old)) in
          back_whole old saved rest from all
      | inr within ↦
          let same : from ≡ at = omega arith in
          let part : saved ≡ take (length bytes) (drop at old) = s ∙ ap (λ (n : ℕ). take n (drop from old)) (sym k) ∙ ap (λ (n : ℕ). take (length bytes) (drop n old)) same in
          let whole : take from old ++ saved ++ rest ≡ old = ap (λ (n : ℕ). take n old ++ saved ++ drop (n + length saved) (laid_over old at bytes)) same ∙ back_part old bytes saved at within part in
          ap (take (length old)) whole ∙ take_all (length old) old (omega arith)
    ]

-- nothing was written
pub same_back : (old saved : List ℕ) (count from : ℕ) → saved ≡ take count (drop from old)
    → take (length old) (take from old ++ saved ++ drop (from + length saved) old) ≡ old
same_back old saved count from s =
    let tail : List ℕ = drop from old in
    let size : length saved ≡ min count (length tail) = ap length s ∙ length-take count tail in
    let part : saved ≡ take (length saved) tail = s ∙ sym (take_min count tail) ∙ ap (λ (n : ℕ). take n tail) (sym size) in
    let start : take (from + length saved) old ≡ take from old ++ saved = take-add from (length saved) old ∙ ap (λ (l : List ℕ). take from old ++ l) (sym part) in
    let whole = ap (λ (l : List ℕ). l ++ drop (from + length saved) old) (sym start) ∙ take-append-drop (from + length saved) old in
    ap (take (length old)) whole ∙ take_all (length old) old (omega arith)

-- how far the bytes reach that are put back
pub fits_same : (old saved : List ℕ) (count from : ℕ) → from ≤ length old → saved ≡ take count (drop from old) → from + length saved ≤ length old
fits_same old saved count from within s =
    let size : length saved ≡ min count (length old - from) = ap length s ∙ length-take count (drop from old) ∙ omega (arith, length-drop from old) in
    omega arith

pub fits_back : (old bytes saved : List ℕ) (at count from : ℕ) → from ≡ min at (length old) → length bytes ≡ count → saved ≡ take count (drop from old)
    → from + length saved ≤ length (laid_over old at bytes)
unfolding front
fits_back old bytes saved at count from f k s =
    let size = length-append (front old at) bytes in
    let all = length-append (front old at ++ bytes) (drop (at + length bytes) old) in
    let tail = length-drop (at + length bytes) old in
    let within : from + length saved ≤ length old = fits_same old saved count from (omega arith) s in
    omega (arith, front_length old at)

-- bytes laid over others shorten nothing
pub laid_longer : (old bytes : List ℕ) (at : ℕ) → length old ≤ length (laid_over old at bytes)
unfolding front
laid_longer old bytes at =
    let size = length-append (front old at) bytes in
    let all = length-append (front old at ++ bytes) (drop (at + length bytes) old) in
    let tail = length-drop (at + length bytes) old in
    omega (arith, front_length old at)
