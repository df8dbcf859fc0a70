-- Bytes from a place on, with zeros past their end.
use Rattle.std.proofs.Common.{◌≡◌, ℕ, ◌-◌, List, ◌++◌, length, take, drop, ap, ◌∙◌, arith, length-drop, min}
use Rattle.std.proofs.lemmas.List.{take_min, drop_min, drop-replicate}
use Rattle.spe_model.specs.Content.{zeros, filled}

left_over : (n count size : ℕ) → count ≡ min n size → n - count ≡ n - size
left_over n count size k = omega arith

-- zeros, with the bytes written over their front
pub filled_is : (bytes : List ℕ) (at n from count : ℕ) (tail front blank : List ℕ) → from ≡ min at (length bytes) → tail ≡ drop from bytes
    → count ≡ min n (length tail) → front ≡ take count tail → blank ≡ zeros n → front ++ drop count blank ≡ filled bytes at n
filled_is bytes at n from count tail front blank f t k p z =
    let past : tail ≡ drop at bytes = t ∙ ap (λ (i : ℕ). drop i bytes) f ∙ drop_min at bytes in
    let len : length tail ≡ length bytes - at = ap length past ∙ length-drop at bytes in
    let head : take count tail ≡ take n tail = ap (λ (i : ℕ). take i tail) k ∙ take_min n tail in
    let rest : n - count ≡ n - (length bytes - at) = left_over n count (length bytes - at) (k ∙ ap (min n) len) in
    let back : drop count (zeros n) ≡ zeros (n - (length bytes - at)) = drop-replicate count n 0 ∙ ap zeros rest in
    cc
