-- Bytes laid over a file that was lengthened by zeros.
use Rattle.std.proofs.Common.{◌≡◌, ℕ, ◌+◌, ◌-◌, ◌≤◌, max, List, [], ◌++◌, length, take, drop, ap, ◌∙◌, sym, refl, Bool, true, false, unwrap_or, inl, inr, arith, append-nil, length-append}
use Rattle.std.proofs.lemmas.Bool.{cases_lt}
use Rattle.std.proofs.lemmas.List.{take-append-le, drop-append-le, take-replicate, drop_all, take_all, take_at, length-replicate}
use Rattle.std.proofs.Math.Seq.{take-append-add}
use Rattle.spe_model.specs.Content.{zeros}
use Rattle.spe_stored.specs.Stored.{bytes_if}
use Rattle.spe_model.specs.Trace.{laid_over}

-- only the zeros of the gap come before the place
front_is : (old : List ℕ) (at k : ℕ) → at - length old ≤ k → take at (old ++ zeros k) ≡ take at (old ++ zeros (at - length old))
front_is old at k enough = elim (cases_lt at (length old)) [
  | inl before ↦ take-append-le at old (zeros k) (omega arith) ∙ sym (take-append-le at old (zeros (at - length old)) (omega arith))
  | inr past ↦
      let m : ℕ = at - length old in
      let place : at ≡ length old + m = omega arith in
      let left : take (length old + m) (old ++ zeros k) ≡ old ++ take m (zeros k) = take-append-add old (zeros k) m in
      let right : take (length old + m) (old ++ zeros m) ≡ old ++ take m (zeros m) = take-append-add old (zeros m) m in
      let one : take m (zeros k) ≡ zeros m = take-replicate m k 0 enough in
      let two : take m (zeros m) ≡ zeros m = take-replicate m m 0 (omega arith) in
      cc
]

-- and none past the end of what is laid
back_is : (old : List ℕ) (end : ℕ) → drop end (old ++ zeros (end - length old)) ≡ drop end old
back_is old end = elim (cases_lt end (length old)) [
  | inl before ↦
      let none : end - length old ≡ 0 = omega arith in
      rw (drop-append-le end old (zeros (end - length old)) (omega arith), none) (append-nil (drop end old))
  | inr past ↦
      let whole : length (old ++ zeros (end - length old)) ≡ end = grind (arith, length-append, length-replicate) in
      drop_all end (old ++ zeros (end - length old)) (omega arith) ∙ sym (drop_all end old past)
]

pub laid_is : (old bytes longer laid : List ℕ) (at size end n : ℕ) → end ≡ at + length bytes → size ≡ max (length old) end → longer ≡ take size old ++ zeros (size - length old)
    → laid ≡ take at longer ++ bytes ++ drop (at + length bytes) longer → n ≡ size → length laid ≡ length longer
    → take n (laid ++ drop (length laid) longer) ≡ laid_over old at bytes
laid_is old bytes longer laid at size end n e s l p w m =
    let kept : take size old ≡ old = take_all size old (omega arith) in
    let more : size - length old ≡ end - length old = omega arith in
    let all : longer ≡ old ++ zeros (end - length old) = cc in
    let front : take at (old ++ zeros (end - length old)) ≡ take at (old ++ zeros (at - length old)) = front_is old at (end - length old) (omega arith) in
    let back : drop end (old ++ zeros (end - length old)) ≡ drop end old = back_is old end in
    let is : laid ≡ laid_over old at bytes = cc in
    let sum : length longer ≡ length old + (end - length old) = ap length all ∙ length-append old (zeros (end - length old)) ∙ ap (λ k. length old + k) (length-replicate (end - length old) 0) in
    let len : length laid ≡ n = omega arith in
    take_at laid (drop (length laid) longer) n len ∙ is

-- the bytes of a file, none where it is not there
pub bytes_held : (there : Bool) (bytes : List ℕ) → (there ≡ false → bytes ≡ []) → unwrap_or (bytes_if there bytes) [] ≡ bytes
bytes_held true bytes none = refl
bytes_held false bytes none = sym (none refl)
