-- The head as it is written.
use Rattle.std.proofs.Common.{◌≡◌, ℕ, ◌+◌, ◌-◌, List, ◌++◌, length, take, drop, refl, ap, ◌∙◌, sym}
use Rattle.std.proofs.lemmas.List.{drop-drop, drop_at, take_at, drop-replicate}
use Rattle.std.specs.Prelude.{replicate}

-- bytes that are written right behind some front, over zeros
pub put_next : (out new front bytes : List ℕ) (at n zeros : ℕ) → length front ≡ at
    → out ≡ front ++ replicate zeros 0
    → new ≡ take at out ++ bytes ++ drop (at + n) out
    → new ≡ front ++ bytes ++ replicate (zeros - n) 0
put_next out new front bytes at n zeros len old written =
    let head : take at out ≡ front = rw old (take_at front (replicate zeros 0) at len) in
    let behind : drop (at + n) out ≡ replicate (zeros - n) 0 =
    sym (drop-drop n at out) ∙ ap (drop n) (ap (drop at) old ∙ drop_at front (replicate zeros 0) at len) ∙ drop-replicate n zeros 0 in
    written ∙ rw (head, behind) refl
