use Rattle.std.proofs.Common.{arith, ap, sym, ◌∙◌, ◌++◌, List, ℕ, drop, length, ◌≤◌, ◌-◌}
use Rattle.std.proofs.lemmas.List.{length-drop, take_all}
use Rattle.std.proofs.Math.Facts.{Fits-lt-pow}
use Rattle.spe_format.specs.Spelling.{varint_bytes}
use Rattle.spe_format.proofs.SpelledLemmas.{number_is}
use Rattle.spe_format.proofs.spelled.number_spelled.Goals as goal

pub returns : goal.returns
returns c =
    let bytes = c.args.bytes.now in
    let len = c.in_ok-number.len in
    number_is bytes c.in_ok-number.number len (λ i. Fits-lt-pow (c.type_inv.bytes i)) (sym c.in_ok-number.ensures.value) (c.if-len-varint_length.false ∙ c.varint_length.ensures.value)
    ∙ ap (λ (xs : List ℕ). varint_bytes c.in_ok-number.number ++ xs) (sym (take_all (length bytes - len) (drop len bytes) (omega (arith, length-drop len bytes))))
