use Rattle.std.proofs.Common.{◌≡◌, ◌∙◌, ◌<◌, List, [], ◌∷◌, length, arith, sym, refl}
use Rattle.spe_model.specs.declared.page.Cell.{Cell}
use Rattle.spe_insert.proofs.RunLemmas.{last_ends, last_of}
use Rattle.spe_insert.proofs.run.last_key_of.Goals as goal

none_left : (xs : List Cell) → length xs < 1 → xs ≡ []
none_left [] less = refl
none_left (x ∷ xs) less = absurd (omega (arith, less))

pub returns : goal.returns
returns c =
    sym (last_ends _ c.loop-left.left.now (none_left c.loop-left.left.now c.in_default.len_below)) ∙ c.loop-left.invariant ∙ last_of c.args.cells.now
