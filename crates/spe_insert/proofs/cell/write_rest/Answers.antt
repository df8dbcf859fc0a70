use Rattle.std.proofs.Common.{◌∙◌, sym}
use Rattle.spe_insert.proofs.CellLemmas.{empty_is, no_chain}
use Rattle.spe_insert.proofs.cell.write_rest.Goals as goal

pub returns-then-is_empty-clause-chain : goal.returns-then-is_empty-clause-chain
returns-then-is_empty-clause-chain g c = λ pages agrees ready held.
    no_chain g.S.Pages c.shifts_law.ensures.idle c.args.space.now pages c.args.rest.now (empty_is c.args.rest.now (sym c.is_empty.ensures ∙ c.if-is_empty.true)) ready
