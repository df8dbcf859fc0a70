use Rattle.std.proofs.Common.{◌≡◌, inl, inr, false, ap}
use Rattle.spe_model.specs.Statement.{is_write}
use Rattle.spe_exec.proofs.WritesLemmas.{read_means}
use Rattle.spe_exec.proofs.writes.run.Goals as goal

pub returns-in-Select-clause-meaning : goal.returns-in-Select-clause-meaning
returns-in-Select-clause-meaning g c =
    let reads : is_write c.args.statement.now ≡ false = elim c.in-Select.is [
      | inl x ↦ ap is_write x.4
      | inr x ↦ ap is_write x.2
    ] in
    read_means g.S.Pages c.args.space.now c.read.new.space c.args.catalog.now c.args.kind c.args.statement.now c.read.result reads c.read.ensures.meaning c.read.ensures.kept
