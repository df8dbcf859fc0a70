use Rattle.std.proofs.Common.{◌≡◌, true, ap}
use Rattle.spe_model.specs.Statement.{is_insert}
use Rattle.spe_exec.proofs.WritesLemmas.{delete_rows, insert_rows}
use Rattle.spe_exec.proofs.writes.write_rows.Goals as goal

pub returns-in-Insert-clause-carries : goal.returns-in-Insert-clause-carries
returns-in-Insert-clause-carries g c = λ pages t agrees is same.
    let inserts : is_insert c.args.statement.now ≡ true = ap is_insert c.in-Insert.is in
    insert_rows g.S.Pages c.args.space.now c.insert.new.space pages t c.args.statement.now _ c.insert.result inserts (c.insert.ensures.carries pages t agrees is same)

pub returns-in-Delete-clause-carries : goal.returns-in-Delete-clause-carries
returns-in-Delete-clause-carries g c = λ pages t agrees is same.
    delete_rows g.S.Pages c.args.space.now c.delete.new.space pages t c.args.statement.now c.in-Delete.table c.in-Delete.conds c.as_slice-in-Delete.result.now c.delete.result c.in-Delete.is c.as_slice-in-Delete.ensures
    (c.delete.ensures.carries pages t agrees is same)
