use Rattle.std.proofs.Common.{◌≡◌, not, refl, arith, to_z, of_z, w64, to_z-of_z}
use Rattle.spe_search.specs.declared.pairs.Pair.{Pair}
use Rattle.spe_stream.proofs.TakeLemmas.{puts_full, puts_flaw, puts_row}
use Rattle.spe_stream.proofs.stream.RowPrinterRowTaker.take.Goals as goal

pub returns-then-self : goal.returns-then-self
returns-then-self g c = (refl, puts_full c.args.self.now.table.now _)

pub returns-then-not-put_stored : goal.returns-then-not-put_stored
returns-then-not-put_stored g c =
    let same : to_z w64 (of_z w64 c.args.rowid) ≡ c.args.rowid = grind (arith, to_z-of_z) in
    let handed : Pair = record { rowid = to_z w64 (of_z w64 c.args.rowid); payload = c.args.payload.now; leaf = c.args.leaf } in
    (refl, rw same at (puts_flaw c.args.self.now.table.now handed {count = c.args.self.now.count} {shown = c.args.self.now.shown.rows} {flaw = c.args.self.now.flaw} c.put_stored.result c.if-not-put_stored.true c.put_stored.ensures))

pub returns : goal.returns
returns g c =
    let same : to_z w64 (of_z w64 c.args.rowid) ≡ c.args.rowid = grind (arith, to_z-of_z) in
    let handed : Pair = record { rowid = to_z w64 (of_z w64 c.args.rowid); payload = c.args.payload.now; leaf = c.args.leaf } in
    (refl, rw same at (puts_row c.args.self.now.table.now handed {count = c.args.self.now.count} {flaw = c.args.self.now.flaw} c.put_stored.result (not c.has_failed.result) c.if-not-put_stored.false c.put_stored.ensures c.with-self.ensures))
