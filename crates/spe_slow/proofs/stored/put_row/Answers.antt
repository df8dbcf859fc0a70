use Rattle.std.proofs.Common.{◌≡◌, ◌∙◌, rules, to_z, of_z, w64, to_z-of_z}
use Rattle.spe_slow.proofs.OrderLemmas.{put_in_order}
use Rattle.spe_slow.proofs.stored.put_row.Goals as goal

pub returns-clause-ok : goal.returns-clause-ok
returns-clause-ok c =
    let same : to_z w64 (of_z w64 c.args.rowid) ≡ c.args.rowid = to_z-of_z {w = w64} {z = c.args.rowid} (search rules) in
    (rw same at c.in_ok-insert.ensures.entries) ∙ put_in_order c.args.rowid c.args.values c.args.rows.now.entries c.in_ok-insert.ensures.was_ordered
