use Rattle.std.proofs.Common.{◌≡◌, ◌∙◌, rules, to_z, of_z, w64, to_z-of_z}
use Rattle.spe_slow.proofs.OrderLemmas.{taken_found}
use Rattle.spe_slow.proofs.stored.is_taken.Goals as goal

pub returns : goal.returns
returns c =
    let same : to_z w64 (of_z w64 c.args.rowid) ≡ c.args.rowid = to_z-of_z {w = w64} {z = c.args.rowid} (search rules) in
    (rw same at c.contains_key.ensures) ∙ taken_found c.args.rowid c.args.rows.now.entries
