use Rattle.std.proofs.Common.{sym}
use Rattle.std.specs.Ordering.{int_cmp}
use Rattle.std.specs.BTreeMap.{is_at}
use Rattle.spe_slow.proofs.StoredLemmas.{set_none}
use Rattle.spe_slow.proofs.stored.write_row.Goals as goal

pub returns-in-Some : goal.returns-in-Some
returns-in-Some c = (c.get_mut.follows.holds c.args.values).0

pub returns-in_default : goal.returns-in_default
returns-in_default c = rw c.get_mut.follows.holds-at-none (sym (set_none (is_at (int_cmp c.args.rowid.now)) c.args.rows.now.entries c.args.values (sym c.in_default.ensures.value)))
