use Rattle.std.proofs.Common.{◌≡◌, ◌∙◌, sym, ap, map, arith, to_z, of_z, w64, to_z-of_z}
use Rattle.std.specs.Option.{option_copied}
use Rattle.spe_slow.specs.Rows.{changed_values}
use Rattle.spe_search.specs.Pairs.{pair_seen}
use Rattle.spe_exec.proofs.ChangingLemmas.{record_made, short_made}
use Rattle.spe_exec.proofs.changing.change_row.Goals as goal

pub returns : goal.returns
returns c =
    let rowid = c.args.pair.now.rowid in
    let one : to_z w64 (of_z w64 rowid) ≡ rowid = grind (arith, to_z-of_z) in
    let given = map option_copied c.args.given.now in
    record {
      change = record_made c.args.table.now given (pair_seen c.args.pair.now) (record { rowid = to_z w64 (of_z w64 rowid); «record» = c.in_ok-record.record }) c.in-Some.old c.in_ok-values.values c.requires.given
          (sym c.in-Some.is ∙ c.in_ok-old.ensures) (c.in_ok-values.ensures ∙ ap (changed_values given) c.as_slice.ensures) one c.in_ok-record.ensures.len c.in_ok-record.ensures.reads_back
          (sym c.is_too_long.ensures ∙ c.if-is_too_long.false);
      short = short_made c.args.table.now c.in_ok-values.values c.in_ok-record.record c.in_ok-record.ensures.len (sym c.is_too_long.ensures ∙ c.if-is_too_long.false);
    }
