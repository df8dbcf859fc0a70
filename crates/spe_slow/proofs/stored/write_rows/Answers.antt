use Rattle.std.proofs.Common.{◌≡◌, List, ◌∙◌, sym, ap, rules, to_z, of_z, w64, to_z-of_z}
use Rattle.std.specs.Ordering.{int_cmp}
use Rattle.std.specs.BTreeMap.{is_at}
use Rattle.std.specs.Map.{set_value}
use Rattle.std.proofs.lemmas.List.Sums.{fold_push}
use Rattle.spe_model.specs.Database.{Row}
use Rattle.spe_slow.proofs.stored.write_rows.Goals as goal

pub loop-rowid-preserved : goal.loop-rowid-preserved
loop-rowid-preserved c =
    let same : to_z w64 (of_z w64 c.in-Some.rowid) ≡ c.in-Some.rowid = to_z-of_z {w = w64} {z = c.in-Some.rowid} (search rules) in
    (rw same at c.write_row.ensures)
    ∙ ap (λ (held : List Row). set_value (is_at (int_cmp c.in-Some.rowid)) held c.in-Some.values) c.loop-rowid.invariant
    ∙ sym (fold_push (λ (held : List Row) (r : Row). set_value (is_at (int_cmp r.0)) held r.1) c.args.rows.now.entries c.loop-rowid.yielded (c.in-Some.rowid, c.in-Some.values))
