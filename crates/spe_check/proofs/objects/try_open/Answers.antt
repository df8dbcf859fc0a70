use Rattle.std.proofs.Common.{ℕ, [], refl, subst, ap}
use Rattle.std.proofs.Math.Nat.{le_refl}
use Rattle.spe_model.specs.Verdict.{record_marks, tree_levels}
use Rattle.spe_model.specs.Walk.{levels_at_leaf, table_marks, walk_rows}
use Rattle.spe_check.specs.MetPages.{has_met}
use Rattle.spe_check.specs.Pages.{behind_read}
use Rattle.spe_check.specs.Tries.{Tries}
use Rattle.spe_check.specs.Visitor.{Outlook}
use Rattle.spe_check.proofs.ObjectLemmas.{all_counted}
use Rattle.spe_check.proofs.TriesLemmas.{the_ok, the_err}
use Rattle.spe_check.proofs.objects.try_open.Goals as goal

pub returns-in-Ok-clause-tried : goal.returns-in-Ok-clause-tried
returns-in-Ok-clause-tried g c = λ usable pages shows holder is.
    let P : ℕ → Type 0 = λ k. Tries c.args.walk.now.met.pages (has_met c.args.walk.now.met) (has_met c.try_table.new.walk.met)
    (behind_read (table_marks (record_marks k) usable pages (levels_at_leaf usable pages tree_levels c.args.root) tree_levels 0 18446744073709551616 holder c.args.root)) (the_ok ℕ c.count.result) in
    let tried = c.in-Ok.ensures.tried usable pages shows (levels_at_leaf usable pages tree_levels c.args.root) holder [] is refl (le_refl 0) in (
      subst P c.new-rows.ensures.columns tried.0,
      all_counted c.new-rows.result.count c.try_table.new.visitor.count c.count.result (walk_rows usable pages tree_levels c.args.root)
          (ap (λ (o : Outlook). o.count) tried.2) c.new-rows.ensures.count c.count.ensures c.count.type_inv,
    )

pub returns-in-Err-clause-tried : goal.returns-in-Err-clause-tried
returns-in-Err-clause-tried g c = λ usable pages shows holder is.
    let P : ℕ → Type 0 = λ k. Tries c.args.walk.now.met.pages (has_met c.args.walk.now.met) (has_met c.try_table.new.walk.met)
    (behind_read (table_marks (record_marks k) usable pages (levels_at_leaf usable pages tree_levels c.args.root) tree_levels 0 18446744073709551616 holder c.args.root)) (the_err ℕ c.in-Err.halt) in
    let tried = c.in-Err.ensures.tried usable pages shows (levels_at_leaf usable pages tree_levels c.args.root) holder [] is refl (le_refl 0) in
    (subst P c.new-rows.ensures.columns tried.0, tt)
