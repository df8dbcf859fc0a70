use Rattle.std.proofs.Common.{◌∙◌, ℕ}
use Rattle.spe_model.specs.Schema.{SchemaRow}
use Rattle.std.specs.Global.{Global}
use Rattle.std.specs.Prelude.{Vec}
use Rattle.spe_check.specs.MetPages.{has_met}
use Rattle.spe_check.specs.Verdicts.{schema_tree}
use Rattle.spe_check.proofs.TriesLemmas.{halts_same, the_ok, the_err}
use Rattle.spe_check.proofs.VerdictLemmas.{schema_tried}
use Rattle.spe_check.proofs.verdict.try_schema.Goals as goal

pub returns-in-Ok-clause-tried : goal.returns-in-Ok-clause-tried
returns-in-Ok-clause-tried g c = λ usable pages shows.
    let found = schema_tried usable pages c.args.walk.now.met c.walk_table.new.walk.met c.tree_levels-levels.result c.new-rows.result.placed.items c.walk_table.new.visitor.placed.items (the_ok ℕ c.in-Ok._level)
    c.tree_levels-levels.ensures c.new-rows.ensures (c.in-Ok.ensures.tried usable pages shows) in
    (found.0, c.into_placed.ensures ∙ found.1)

pub returns-in-Err-clause-tried : goal.returns-in-Err-clause-tried
returns-in-Err-clause-tried g c = λ usable pages shows.
    let found = schema_tried usable pages c.args.walk.now.met c.walk_table.new.walk.met c.tree_levels-levels.result c.new-rows.result.placed.items c.new-rows.result.placed.items (the_err ℕ c.in-Err.halt)
    c.tree_levels-levels.ensures c.new-rows.ensures (c.in-Err.ensures.tried usable pages shows) in
    (halts_same ℕ (Vec (ℕ × SchemaRow) Global) c.args.walk.now.met.pages (has_met c.args.walk.now.met) (has_met c.walk_table.new.walk.met) (schema_tree usable pages) c.in-Err.halt found.0, tt)
