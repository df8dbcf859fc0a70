use Rattle.std.proofs.Common.{◌≡◌, ◌∙◌, ℕ, sym, subst, arith}
use Rattle.std.specs.Prelude.{IfOk}
use Rattle.spe_model.specs.Schema.{SchemaRow}
use Rattle.spe_model.specs.Verdict.{object_marks, open_rows}
use Rattle.spe_check.specs.declared.halt.Halt.TheVariants.{Broken}
use Rattle.spe_check.specs.MetPages.{has_met}
use Rattle.spe_check.specs.RecordRows.{saturated}
use Rattle.spe_check.specs.Tries.{Tries}
use Rattle.spe_check.proofs.ObjectLemmas.{object_none, object_out, object_halts, object_tried, of_pair}
use Rattle.spe_check.proofs.ShownLemmas.{shows_before}
use Rattle.spe_check.proofs.TriesLemmas.{the_ok, the_err}
use Rattle.spe_check.proofs.objects.try_object.Goals as goal

pub returns-in_default-clause-tried : goal.returns-in_default-clause-tried
returns-in_default-clause-tried g c = λ usable pages shows attaches.
    let P : ℕ × SchemaRow → Type 0 = λ p. Tries c.args.walk.now.met.pages (has_met c.args.walk.now.met) (has_met c.args.walk.now.met) (object_marks usable pages p) (the_err ℕ (Broken c.leaf-leaf.result 1)) in (
      subst P (of_pair c.leaf-leaf.result c.row-row.result.now c.args.placed.now c.leaf-leaf.ensures c.row-row.ensures)
          (object_out usable pages c.args.walk.now.met.pages (has_met c.args.walk.now.met) c.leaf-leaf.result c.row-row.result.now c.in_default.ensures),
      tt,
    )

pub returns-then-root-eq0-clause-tried : goal.returns-then-root-eq0-clause-tried
returns-then-root-eq0-clause-tried g c = λ usable pages shows attaches.
    let P : ℕ × SchemaRow → Type 0 = λ p.
    Tries c.args.walk.now.met.pages (has_met c.args.walk.now.met) (has_met c.args.walk.now.met) (object_marks usable pages p) (the_ok ℕ 0) × (0 ≡ saturated (open_rows usable pages p.1)) in
    subst P (of_pair c.leaf-leaf.result c.row-row.result.now c.args.placed.now c.leaf-leaf.ensures c.row-row.ensures)
    (object_none usable pages c.args.walk.now.met.pages (has_met c.args.walk.now.met) c.leaf-leaf.result c.row-row.result.now (sym c.in-Some.ensures.1 ∙ c.if-root-eq0.true))

pub returns-in-Err-clause-tried : goal.returns-in-Err-clause-tried
returns-in-Err-clause-tried g c = λ usable pages shows attaches.
    let P : ℕ × SchemaRow → Type 0 = λ p. Tries c.args.walk.now.met.pages (has_met c.args.walk.now.met) (has_met c.read_met.new.met) (object_marks usable pages p) (the_err ℕ c.in-Err.halt) in (
      subst P (of_pair c.leaf-leaf.result c.row-row.result.now c.args.placed.now c.leaf-leaf.ensures c.row-row.ensures)
          (object_halts usable pages c.args.walk.now.met.pages (has_met c.args.walk.now.met) (has_met c.read_met.new.met) c.leaf-leaf.result c.row-row.result.now c.in-Some.root c.in-Err.halt
          c.in-Some.ensures.1 (grind (arith, c.if-root-eq0.false)) (c.in-Err.ensures.tried usable pages shows).0),
      tt,
    )

pub returns-clause-tried : goal.returns-clause-tried
returns-clause-tried g c = λ usable pages shows attaches.
    let now = shows_before g.S.Pages c.read_met.new.space c.try_tree-rows.new.space usable pages c.try_tree-rows.ensures.walked.reads shows in
    let read = c.in-Ok.ensures.tried usable pages now in
    let tree = c.try_tree-rows.ensures.tried usable pages shows c.leaf-leaf.result attaches c.in-Some.ensures.1 (grind (arith, c.if-root-eq0.false)) read.1 in
    let P : ℕ × SchemaRow → Type 0 = λ p.
    Tries c.args.walk.now.met.pages (has_met c.args.walk.now.met) (has_met c.try_tree-rows.new.walk.met) (object_marks usable pages p) c.try_tree-rows.result
    × IfOk c.try_tree-rows.result (λ rows. rows ≡ saturated (open_rows usable pages p.1)) in
    subst P (of_pair c.leaf-leaf.result c.row-row.result.now c.args.placed.now c.leaf-leaf.ensures c.row-row.ensures) (
      object_tried usable pages c.args.walk.now.met c.read_met.new.met c.try_tree-rows.new.walk.met c.leaf-leaf.result c.row-row.result.now c.in-Some.root c.in-Ok.node c.try_tree-rows.result
          c.in-Some.ensures.1 (grind (arith, c.if-root-eq0.false)) c.in-Ok.ensures.walked.pages read.0 tree.0,
      tree.1,
    )
