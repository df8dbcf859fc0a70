use Rattle.std.proofs.Common.{◌∙◌, List, drop, subst, arith}
use Rattle.std.proofs.lemmas.Grind.{common_steps}
use Rattle.spe_model.specs.Schema.{SchemaRow}
use Rattle.spe_catalog.specs.Table.{Attaches}
use Rattle.spe_check.proofs.IndexLemmas.{front_is}
use Rattle.spe_check.proofs.ObjectLemmas.{tried_next, tried_rest, tried_halt, tried_end}
use Rattle.spe_check.proofs.ShownLemmas.{shows_before, walked_both}
use Rattle.spe_check.proofs.objects.try_objects.Goals as goal

pub returns-in-Err-clause-tried : goal.returns-in-Err-clause-tried
returns-in-Err-clause-tried g c = λ usable pages shows rows_are.
    let now = shows_before g.S.Pages c.objects.space c.try_object.new.space usable pages c.in-Err.ensures.walked.reads shows in
    let A : List SchemaRow → Type 0 = λ rows. Attaches rows c.in_ok-attached.attached in (
      tried_halt usable pages c.args.walk.now.met c.objects.walk.met c.try_object.new.walk.met c.args.placed.now c.objects.left.now (drop 1 c.objects.left.now) c.first-item.result c.objects.rows c.in-Err.halt
          c.objects.invariant.walked.pages (front_is c.objects.left.now c.first-item.result c.in-len1-up.len_at_least c.first-item.is) (c.objects.invariant.tried usable pages now rows_are)
          (c.in-Err.ensures.tried usable pages shows (subst A rows_are c.in_ok-attached.ensures)).0,
      tt,
    )

pub objects-preserved : goal.objects-preserved
objects-preserved g c = record {
  walked = walked_both g.S.Pages c.args.space.now c.objects.space c.try_object.new.space c.args.walk.now.met c.objects.walk.met c.try_object.new.walk.met c.objects.invariant.walked c.in-Ok.ensures.walked;
  refusal = c.in-Ok.ensures.refusal ∙ c.objects.invariant.refusal;
  few = omega (arith, c.saturating_add-rows.type_inv);
  tried = λ usable pages shows rows_are.
      let now = shows_before g.S.Pages c.objects.space c.try_object.new.space usable pages c.in-Ok.ensures.walked.reads shows in
      let A : List SchemaRow → Type 0 = λ rows. Attaches rows c.in_ok-attached.attached in
      let object = c.in-Ok.ensures.tried usable pages shows (subst A rows_are c.in_ok-attached.ensures) in
      tried_rest usable pages c.args.walk.now.met c.try_object.new.walk.met c.args.placed.now (drop 1 c.objects.left.now) _ c.saturating_add-rows.result (grind (arith, common_steps))
      (tried_next usable pages c.args.walk.now.met c.objects.walk.met c.try_object.new.walk.met c.args.placed.now c.objects.left.now (drop 1 c.objects.left.now) c.first-item.result c.objects.rows c.in-Ok.more
      c.saturating_add-rows.result c.objects.invariant.walked.pages (front_is c.objects.left.now c.first-item.result c.in-len1-up.len_at_least c.first-item.is)
      (c.objects.invariant.tried usable pages now rows_are) object.0 object.1 c.saturating_add-rows.ensures);
}

pub returns-clause-tried : goal.returns-clause-tried
returns-clause-tried g c = λ usable pages shows rows_are.
    tried_end usable pages c.args.walk.now.met c.objects.walk.met c.args.placed.now c.objects.left.now c.objects.rows c.in_default.len_below c.objects.invariant.few (c.objects.invariant.tried usable pages shows rows_are)
