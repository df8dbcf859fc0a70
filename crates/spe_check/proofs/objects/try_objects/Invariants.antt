use Rattle.std.proofs.Common.{◌≡◌, ◌≤◌, length}
use Rattle.spe_model.specs.Verdict.{schema_rows}
use Rattle.spe_check.specs.Objects.{IsTried}
use Rattle.spe_check.specs.SchemaRows.{rows_in}
use Rattle.spe_check.specs.Shown.{Each, Walked}
use Rattle.spe_check.proofs.objects.try_objects.Given as goal

abbrev pub invariant-objects : goal.invariant-objects
invariant-objects g l = record {
  walked : Walked g.S.Pages l.fn.space l.space l.fn.walk.met l.walk.met;
  refusal : g.S.Pages.refusal l.space ≡ g.S.Pages.refusal l.fn.space;
  few : l.rows ≤ 18446744073709551615;
  tried : Each g.S.Pages l.space (λ usable pages. rows_in l.placed ≡ schema_rows usable pages → IsTried usable pages l.fn.walk.met l.walk.met l.placed l.left l.rows);
}

abbrev pub decreases-objects : goal.decreases-objects
decreases-objects g l = length l.left
