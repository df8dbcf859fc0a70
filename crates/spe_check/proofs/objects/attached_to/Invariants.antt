use Rattle.std.proofs.Common.{◌≡◌, ℕ, List, ◌||◌, codes, length}
use Rattle.std.specs.List.{list_any}
use Rattle.spe_model.specs.Schema.{is_on}
use Rattle.spe_catalog.specs.Names.{has_name}
use Rattle.spe_check.specs.SchemaRows.{rows_in}
use Rattle.spe_check.proofs.objects.attached_to.Given as goal

abbrev pub invariant-loop-left : goal.invariant-loop-left
invariant-loop-left l = record {
  indexed : (name : List ℕ) → list_any (is_on (codes "index") name) (rows_in l.fn.placed) ≡ (has_name l.attached.indexed name || list_any (is_on (codes "index") name) (rows_in l.left));
  triggered : (name : List ℕ) → list_any (is_on (codes "trigger") name) (rows_in l.fn.placed) ≡ (has_name l.attached.triggered name || list_any (is_on (codes "trigger") name) (rows_in l.left));
}

abbrev pub decreases-loop-left : goal.decreases-loop-left
decreases-loop-left l = length l.left
