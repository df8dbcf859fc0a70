use Rattle.std.proofs.Common.{◌≡◌, length}
use Rattle.std.specs.Prelude.{IsTrue}
use Rattle.std.specs.List.{list_all}
use Rattle.std.specs.Option.{option_map}
use Rattle.spe_model.specs.Page.{placed_all, is_within}
use Rattle.spe_format.specs.Layout.{is_span}
use Rattle.spe_format.proofs.PageLemmas.{behind}
use Rattle.spe_format.proofs.layout.spans_of.Given as goal

abbrev pub invariant-loop-left : goal.invariant-loop-left
invariant-loop-left l = record {
  within : IsTrue (list_all (is_within 0 (length l.page)) l.left);
  found : behind l.spans.items (option_map (λ x. x.1) (placed_all l.kind (length l.page) l.page l.left)) ≡ option_map (λ x. x.1) (placed_all l.kind (length l.page) l.page l.fn.offsets);
  inside : IsTrue (list_all (is_span (length l.page)) l.spans.items);
}

abbrev pub decreases-loop-left : goal.decreases-loop-left
decreases-loop-left l = length l.left
