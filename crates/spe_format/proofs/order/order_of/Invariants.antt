use Rattle.std.proofs.Common.{◌≡◌, length}
use Rattle.std.specs.Prelude.{IsTrue}
use Rattle.std.specs.List.{list_all}
use Rattle.std.specs.Option.{option_map}
use Rattle.spe_model.specs.Page.{numbers, placed_all, is_within}
use Rattle.spe_format.specs.Order.{order_of, seen_behind}
use Rattle.spe_format.proofs.order.order_of.Given as goal

abbrev pub invariant-loop-left : goal.invariant-loop-left
invariant-loop-left l = record {
  within : IsTrue (list_all (is_within 0 (length l.page)) (numbers l.left));
  found : option_map (seen_behind l.order l.last) (placed_all l.kind (length l.page) l.page (numbers l.left))
      ≡ option_map order_of (placed_all l.kind (length l.page) l.page (numbers l.fn.array));
}

abbrev pub decreases-loop-left : goal.decreases-loop-left
decreases-loop-left l = length l.left
