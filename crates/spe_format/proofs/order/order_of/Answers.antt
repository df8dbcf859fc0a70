use Rattle.std.proofs.Common.{◌≡◌, ℕ, ◌∷◌}
use Rattle.std.proofs.Common.{drop, sym, ap, ◌∙◌}
use Rattle.std.proofs.lemmas.List.{take_rest}
use Rattle.spe_model.specs.Page.{numbers}
use Rattle.spe_format.proofs.OrderLemmas.{and_right, turn, split_two}
use Rattle.spe_format.proofs.order.order_of.Goals as goal

pub loop-left-preserved : goal.loop-left-preserved
loop-left-preserved c =
    let split : numbers c.loop-left.left.now ≡ c.from-in-len2-up-left.result ∷ numbers (drop 2 c.loop-left.left.now)
    = split_two c.loop-left.left.now c.in-len2-up-left.len_at_least ∙ ap (λ (o : ℕ). o ∷ numbers (drop 2 c.loop-left.left.now)) (sym (c.from-in-len2-up-left.ensures ∙ c.read_u16-in-len2-up-left.ensures)) in
    let within = rw split at c.loop-left.invariant.within in
    let found = rw split at c.loop-left.invariant.found in
    record {
      within = rw take_rest (and_right _ _ within);
      found = rw (take_rest, c.with_place-order.ensures, c.least_of-last.ensures) (turn c.args.kind _ _ _ _ c.loop-left.order c.loop-left.last c.in_ok-next.next _ (sym c.place_of-in-len2-up-left.ensures ∙ c.in_ok-next.was) found);
    }
