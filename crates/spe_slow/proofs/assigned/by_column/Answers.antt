use Rattle.std.proofs.Common.{length}
use Rattle.std.specs.Option.{option_copied}
use Rattle.spe_model.specs.declared.naming.Named.TheVariants as named
use Rattle.spe_model.specs.Assigned.{assignments, given_to}
use Rattle.spe_slow.proofs.PushLemmas.{push_mapped, push_end}
use Rattle.spe_slow.proofs.assigned.by_column.Goals as goal

pub loop-place-preserved : goal.loop-place-preserved
loop-place-preserved c =
    let within = rw c.as_slice-place-end.ensures at c.loop-place-test.true in
    rw c.in_ok-push.ensures.items
    (push_mapped option_copied (λ place. given_to (named.Column place) (assignments c.args.table.now c.args.statement.now)) c.loop-place.found.items c.given_to.result c.loop-place.place (length c.args.table.now.columns) _ within c.given_to.ensures c.loop-place.invariant)

pub returns : goal.returns
returns c =
    let past = rw c.as_slice-place-end.ensures at c.loop-place-test.false in
    push_end (λ place. given_to (named.Column place) (assignments c.args.table.now c.args.statement.now)) _ c.loop-place.place (length c.args.table.now.columns) _ past c.loop-place.invariant
