use Rattle.std.proofs.Common.{refl, sym, ◌∙◌, arith}
use Rattle.spe_search.specs.Pairs.{pair_seen}
use Rattle.spe_exec.proofs.RowsLemmas.{front_is, show_bad, show_found, show_missed}
use Rattle.spe_exec.proofs.select.show.Goals as goal

pub returns-in-None : goal.returns-in-None
returns-in-None c =
    rw c.damage_at.ensures
    (show_bad c.args.table.now c.args.all c.args.names.now c.args.pairs.now c.loop-left.left.now _ c.pair-item.result c.loop-left.shown.items
    (front_is c.loop-left.left.now c.pair-item.result _ (omega (arith, c.in-len1-up.len_at_least)) c.pair-item.is refl)
    (show_missed c.args.table.now c.args.all c.args.names.now (pair_seen c.pair-item.result) (sym c.in_ok-values.ensures ∙ c.in-None.is)) c.loop-left.invariant)

pub loop-left-preserved : goal.loop-left-preserved
loop-left-preserved c =
    show_found c.args.table.now c.args.all c.args.names.now c.args.pairs.now c.loop-left.left.now _ c.pair-item.result c.in-Some.values c.loop-left.shown.items c.push.new.self.items
    (front_is c.loop-left.left.now c.pair-item.result _ (omega (arith, c.in-len1-up.len_at_least)) c.pair-item.is refl)
    (sym c.in_ok-values.ensures ∙ c.in-Some.is) c.in_ok-push-in-Some.ensures.items c.loop-left.invariant
