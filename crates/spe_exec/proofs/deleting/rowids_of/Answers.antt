use Rattle.std.proofs.Common.{◌≡◌, ℤ, ◌∷◌, [], ◌++◌, refl, sym, ap, ◌∙◌, arith, to_z, of_z, w64, to_z-of_z}
use Rattle.spe_exec.proofs.DeletingLemmas.{list_bad, list_more}
use Rattle.spe_exec.proofs.RowsLemmas.{front_is}
use Rattle.spe_exec.proofs.deleting.rowids_of.Goals as goal

pub returns-in-None : goal.returns-in-None
returns-in-None c =
    rw c.damage_at.ensures
    (list_bad c.args.table.now c.args.pairs.now c.loop-left.left.now _ c.pair-item.result c.loop-left.made.items
    (front_is c.loop-left.left.now c.pair-item.result _ (omega (arith, c.in-len1-up.len_at_least)) c.pair-item.is refl)
    (sym c.in_ok-rowid.ensures ∙ c.in-None.is) c.loop-left.invariant)

pub loop-left-preserved : goal.loop-left-preserved
loop-left-preserved c =
    let rowid = c.in-Some.rowid in
    let one : to_z w64 (of_z w64 rowid) ≡ rowid = grind (arith, to_z-of_z) in
    list_more c.args.table.now c.args.pairs.now c.loop-left.left.now _ c.pair-item.result rowid c.loop-left.made.items c.push.new.self.items
    (front_is c.loop-left.left.now c.pair-item.result _ (omega (arith, c.in-len1-up.len_at_least)) c.pair-item.is refl)
    (sym c.in_ok-rowid.ensures ∙ c.in-Some.is) (c.in_ok-push-in-Some.ensures.items ∙ ap (λ (k : ℤ). c.loop-left.made.items ++ k ∷ []) one) c.loop-left.invariant
