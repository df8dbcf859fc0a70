use Rattle.std.proofs.Common.{◌≡◌, ◌∙◌, ap, sym, subst, ℕ, ℤ, arith, to_z, of_z, w64, to_z-of_z, length}
use Rattle.std.specs.Prelude.{IfSome}
use Rattle.std.proofs.lemmas.List.{length-take-le}
use Rattle.spe_model.specs.Tree.{rank}
use Rattle.spe_format.specs.declared.slot.Slot.{Slot}
use Rattle.spe_format.specs.Packed.{IsSlotFor, IsSlotIn}
use Rattle.spe_format.proofs.PackedLemmas.{if_some, slot_lifted}
use Rattle.spe_format.proofs.slot.slot_for.Goals as goal

pub returns-clause-slot : goal.returns-clause-slot
returns-clause-slot c =
    let same : to_z w64 (of_z w64 c.args.rowid) ≡ c.args.rowid = grind (arith, to_z-of_z) in
    let key : c.rank_of.result ≡ rank c.args.rowid = c.rank_of.ensures ∙ ap rank same in
    if_some c.slot_in.result (IsSlotIn c.split_at.result.0.now c.args.at c.rank_of.result) (IsSlotFor c.args.page.now c.args.at c.args.usable (rank c.args.rowid))
    (λ slot is. subst (λ (k : ℕ). IsSlotFor c.args.page.now c.args.at c.args.usable k slot) key
    (slot_lifted c.args.page.now c.split_at.result.0.now c.args.at c.args.usable c.rank_of.result slot c.requires.high c.requires.inside c.split_at.ensures.front is))
    c.slot_in.ensures.slot
