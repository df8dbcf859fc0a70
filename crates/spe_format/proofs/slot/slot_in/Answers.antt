use Rattle.std.proofs.Common.{◌≡◌, ◌∙◌, refl}
use Rattle.spe_format.specs.Packed.{IsSlotIn}
use Rattle.spe_format.proofs.PackedLemmas.{slot_found, slot_within}
use Rattle.spe_format.proofs.slot.slot_in.Goals as goal

pub returns-clause-slot : goal.returns-clause-slot
returns-clause-slot c =
    slot_found c.args.page.now _ c.args.at c.from.result c.args.key c.in_ok-slot.slot refl c.if-stop-page.false (c.from.ensures ∙ c.u16_of.ensures) c.if-slot-stop.false c.if-page-at-ne13.false
    c.in_ok-slot.ensures

pub returns-clause-within : goal.returns-clause-within
returns-clause-within c = slot_within c.args.page.now c.args.at c.args.key c.in_ok-slot.slot (returns-clause-slot c)
