use Rattle.std.proofs.Common.{◌≡◌, ◌≤◌, ◌∙◌, ap, arith, sym, refl, length}
use Rattle.std.proofs.lemmas.Int.{to_z-of_z}
use Rattle.std.specs.Int.{w64}
use Rattle.spe_model.specs.Tree.{rank}
use Rattle.spe_format.specs.Packed.{IsSpelled}
use Rattle.spe_format.specs.View.{cell_seen}
use Rattle.spe_format.proofs.SlotLemmas.{cell_at}
use Rattle.spe_format.proofs.slot.rank_between.Goals as goal

pub returns : goal.returns
returns c =
    let page = c.args.page.now in
    let parts = c.in_ok-parts.parts in
    let is : IsSpelled (length page) c.split_at.result.1.now (cell_seen parts) c.in_ok-parts.rest.now = c.in_ok-parts.ensures in
    cell_at page c.split_at.result.1.now c.in_ok-parts.rest.now c.args.begin c.args.end (length page) c.rank_of.result (cell_seen parts) refl
    (omega (arith, c.if-begin-end.false)) c.requires.within c.split_at.ensures.back c.if-page-rest.false
    (ap rank (sym (to_z-of_z w64 parts.key is.range.key)) ∙ sym c.rank_of.ensures) is
