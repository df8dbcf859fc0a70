use Rattle.std.proofs.Common.{[], ◌∷◌, ◌∙◌, refl, arith, to_z-of_z}
use Rattle.spe_format.specs.View.{cell_seen}
use Rattle.spe_space.specs.Calls.{sight}
use Rattle.spe_search.proofs.TakingLemmas.{cell_fault, cell_taken, hands_none, local_whole}
use Rattle.spe_search.proofs.each.hand_row.Goals as goal

pub returns-then-is_local-clause-rows : goal.returns-then-is_local-clause-rows
returns-then-is_local-clause-rows g c = record {
  rows = _ ∷ [];
  taken = c.take.ensures;
  are = cell_taken g.S.Pages c.args.space.now c.args.space.now c.args.page (cell_seen c.args.parts.now) c.take.result _ refl (grind (arith, to_z-of_z))
      (λ pages agrees chain. local_whole (g.S.Pages.used c.args.space.now) (sight g.S.Pages c.args.space.now pages) (cell_seen c.args.parts.now) (c.is_local.ensures c.if-is_local.true) chain);
}

pub returns-in-Err-clause-rows : goal.returns-in-Err-clause-rows
returns-in-Err-clause-rows g c =
    hands_none g.T.RowTaker g.met.T.RowTaker.none c.args.taker.now c.args.out.now c.in-Err.fault _
    (cell_fault g.S.Pages c.args.space.now c.gather.new.space c.args.page (cell_seen c.args.parts.now) c.in-Err.fault c.gather.new.gathered.bytes.items c.in-Err.ensures.whole)

pub returns-clause-rows : goal.returns-clause-rows
returns-clause-rows g c = record {
  rows = _ ∷ [];
  taken = c.take-2.ensures;
  are = cell_taken g.S.Pages c.args.space.now c.gather.new.space c.args.page (cell_seen c.args.parts.now) c.take-2.result _ refl (grind (arith, to_z-of_z))
      (λ pages agrees chain. c.as_slice.ensures.value ∙ c.in-Ok.ensures.whole pages agrees chain);
}
