use Rattle.std.proofs.Common.{◌∙◌, [], ◌∷◌, Result, ap, arith, sym, subst}
use Rattle.spe_model.specs.declared.page.PageCells.{PageCells}
use Rattle.spe_model.specs.declared.page.PageFault.{PageFault}
use Rattle.spe_model.specs.Paging.{Paging, lay}
use Rattle.spe_model.specs.Walk.{Names, Keeps, is_legal}
use Rattle.spe_model.specs.Tree.{node_at}
use Rattle.spe_check.specs.MetPages.{has_met}
use Rattle.spe_check.specs.Pages.{IsReading}
use Rattle.spe_check.proofs.TriesLemmas.{tries_halt}
use Rattle.spe_check.proofs.PageLemmas.{node_is, read_last, read_refuses}
use Rattle.spe_check.proofs.SortLemmas.{read_sort}
use Rattle.spe_check.proofs.page.read_met.Goals as goal

pub returns-in-Err-clause-tried : goal.returns-in-Err-clause-tried
returns-in-Err-clause-tried g c = λ usable pages shows. (
  tries_halt (Unit {0}) PageCells c.args.met.now.pages (has_met c.args.met.now) (has_met c.meet.new.self) (has_met c.meet.new.self)
      (Names c.args.holder c.args.page ∷ []) (Keeps c.args.page 3 (is_legal (node_at usable pages c.args.page)) ∷ []) c.in-Err.halt c.in-Err.ensures.tried,
  tt,
)

pub returns-clause-tried : goal.returns-clause-tried
returns-clause-tried g c = λ usable pages shows.
    let bytes = c.in_ok-get.ensures.ok shows.below shows.agrees ∙ ap (λ laid. lay laid shows.below c.args.page) (sym c.in_ok-get.ensures.laid)
    ∙ ap (λ (f : Paging). f c.args.page) (sym shows.is) in
    let size = c.usable-usable.ensures.value ∙ sym c.in_ok-get.ensures.used ∙ sym shows.used in
    let P : Result PageCells PageFault → Type 0 = λ reading. IsReading c.args.page reading c.node_in.result in
    read_last c.args.met.now.pages (has_met c.args.met.now) (has_met c.meet.new.self) usable pages c.args.holder c.args.page c.node_in.result c.in-Ok.ensures.tried
    (subst P (node_is usable _ _ pages c.args.page _ size c.header_of.ensures.value bytes) c.node_in.ensures)

pub returns-clause-sort : goal.returns-clause-sort
returns-clause-sort g c = λ usable pages shows.
    let bytes = c.in_ok-get.ensures.ok shows.below shows.agrees ∙ ap (λ laid. lay laid shows.below c.args.page) (sym c.in_ok-get.ensures.laid)
    ∙ ap (λ (f : Paging). f c.args.page) (sym shows.is) in
    let size = c.usable-usable.ensures.value ∙ sym c.in_ok-get.ensures.used ∙ sym shows.used in
    let P : Result PageCells PageFault → Type 0 = λ reading. IsReading c.args.page reading c.node_in.result in
    read_sort usable pages c.args.page c.node_in.result (omega (arith, size, c.usable-usable.ensures.range.0))
    (subst P (node_is usable _ _ pages c.args.page _ size c.header_of.ensures.value bytes) c.node_in.ensures)

pub returns-clause-refusal : goal.returns-clause-refusal
returns-clause-refusal g c = read_refuses g.S.Pages c.args.space.now c.get.new.self c.args.page _ c.node_in.result c.in_ok-get.ensures.refusal c.node_in.ensures
