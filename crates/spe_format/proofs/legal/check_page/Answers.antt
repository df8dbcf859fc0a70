use Rattle.std.proofs.Common.{◌∙◌, ◌+◌, ◌*◌, length, sym, subst}
use Rattle.std.specs.Prelude.{slice_range}
use Rattle.spe_model.specs.Page.{numbers}
use Rattle.spe_format.specs.Answers.{GivesPage}
use Rattle.spe_format.proofs.LegalLemmas.{legality_page}
use Rattle.spe_format.proofs.PageLemmas.{within_zero}
use Rattle.spe_format.proofs.legal.check_page.Goals as goal

pub check_cells-requires-clause-within : goal.check_cells-requires-clause-within
check_cells-requires-clause-within c =
    within_zero (c.array_start_of-start.result + 2 * c.from.result) (length c.args.page.now)
    (numbers (slice_range c.args.page.now c.array_start_of-start.result (c.array_start_of-start.result + 2 * c.from.result)))
    (sym c.are_within.ensures ∙ c.if-not-are_within.false)

pub returns : goal.returns
returns c =
    subst (GivesPage c.check_cells.result)
    (sym
    (legality_page c.in-Some.kind c.args.page.now c.args.at c.array_start_of-start.result c.from.result (sym c.kind_named.ensures ∙ c.in-Some.is) c.array_start_of-start.ensures
    (c.from.ensures ∙ c.u16_of.ensures) c.if-end-page.false (sym c.are_within.ensures ∙ c.if-not-are_within.false)))
    c.check_cells.ensures
