use Rattle.std.proofs.Common.{refl, arith, sym, ◌∙◌}
use Rattle.spe_recover.proofs.SurveyLemmas.{counts_short, counts_whole}
use Rattle.spe_recover.proofs.survey.count_pages.Goals as goal

pub returns-then-not-are_held-clause-counts : goal.returns-then-not-are_held-clause-counts
returns-then-not-are_held-clause-counts c = λ content paged sized scanned.
    counts_short content c.args.page_size c.args.count c.args.seen.now paged (omega arith) (sym c.is_too_large.ensures ∙ c.if-is_too_large.false) scanned c.args.size sized
    (rw (c.if-not-are_held.true, c.from.ensures) at c.are_held.ensures)

pub returns-clause-counts : goal.returns-clause-counts
returns-clause-counts c = λ content paged sized scanned. (
  refl,
  counts_whole content c.args.page_size c.args.count c.args.seen.now paged (omega arith) (sym c.is_too_large.ensures ∙ c.if-is_too_large.false) scanned c.args.size sized
      (rw (c.if-not-are_held.false, c.from.ensures) at c.are_held.ensures),
)
