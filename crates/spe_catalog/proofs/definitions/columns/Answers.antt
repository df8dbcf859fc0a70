use Rattle.std.proofs.Common.{sym, ◌∙◌}
use Rattle.spe_catalog.specs.Miss.{FindsDeclared}
use Rattle.spe_catalog.specs.Columns.{all_columns}
use Rattle.spe_catalog.proofs.PassedLemmas.{handed_on}
use Rattle.spe_catalog.proofs.ColumnsLemmas.{columns_end, columns_more, misses_comma}
use Rattle.spe_catalog.proofs.definitions.columns.Goals as goal

pub returns-then-is_end : goal.returns-then-is_end
returns-then-is_end c =
    rw c.new.ensures
    (sym c.loop-most.invariant
    ∙ columns_end _ _ _ _ _ _ _ _ _ c.loop-most-test.true c.in_ok-next.ensures (sym (rw c.tokens.ensures at c.is_end.ensures) ∙ c.if-is_end.true) c.in_ok-alias.ensures
    c.in_ok-push.ensures.items)

pub loop-most-preserved : goal.loop-most-preserved
loop-most-preserved c =
    sym
    (columns_more _ _ _ _ _ _ _ _ _ _ c.loop-most-test.true c.in_ok-next.ensures (sym (rw c.tokens.ensures at c.is_end.ensures) ∙ c.if-is_end.false) c.in_ok-take_comma.ensures
    c.in_ok-alias.ensures c.in_ok-push.ensures.items)
    ∙ c.loop-most.invariant

pub returns-in_err-take_comma : goal.returns-in_err-take_comma
returns-in_err-take_comma c =
    rw (← c.loop-most.invariant)
    (handed_on (λ r. FindsDeclared (λ x. x) r (all_columns c.loop-most.columns.items c.loop-most.alias c.loop-most.most c.loop-most.left)) c.from_residual-in_err-take_comma.result
    c.in_err-take_comma.field-0.0 c.from_residual-in_err-take_comma.ensures.1
    (misses_comma _ _ _ _ _ _ _ _ c.loop-most-test.true c.in_ok-next.ensures (sym (rw c.tokens.ensures at c.is_end.ensures) ∙ c.if-is_end.false) c.in_err-take_comma.ensures))
