use Rattle.std.proofs.Common.{sym}
use Rattle.spe_catalog.proofs.ConstraintLemmas.{starts_null, starts_not, starts_asc, starts_key}
use Rattle.spe_catalog.proofs.constraint.constraint_at.Goals as goal

pub returns-in-Some : goal.returns-in-Some
returns-in-Some c = rw c.make_said.ensures (starts_null _ _ (sym c.in-Some.ensures.value))

pub returns-in-Some-after_mark : goal.returns-in-Some-after_mark
returns-in-Some-after_mark c =
    rw c.make_said-in-Some-after_mark.ensures (starts_not _ _ _ (sym c.in-Some-after_mark.ensures.value) (sym c.in_ok-after_mark.ensures.value))

pub returns-in-Some-after_mark-2 : goal.returns-in-Some-after_mark-2
returns-in-Some-after_mark-2 c =
    rw c.make_said-in-Some-after_mark-2.ensures
    (starts_asc _ _ _ _ (sym c.in_ok-rest.ensures.value) (sym c.in_ok-rest-2.ensures.value) (sym c.in-Some-after_mark-2.ensures.value))

pub returns-in-None : goal.returns-in-None
returns-in-None c =
    rw c.make_said-in-None.ensures (starts_key _ _ _ (sym c.in_ok-rest.ensures.value) (sym c.in_ok-rest-2.ensures.value) (sym c.in-None.ensures.value))
