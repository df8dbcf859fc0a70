use Rattle.std.proofs.Common.{◌≡◌, length, drop}
use Rattle.spe_model.specs.Cell.{◌>>=◌}
use Rattle.spe_model.specs.Definition.{marks_at, said_by}
use Rattle.spe_catalog.specs.Constraint.{said_seen, joined}
use Rattle.spe_catalog.proofs.constraint.said_at.Given as goal

abbrev pub invariant-loop-left : goal.invariant-loop-left
invariant-loop-left l = record {
  says : said_by (marks_at l.fn.tokens) ≡ said_by (marks_at l.left) >>= joined (said_seen l.all);
  behind : drop (length (marks_at l.fn.tokens)) l.fn.tokens ≡ drop (length (marks_at l.left)) l.left;
}

abbrev pub decreases-loop-left : goal.decreases-loop-left
decreases-loop-left l = length l.left
