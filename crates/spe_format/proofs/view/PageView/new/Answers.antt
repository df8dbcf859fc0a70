use Rattle.std.proofs.Common.{◌∙◌}
use Rattle.spe_format.proofs.ViewLemmas.{shown_legal, shown_fault}
use Rattle.spe_format.proofs.view.PageView.new.Goals as goal

pub returns-clause-legal : goal.returns-clause-legal
returns-clause-legal c = λ cells e. rw c.split_at.ensures.front at c.look.ensures ∙ shown_legal _ c.args.at cells e

pub returns-clause-fault : goal.returns-clause-fault
returns-clause-fault c = shown_fault _ c.args.at c.look.result (rw c.split_at.ensures.front at c.look.ensures)
