use Rattle.spe_mend.proofs.ChildLemmas.{pair_has_child}
use Rattle.spe_mend.proofs.FilledLemmas.{filled_beside}
use Rattle.spe_mend.proofs.MendedLemmas.{pair_becomes, pair_of_run}
use Rattle.spe_mend.proofs.StretchLemmas.{pair_stands}
use Rattle.spe_mend.proofs.stretch.pair_law.Goals as goal

pub returns-clause-stands : goal.returns-clause-stands
returns-clause-stands c = pair_stands

pub returns-clause-pair : goal.returns-clause-pair
returns-clause-pair c = pair_of_run c.stretch_law.ensures.stretch

pub returns-clause-becomes : goal.returns-clause-becomes
returns-clause-becomes c = pair_becomes c.stretch_law.ensures.becomes

pub returns-clause-filled : goal.returns-clause-filled
returns-clause-filled c = filled_beside c.root_law.ensures.stays

pub returns-clause-child : goal.returns-clause-child
returns-clause-child c = pair_has_child
