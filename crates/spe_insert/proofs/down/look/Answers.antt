use Rattle.std.proofs.Common.{◌∙◌}
use Rattle.spe_insert.proofs.LookLemmas.{no_table}
use Rattle.spe_insert.proofs.down.look.Goals as goal

pub returns-in-Err-Broken-clause-likely : goal.returns-in-Err-Broken-clause-likely
returns-in-Err-Broken-clause-likely g c = λ pages agrees ready held height low high tree.
    absurd (no_table _ _ _ _ _ height low high c.args.page (c.usable-usable.ensures.value ∙ c.in-Ok.ensures.reads.used) c.header_of.ensures.value (c.in-Ok.ensures.bytes pages agrees) (rw c.in-Err-Broken.field-0-is at c.in-Err-Broken.ensures) tree)
