use Rattle.std.proofs.Common.{◌∙◌, ap, sym, refl}
use Rattle.spe_model.specs.Recovery.{file_page}
use Rattle.spe_core.specs.Changed.{with_read}
use Rattle.spe_core.specs.Parts.{state_of}
use Rattle.spe_core.proofs.StepLemmas.{update_is}
use Rattle.spe_core.proofs.work.read.Goals as goal

pub returns-then-has_read-clause-ok : goal.returns-then-has_read-clause-ok
returns-then-has_read-clause-ok c =
    let s = state_of c.args.parts.now in
    let same = c.has_read.ensures.stays c.if-has_read.true (file_page s.content c.args.page) in
    record { state = sym (update_is s c.args.id (with_read c.args.page (file_page s.content c.args.page)) ∙ ap (λ live. record s { live = live }) same); pages = refl }
