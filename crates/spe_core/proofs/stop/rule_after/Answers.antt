use Rattle.std.proofs.Common.{◌≤◌, sym, subst, length}
use Rattle.spe_model.specs.declared.file.FileNo.TheVariants.{Database}
use Rattle.spe_model.specs.Content.{Content, bytes_of}
use Rattle.spe_stored.proofs.FilesLemmas.{front_stays}
use Rattle.spe_core.proofs.stop.rule_after.Goals as goal

pub page_size-requires : goal.page_size-requires
page_size-requires c =
    subst (λ (content : Content). 100 ≤ length (bytes_of content Database)) (sym c.in_ok-write.ensures.ok)
    (front_stays c.args.files.now c.args.write.now.file c.args.write.now.at c.args.write.now.bytes c.requires)
