use Rattle.spe_recover.proofs.CutLemmas.{OnErr-any}
use Rattle.spe_recover.proofs.HeadLemmas.{any_told}
use Rattle.spe_recover.proofs.StopLemmas.{nothing_made}
use Rattle.spe_recover.proofs.WrittenLemmas.{none_made, some_made, some_stopped}
use Rattle.spe_recover.specs.Written.{all_of}
use Rattle.spe_model.specs.Rollback.{rule_of}
use Rattle.spe_recover.proofs.write_back.write_back.Goals as goal

pub returns-then-not-any_length-clause-made : goal.returns-then-not-any_length-clause-made
returns-then-not-any_length-clause-made g c =
    none_made (g.D.Disk.told c.args.disk.now) c.args.survey.now.pages
    (any_told (g.D.Disk.told c.args.disk.now) c.args.survey.now.page_size c.args.heads.now _ _ c.if-not-any_length.true c.any_length.ensures.any c.requires.heads)

pub returns-in_err-buf-clause-stopped : goal.returns-in_err-buf-clause-stopped
returns-in_err-buf-clause-stopped g c = OnErr-any c.from_residual.result (nothing_made (g.D.Disk.told c.args.disk.now) (λ content. rule_of content c.args.survey.now.pages))

pub returns-in_err-write_files-clause-stopped : goal.returns-in_err-write_files-clause-stopped
returns-in_err-write_files-clause-stopped g c =
    OnErr-any c.from_residual-in_err-write_files.result
    (some_stopped (g.D.Disk.told c.args.disk.now) _ c.args.survey.now.pages
    (any_told (g.D.Disk.told c.args.disk.now) c.args.survey.now.page_size c.args.heads.now _ _ c.if-not-any_length.false c.any_length.ensures.any c.requires.heads)
    c.in_err-write_files.ensures.stopped)

pub returns-clause-made : goal.returns-clause-made
returns-clause-made g c =
    some_made (g.D.Disk.told c.args.disk.now) _ c.args.survey.now.pages _
    (any_told (g.D.Disk.told c.args.disk.now) c.args.survey.now.page_size c.args.heads.now _ _ c.if-not-any_length.false c.any_length.ensures.any c.requires.heads)
    c.in_ok-write_files.ensures.made
