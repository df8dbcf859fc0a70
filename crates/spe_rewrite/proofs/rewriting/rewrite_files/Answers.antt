use Rattle.std.proofs.Common.{◌%◌, ◌^◌}
use Rattle.spe_model.specs.Recovery.{file_page}
use Rattle.spe_rewrite.specs.Rewrite.{rewrite_of}
use Rattle.spe_rewrite.proofs.ClauseLemmas.{whole_cut}
use Rattle.spe_rewrite.proofs.rewriting.rewrite_files.Goals as goal

pub returns-clause-cut : goal.returns-clause-cut
returns-clause-cut g c =
    whole_cut (g.D.Disk.told c.args.disk.now) _ (λ content. rewrite_of (file_page content) c.args.page_size c.args.count (c.args.made % 2 ^ 32) c.args.changes.now) c.in_ok-rewrite_with.ensures.made
