use Rattle.spe_convert.proofs.RefusalLemmas.{counts_read}
use Rattle.spe_convert.proofs.preparing.is_counted.Goals as goal

pub returns : goal.returns
returns c =
    counts_read c.args.page.now c.u32_of-pages.result c.u32_of-change.result c.u32_of-valid_for.result c.counts.result c.u32_of-pages.ensures c.u32_of-change.ensures c.u32_of-valid_for.ensures c.counts.ensures
