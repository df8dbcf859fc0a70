use Rattle.std.proofs.Common.{◌^◌, arith}
use Rattle.spe_session.proofs.CauseLemmas.{most_pages}
use Rattle.spe_session.proofs.FrontLemmas.{none_front, none_numbered}
use Rattle.spe_session.proofs.pager.Pager.over_pass.Goals as goal

pub invariant_of-result-clause-fronted : goal.invariant_of-result-clause-fronted
invariant_of-result-clause-fronted g c = none_front c.none-2.result c.none.result c.none-2.ensures

pub invariant_of-result-clause-numbered : goal.invariant_of-result-clause-numbered
invariant_of-result-clause-numbered g c = none_numbered c.args.store.count c.count-pages.result c.none-2.result c.none-2.ensures (omega (arith, c.count-pages.ensures))

pub invariant_of-result-clause-most : goal.invariant_of-result-clause-most
invariant_of-result-clause-most g c = most_pages (2 ^ 30) c.args.found.now.page_size (omega (arith, c.requires.limits.low))
