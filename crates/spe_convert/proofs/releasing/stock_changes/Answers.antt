use Rattle.spe_convert.proofs.AscendLemmas.{all_inside}
use Rattle.spe_convert.proofs.PlanLemmas.{stock_are}
use Rattle.spe_convert.specs.Reading.{usable_of}
use Rattle.spe_convert.proofs.releasing.stock_changes.Goals as goal

pub chain_changes-requires-clause-inside : goal.chain_changes-requires-clause-inside
chain_changes-requires-clause-inside g c = all_inside c.args.found.now.pages c.args.free.now c.requires.ascending

pub returns-in-Ok-chain_changes-clause-changes : goal.returns-in-Ok-chain_changes-clause-changes
returns-in-Ok-chain_changes-clause-changes g c =
    stock_are c.args.found.now.page_size (usable_of c.args.found.now) c.args.found.now.pages c.args.free.now c.in-Ok.front _ _ _ _ c.new-changes.ensures.items c.in_ok-push.ensures.items
    c.in-Ok.ensures.page c.in-Ok.ensures.sized c.requires.ascending c.in-Ok-chain_changes.ensures.numbers c.in-Ok-chain_changes.ensures.sized c.new.ensures
