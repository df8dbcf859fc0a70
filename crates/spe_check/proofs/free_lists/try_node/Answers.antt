use Rattle.spe_check.specs.MetPages.{has_met}
use Rattle.spe_check.proofs.FreeLemmas.{names_are, node_lists, node_meets, node_halt}
use Rattle.spe_check.proofs.ShownLemmas.{shows_before}
use Rattle.spe_check.proofs.free_lists.try_node.Goals as goal

pub returns-in-Err-clause-tried : goal.returns-in-Err-clause-tried
returns-in-Err-clause-tried g c = λ usable pages shows. (
  node_meets usable c.args.met.now.pages pages (has_met c.args.met.now) (has_met c.get_met.new.met) c.args.node c.in-Err.halt (c.in-Err.ensures.tried usable pages shows).0,
  tt,
)

pub returns-in-Err-try_rule-clause-tried : goal.returns-in-Err-try_rule-clause-tried
returns-in-Err-try_rule-clause-tried g c = λ usable pages shows.
    let got = c.in-Ok.ensures.tried usable pages shows in
    let names = names_are pages c.args.node _ _ c.names_in-names.result c.usable-usable.ensures.range.0 got.1 c.names_in-names.ensures in (
      node_halt usable c.args.met.now.pages pages (has_met c.args.met.now) (has_met c.get_met.new.met) c.args.node c.u32_of-count.result c.is_list_count.result c.names_in-names.result c.in-Err-try_rule.halt
          names c.u32_of-count.ensures c.is_list_count.ensures got.0 (c.in-Err-try_rule.ensures.tried c.args.met.now.pages (has_met c.get_met.new.met)),
      tt,
    )

pub returns-clause-tried : goal.returns-clause-tried
returns-clause-tried g c = λ usable pages shows.
    let got = c.in-Ok.ensures.tried usable pages (shows_before g.S.Pages c.get_met.new.space c.try_lists.new.space usable pages c.try_lists.ensures.walked.reads shows) in
    let names = names_are pages c.args.node _ _ c.names_in-names.result c.usable-usable.ensures.range.0 got.1 c.names_in-names.ensures in
    node_lists usable pages c.args.met.now c.get_met.new.met c.try_lists.new.met c.args.node c.u32_of-count.result c.is_list_count.result c.names_in-names.result c.try_lists.result
    c.in-Ok.ensures.walked.pages names c.u32_of-count.ensures c.is_list_count.ensures c.in-Ok-try_rule.ensures.kept got.0
    (c.in-Ok-try_rule.ensures.tried c.args.met.now.pages (has_met c.get_met.new.met)) (c.try_lists.ensures.tried usable pages shows)
