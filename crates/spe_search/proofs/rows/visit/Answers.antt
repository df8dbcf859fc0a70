use Rattle.std.proofs.Common.{map}
use Rattle.spe_space.specs.Calls.{sight}
use Rattle.spe_search.specs.Pairs.{pair_seen}
use Rattle.spe_search.proofs.LeavesLemmas.{joins_visit}
use Rattle.spe_search.proofs.StepLemmas.{legal_same, shown_same, visit_of, visit_cause}
use Rattle.spe_search.proofs.AddsLemmas.{visit_adds}
use Rattle.spe_search.proofs.MissLemmas.{misses_visit}
use Rattle.spe_search.proofs.rows.visit.Goals as goal

pub returns-clause-visits : goal.returns-clause-visits
returns-clause-visits g c = λ pages agrees.
    let space = c.args.space.now in
    let bytes = c.in_ok-get.ensures.ok pages (c.look.ensures.kept.earlier pages agrees) in
    visit_of (g.S.Pages.used space) (sight g.S.Pages space pages) c.args.page c.args.low c.args.high c.in-Ok.view (map pair_seen c.args.out.now) (map pair_seen c.look.new.out) c.look.result
    (legal_same _ _ _ _ _ _ c.in-Ok.view c.usable-usable.ensures.value bytes c.header_of.ensures.value c.in-Ok.ensures.legal)
    (λ kind cells e a b. rw (c.in_ok-get.ensures.used, c.in_ok-get.ensures.laid) at (c.look.ensures.leaf kind pages agrees cells e a b))
    c.look.ensures.interior

pub returns-clause-damage : goal.returns-clause-damage
returns-clause-damage g c = λ pages agrees.
    let space = c.args.space.now in
    let bytes = c.in_ok-get.ensures.ok pages (c.look.ensures.kept.earlier pages agrees) in
    visit_cause (g.S.Pages.used space) (sight g.S.Pages space pages) c.args.page c.in-Ok.view c.look.result
    (legal_same _ _ _ _ _ _ c.in-Ok.view c.usable-usable.ensures.value bytes c.header_of.ensures.value c.in-Ok.ensures.legal)
    (shown_same _ _ _ _ _ _ c.in-Ok.view c.usable-usable.ensures.value bytes c.header_of.ensures.value c.in-Ok.ensures.shown)
    (rw (c.in_ok-get.ensures.used, c.in_ok-get.ensures.laid) at (c.look.ensures.damage pages agrees))

pub returns-clause-adds : goal.returns-clause-adds
returns-clause-adds g c =
    visit_adds g.S.Pages c.args.space.now c.get.new.self c.look.new.space c.args.page c.args.low c.args.high c.in-Ok.view c.in_ok-get.ensures.used c.in_ok-get.ensures.laid c.in_ok-get.ensures.only
    (λ pages agrees. legal_same _ _ _ _ _ _ c.in-Ok.view c.usable-usable.ensures.value (c.in_ok-get.ensures.ok pages (c.look.ensures.kept.earlier pages agrees)) c.header_of.ensures.value c.in-Ok.ensures.legal)
    (λ pages agrees. shown_same _ _ _ _ _ _ c.in-Ok.view c.usable-usable.ensures.value (c.in_ok-get.ensures.ok pages (c.look.ensures.kept.earlier pages agrees)) c.header_of.ensures.value c.in-Ok.ensures.shown)
    c.look.ensures.adds

pub returns-clause-page_out : goal.returns-clause-page_out
returns-clause-page_out g c =
    misses_visit g.S.Pages c.args.space.now c.get.new.self c.look.new.space c.args.page c.args.low c.args.high c.in-Ok.view c.look.result c.in_ok-get.ensures.used c.in_ok-get.ensures.laid
    (λ pages agrees. legal_same _ _ _ _ _ _ c.in-Ok.view c.usable-usable.ensures.value (c.in_ok-get.ensures.ok pages (c.look.ensures.kept.earlier pages agrees)) c.header_of.ensures.value c.in-Ok.ensures.legal)
    (λ pages agrees. shown_same _ _ _ _ _ _ c.in-Ok.view c.usable-usable.ensures.value (c.in_ok-get.ensures.ok pages (c.look.ensures.kept.earlier pages agrees)) c.header_of.ensures.value c.in-Ok.ensures.shown)
    c.look.ensures.page_out

pub returns-clause-leaves : goal.returns-clause-leaves
returns-clause-leaves g c =
    joins_visit g.S.Pages c.args.space.now c.get.new.self c.look.new.space c.args.page c.in-Ok.view c.args.out.now c.look.new.out c.look.result c.in_ok-get.ensures.used c.in_ok-get.ensures.laid
    (λ pages agrees. shown_same _ _ _ _ _ _ c.in-Ok.view c.usable-usable.ensures.value (c.in_ok-get.ensures.ok pages (c.look.ensures.kept.earlier pages agrees)) c.header_of.ensures.value c.in-Ok.ensures.shown)
    c.look.ensures.taken c.look.ensures.none
