use Rattle.std.proofs.Common.{refl}
use Rattle.spe_space.specs.Calls.{sight}
use Rattle.spe_search.proofs.StepLemmas.{legal_same, shown_same}
use Rattle.spe_search.proofs.LastLemmas.{end_is, no_end}
use Rattle.spe_search.proofs.last.end_at.Goals as goal

pub returns-in-Some-clause-given : goal.returns-in-Some-clause-given
returns-in-Some-clause-given g c = λ pages agrees.
    end_is (g.S.Pages.used c.args.space.now) (sight g.S.Pages c.args.space.now pages) c.args.page c.in-Ok.view c.in-Some.end
    (legal_same _ _ _ _ _ _ c.in-Ok.view c.usable-usable.ensures.value (c.in_ok-get.ensures.ok pages agrees) c.header_of.ensures.value c.in-Ok.ensures.legal)
    (shown_same _ _ _ _ _ _ c.in-Ok.view c.usable-usable.ensures.value (c.in_ok-get.ensures.ok pages agrees) c.header_of.ensures.value c.in-Ok.ensures.shown)
    c.in-Some.ensures

pub returns-in-None-clause-given : goal.returns-in-None-clause-given
returns-in-None-clause-given g c = λ pages agrees. (
  refl,
  no_end (g.S.Pages.used c.args.space.now) (sight g.S.Pages c.args.space.now pages) c.args.page c.in-Ok.view
      (legal_same _ _ _ _ _ _ c.in-Ok.view c.usable-usable.ensures.value (c.in_ok-get.ensures.ok pages agrees) c.header_of.ensures.value c.in-Ok.ensures.legal)
      c.in-None.ensures,
)
