use Rattle.std.proofs.Common.{◌≤◌, arith}
use Rattle.spe_space.specs.Calls.{sight}
use Rattle.spe_check.specs.MetPages.{has_met}
use Rattle.spe_check.proofs.VerdictLemmas.{checked_broken, checked_sound, shows_sight}
use Rattle.spe_check.proofs.verdict.check.Goals as goal

pub returns-in-Ok-clause-verdict : goal.returns-in-Ok-clause-verdict
returns-in-Ok-clause-verdict g c = λ pages agrees legal.
    let usable = g.S.Pages.used c.args.space.now in
    let seen = sight g.S.Pages c.args.space.now pages in
    let shows = shows_sight g.S.Pages c.args.space.now c.try_all.new.space pages c.in-Ok.ensures.walked.reads agrees in
    let tried = c.in-Ok.ensures.tried usable seen shows legal in
    let narrow : c.args.pages ≤ 4294967295 = omega (arith, c.ranges.pages.fits) in
    checked_sound usable c.in_ok-walk.walk.met.pages c.args.pages seen (has_met c.in_ok-walk.walk.met) (has_met c.try_all.new.walk.met) c.args.header.now c.in-Ok.verdict
    c.counts_law.ensures.stands c.bounds_law.ensures.tables c.bounds_law.ensures.rows c.bounds_law.ensures.free
    c.in_ok-walk.ensures.pages c.in_ok-walk.ensures.none c.requires.used legal c.requires.few narrow tried.0 tried.1

pub returns-in-Err-Broken-clause-verdict : goal.returns-in-Err-Broken-clause-verdict
returns-in-Err-Broken-clause-verdict g c = λ pages agrees legal.
    let usable = g.S.Pages.used c.args.space.now in
    let seen = sight g.S.Pages c.args.space.now pages in
    let shows = shows_sight g.S.Pages c.args.space.now c.try_all.new.space pages c.in-Err-Broken.ensures.walked.reads agrees in
    let tried = c.in-Err-Broken.ensures.tried usable seen shows legal in
    checked_broken usable c.in_ok-walk.walk.met.pages c.args.pages c.in-Err-Broken.page c.in-Err-Broken.rule seen (has_met c.in_ok-walk.walk.met) (has_met c.try_all.new.walk.met) c.in-Err-Broken.field-0
    c.in_ok-walk.ensures.pages c.in_ok-walk.ensures.none c.in-Err-Broken.field-0-is tried.0
