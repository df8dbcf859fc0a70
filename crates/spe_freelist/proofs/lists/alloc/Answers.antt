use Rattle.std.proofs.Common.{◌≡◌, arith}
use Rattle.spe_model.specs.Paging.{Agrees, Paging}
use Rattle.spe_space.specs.Calls.{sight}
use Rattle.spe_freelist.specs.Steps.{IsDamaged}
use Rattle.spe_freelist.proofs.LaidLemmas.{first_low, front_of, full_of, laid_of}
use Rattle.spe_freelist.proofs.LikelyLemmas.{likely_take}
use Rattle.spe_freelist.proofs.PlaceLemmas.{stay_of, taken_of}
use Rattle.spe_freelist.proofs.StepLemmas.{few_pages}
use Rattle.spe_freelist.proofs.lists.alloc.Goals as goal

pub returns-clause-taken : goal.returns-clause-taken
returns-clause-taken g c = taken_of g.S.Pages c.args.space.now c.take.new.space c.args.first c.take.result c.take.ensures.used c.take.ensures.took

pub returns-clause-stay : goal.returns-clause-stay
returns-clause-stay g c =
    let t = c.take.new.space in
    let within = g.met.S.Pages.within t in
    let bounded = g.met.S.Pages.bounded t in
    stay_of g.S.Pages c.args.space.now t c.args.first c.take.result
    (few_pages (g.S.Pages.count t) (g.S.Pages.limit t) (g.S.Pages.size t) within.1 bounded.0 bounded.1) c.take.ensures.err

pub returns-clause-likely : goal.returns-clause-likely
returns-clause-likely g c =
    let t = c.take.new.space in
    let within = g.met.S.Pages.within t in
    let bounded = g.met.S.Pages.bounded t in
    likely_take g.S.Pages c.args.space.now t c.args.first c.take.result
    (few_pages (g.S.Pages.count t) (g.S.Pages.limit t) (g.S.Pages.size t) within.1 bounded.0 bounded.1) c.take.ensures.fault c.take.ensures.err

pub returns-clause-laid : goal.returns-clause-laid
returns-clause-laid g c = laid_of g.S.Pages c.args.space.now c.take.new.space c.args.first c.take.result c.take.ensures.took c.take.ensures.err

pub returns-clause-front : goal.returns-clause-front
returns-clause-front g c = front_of g.S.Pages c.args.space.now c.take.new.space c.args.first c.take.result c.take.ensures.took c.take.ensures.err

pub returns-clause-full : goal.returns-clause-full
returns-clause-full g c =
    full_of g.S.Pages c.args.space.now c.take.new.space c.args.first c.take.result
    (λ at. (pages : Paging) → Agrees pages (g.S.Pages.seen c.take.new.space) → IsDamaged (g.S.Pages.used c.args.space.now) (sight g.S.Pages c.args.space.now pages) c.args.first at)
    c.take.ensures.fault

pub returns-clause-named : goal.returns-clause-named
returns-clause-named g c = λ alone pages agrees stands place.
    let low = first_low g.S.Pages c.args.space.now pages c.args.first place in
    c.take.ensures.named alone (λ (e : c.args.first ≡ 1). absurd (omega (arith, e, low))) pages agrees stands
