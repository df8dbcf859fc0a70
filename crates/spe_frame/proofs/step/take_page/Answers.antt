use Rattle.std.proofs.Common.{ℕ, ◌*◌, ◌^◌, ◌<◌, ◌≤◌, arith, inr}
use Rattle.std.proofs.Math.Nat.{mul-le-mul_left}
use Rattle.spe_frame.proofs.StepLemmas.{alloc_shifts, alloc_spares, count_named}
use Rattle.spe_frame.proofs.step.take_page.Goals as goal

-- pages of 512 bytes at least that take 2^30 at most are fewer than 2^32
few_pages : (count limit size : ℕ) → count ≤ limit → 512 ≤ size → limit * size ≤ 2 ^ 30 → count < 2 ^ 32
few_pages count limit size under least most = let e = mul-le-mul_left limit least in omega (arith, e)

pub returns-in-Err-clause-spares : goal.returns-in-Err-clause-spares
returns-in-Err-clause-spares g c = λ pages agrees ready held.
    let alloc = c.in-Err.ensures in
    let t = c.alloc.new.self in
    let within = g.met.S.Pages.within t in
    let bounded = g.met.S.Pages.bounded t in
    alloc_spares g.S.Pages c.args.space.now t pages ready alloc.kept (alloc.seen pages agrees ready.stands) (alloc.laid pages agrees ready.stands) (alloc.front pages agrees ready.stands)
    (λ laid. count_named g.S.Pages c.args.space.now t pages (g.met.S.Pages.named t pages agrees (alloc.stands pages agrees ready.stands) (g.met.S.Pages.settled t (inr laid))) within alloc.kept
    (few_pages (g.S.Pages.count t) (g.S.Pages.limit t) (g.S.Pages.size t) within.1 bounded.0 bounded.1))

pub returns-in-Err-clause-likely : goal.returns-in-Err-clause-likely
returns-in-Err-clause-likely g c = λ pages agrees ready held writable. c.in-Err.ensures.sure writable pages agrees ready.stands

pub returns-clause-spares : goal.returns-clause-spares
returns-clause-spares g c = λ pages agrees ready held.
    let alloc = c.in-Ok.ensures in
    let t = c.alloc.new.self in
    let within = g.met.S.Pages.within t in
    let bounded = g.met.S.Pages.bounded t in
    alloc_spares g.S.Pages c.args.space.now t pages ready alloc.kept (alloc.seen pages agrees ready.stands) (alloc.laid pages agrees ready.stands) (alloc.front pages agrees ready.stands)
    (λ laid. count_named g.S.Pages c.args.space.now t pages (g.met.S.Pages.named t pages agrees (alloc.stands pages agrees ready.stands) (g.met.S.Pages.settled t (inr laid))) within alloc.kept
    (few_pages (g.S.Pages.count t) (g.S.Pages.limit t) (g.S.Pages.size t) within.1 bounded.0 bounded.1))

pub returns-clause-shifts : goal.returns-clause-shifts
returns-clause-shifts g c = λ pages agrees ready held.
    let alloc = c.in-Ok.ensures in
    let s = c.args.space.now in
    let t = c.alloc.new.self in
    let within = g.met.S.Pages.within t in
    let bounded = g.met.S.Pages.bounded t in
    alloc_shifts g.S.Pages s t pages c.in-Ok.page (g.S.PageSpace.next_free s pages) ready (g.met.S.Pages.placed s pages ready.stands) (g.met.S.Pages.within s).0
    (few_pages (g.S.Pages.count t) (g.S.Pages.limit t) (g.S.Pages.size t) within.1 bounded.0 bounded.1)
    (alloc.next pages agrees) (alloc.ok pages agrees ready.stands) (alloc.stands pages agrees ready.stands) (returns-clause-spares g c pages agrees ready held)
