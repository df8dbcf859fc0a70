use Rattle.std.proofs.Common.{◌∙◌, ℕ, ap}
use Rattle.spe_model.specs.Paging.{lay}
use Rattle.spe_space.specs.Front.{SpoilsFront}
use Rattle.spe_store.specs.Event.{seen_in}
use Rattle.spe_store.specs.Store.{Store}
use Rattle.spe_session.specs.Below.{below_of}
use Rattle.spe_session.specs.Lists.{is_listed}
use Rattle.spe_session.specs.Pages.{laid_in}
use Rattle.spe_session.proofs.StandLemmas.{corrupt_of, put_stands}
use Rattle.spe_session.proofs.paging.PagerPages.put.Goals as goal

pub returns-then-not-may_be_put-clause-corrupt : goal.returns-then-not-may_be_put-clause-corrupt
returns-then-not-may_be_put-clause-corrupt g c =
    let s = c.args.self.now in
    corrupt_of (λ (pages : ℕ). SpoilsFront (below_of g.N.Opening.opened s.store) (seen_in s.pass.done s.pass.id) (laid_in s.store.count s.pages s.size s.dirty) pages c.args.bytes.now)
    s.pages c.refuse-then-not-may_be_put.new.self.pages c.refuse-then-not-may_be_put.result c.refuse-then-not-may_be_put.ensures.fault c.refuse-then-not-may_be_put.ensures.pages (c.may_be_put.ensures.spoils c.if-not-may_be_put.true)

pub returns-clause-free : goal.returns-clause-free
returns-clause-free g c = λ pages agrees stood apart n.
    let s = c.args.self.now in
    let e = c.in_ok-lay.ensures in
    let both = put_stands s.usable g.K.Beginning.begun.first s.store.count s.pages s.size s.dirty c.lay.new.self.dirty pages stood c.args.page c.args.bytes.now e.ok (c.requires) s.range.1 (c.may_be_put.ensures.legal c.if-not-may_be_put.false) apart in
    ap (λ (count : ℕ). is_listed (lay (laid_in count c.lay.new.self.pages c.lay.new.self.size c.lay.new.self.dirty) pages) n) (ap (λ (t : Store). t.count) e.store)
    ∙ ap (λ (count : ℕ). is_listed (lay (laid_in s.store.count count c.lay.new.self.size c.lay.new.self.dirty) pages) n) e.pages
    ∙ ap (λ (size : ℕ). is_listed (lay (laid_in s.store.count s.pages size c.lay.new.self.dirty) pages) n) e.size
    ∙ both.1 n

pub returns-clause-stands : goal.returns-clause-stands
returns-clause-stands g c = λ pages agrees stood apart.
    let s = c.args.self.now in
    let e = c.in_ok-lay.ensures in
    let both = put_stands s.usable g.K.Beginning.begun.first s.store.count s.pages s.size s.dirty c.lay.new.self.dirty pages stood c.args.page c.args.bytes.now e.ok (c.requires) s.range.1 (c.may_be_put.ensures.legal c.if-not-may_be_put.false) apart in
    rw (e.store, e.pages, e.size, e.usable) both.0
