use Rattle.std.proofs.Common.{subst, sym, inl, inr, List, ℕ}
use Rattle.spe_space.specs.Front.{KeepsFront}
use Rattle.spe_store.specs.Event.{seen_in}
use Rattle.spe_session.proofs.FrontLemmas.{keeps_fronted}
use Rattle.spe_session.proofs.PageLemmas.{first_shown}
use Rattle.spe_session.proofs.pager.Pager.may_be_first.Goals as goal

pub returns-then-keeps_front-clause-spoils : goal.returns-then-keeps_front-clause-spoils
returns-then-keeps_front-clause-spoils g c = λ is. inr (inr (λ fits. c.has_header.ensures.spoilt is fits.0 fits.1))

pub returns-else-keeps_front-clause-spoils : goal.returns-else-keeps_front-clause-spoils
returns-else-keeps_front-clause-spoils g c = λ is.
    let s = c.args.self.now in
    let shown = first_shown s.store.count s.pages s.size s.dirty s.clean (seen_in s.pass.done s.pass.id) c.in-Some.front.now s.seen s.some c.in-Some.ensures in
    inr (inl (λ pages agrees keeps. c.keeps_front.ensures.spoils is (subst (λ (xs : List ℕ). KeepsFront xs c.args.bytes.now) (sym (shown pages agrees)) keeps)))

pub returns-then-keeps_front-clause-front : goal.returns-then-keeps_front-clause-front
returns-then-keeps_front-clause-front g c = λ _.
    let s = c.args.self.now in
    keeps_fronted s.dirty s.clean c.in-Some.front.now c.args.bytes.now s.fronted c.in-Some.ensures (c.keeps_front.ensures.keeps c.if-keeps_front.true)
