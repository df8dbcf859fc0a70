use Rattle.std.proofs.Common.{rules, subst, sym, ap, ◌∙◌}
use Rattle.spe_session.specs.Pages.{IsShown, laid_in}
use Rattle.spe_store.specs.Event.{seen_in}
use Rattle.spe_session.specs.Pages.{HasFrontOf, bytes_at}
use Rattle.spe_session.proofs.FrontLemmas.{clean_front, put_front}
use Rattle.spe_session.proofs.PageLemmas.{clean_shown}
use Rattle.spe_session.proofs.pager.Pager.copy_kept.Goals as goal

pub returns-in-Some-get-clause-shown : goal.returns-in-Some-get-clause-shown
returns-in-Some-get-clause-shown g c = λ is.
    let s = c.args.self.now in
    subst (IsShown (seen_in s.pass.done s.pass.id) (laid_in s.store.count s.pages s.size s.dirty) c.args.page) (sym c.copy_from_slice-in-Some-get.ensures.after)
    (clean_shown s.store.count s.pages s.size s.dirty s.clean (seen_in s.pass.done s.pass.id) c.args.page c.in-Some-get.bytes.now s.seen (search rules) (search rules) c.in-Some-get.ensures)

pub returns-in-Some-clause-front : goal.returns-in-Some-clause-front
returns-in-Some-clause-front g c = λ _ e.
    let s = c.args.self.now in
    subst (HasFrontOf s.clean) (sym c.copy_from_slice.ensures.after) (put_front s.dirty s.clean c.in-Some.bytes.now s.fronted (ap (bytes_at s.dirty) (sym e) ∙ c.in-Some.ensures))

pub returns-in-Some-get-clause-front : goal.returns-in-Some-get-clause-front
returns-in-Some-get-clause-front g c = λ _ e.
    let s = c.args.self.now in
    subst (HasFrontOf s.clean) (sym c.copy_from_slice-in-Some-get.ensures.after) (clean_front s.clean c.in-Some-get.bytes.now (ap (bytes_at s.clean) (sym e) ∙ c.in-Some-get.ensures))
