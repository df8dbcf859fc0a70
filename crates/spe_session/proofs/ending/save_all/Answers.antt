use Rattle.std.proofs.Common.{◌∙◌, ℕ, ap, subst, sym}
use Rattle.spe_store.specs.Pass.{Pass}
use Rattle.spe_session.specs.Alone.{IsAlone}
use Rattle.spe_session.specs.Ending.{FailsEnd}
use Rattle.spe_session.specs.Working.{ReadsFrom}
use Rattle.spe_session.proofs.WorkingLemmas.{carries_saved, fails_later}
use Rattle.spe_session.proofs.ending.save_all.Goals as goal

pub drop_saved-requires-clause-alone : goal.drop_saved-requires-clause-alone
drop_saved-requires-clause-alone g c =
    let opened = ap (λ (p : Pass). p.id) c.in-Ok.ensures.done.pass in
    let carries = carries_saved c.args.pass.now.id c.open_journal.new.pass.id c.args.store.now.events c.open_journal.new.self.events c.save_pages.new.store.events c.in-Ok.ensures.done.events opened c.save_pages.ensures.saves in
    subst (IsAlone c.save_pages.new.store.events) (sym (c.save_pages.ensures.id ∙ opened)) (carries.alone c.requires.alone)

pub returns-in-Ok-save_pages-clause-carries : goal.returns-in-Ok-save_pages-clause-carries
returns-in-Ok-save_pages-clause-carries g c =
    let opened = ap (λ (p : Pass). p.id) c.in-Ok.ensures.done.pass in
    carries_saved c.args.pass.now.id c.open_journal.new.pass.id c.args.store.now.events c.open_journal.new.self.events c.save_pages.new.store.events c.in-Ok.ensures.done.events opened c.save_pages.ensures.saves

pub returns-in-Err-save_pages-clause-fails : goal.returns-in-Err-save_pages-clause-fails
returns-in-Err-save_pages-clause-fails g c =
    let id = c.args.pass.now.id in
    let opened = ap (λ (p : Pass). p.id) c.in-Ok.ensures.done.pass in
    let carries = carries_saved id c.open_journal.new.pass.id c.args.store.now.events c.open_journal.new.self.events c.save_pages.new.store.events c.in-Ok.ensures.done.events opened c.save_pages.ensures.saves in
    fails_later id c.args.store.now c.save_pages.new.store c.drop_saved.new.store carries (c.save_pages.ensures.sized ∙ c.in-Ok.ensures.done.sized)
    (subst (λ (n : ℕ). FailsEnd n c.save_pages.new.store c.drop_saved.new.store) (c.save_pages.ensures.id ∙ opened) c.drop_saved.ensures.fails)

pub returns-in-Err-save_pages-clause-reads : goal.returns-in-Err-save_pages-clause-reads
returns-in-Err-save_pages-clause-reads g c =
    c.drop_saved.ensures.reads c.args.store.now.desk.reads
    (subst (λ (n : ℕ). ReadsFrom n c.save_pages.new.store.desk.reads c.in-Err-save_pages.fault) c.in-Ok.ensures.made.reads c.in-Err-save_pages.ensures.reads)
