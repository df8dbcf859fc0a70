use Rattle.std.proofs.Common.{◌≡◌, ◌<◌, ℕ, subst, sym, true}
use Rattle.spe_transactions.specs.Work.{Works, has_page}
use Rattle.spe_store.specs.Event.{journalled_in}
use Rattle.spe_session.specs.Working.{Writes}
use Rattle.spe_session.proofs.FrontLemmas.{no_zero}
use Rattle.spe_session.proofs.WorkingLemmas.{first_saved, writes_both}
use Rattle.spe_session.proofs.ending.write_all.Goals as goal

pub write_pages-requires-clause-numbered : goal.write_pages-requires-clause-numbered
write_pages-requires-clause-numbered g c = no_zero c.args.store.now.count c.args.pages c.args.dirty.now c.requires.numbered

pub write_added-requires-clause-first : goal.write_added-requires-clause-first
write_added-requires-clause-first g c = λ more.
    let s = c.args.store.now in
    let w = c.write_pages.ensures in
    let first = first_saved s.count c.args.pages c.args.dirty.now s.events c.args.pass.now.id c.requires.numbered c.requires.some c.requires.saved (subst (λ (n : ℕ). n < c.args.pages) w.counted more) in
    subst (λ (id : ℕ). has_page (journalled_in c.write_pages.new.store.events) id 1 ≡ true) (sym w.id)
    (subst (λ (works : Works). has_page works c.args.pass.now.id 1 ≡ true) (sym w.writes.journalled) first)

pub returns-in-Ok-clause-writes : goal.returns-in-Ok-clause-writes
returns-in-Ok-clause-writes g c =
    let id = c.args.pass.now.id in
    writes_both id c.args.store.now.events c.write_pages.new.store.events c.write_added.new.store.events c.write_pages.ensures.writes
    (subst (λ (n : ℕ). Writes n c.write_pages.new.store.events c.write_added.new.store.events) c.write_pages.ensures.id c.write_added.ensures.writes)
