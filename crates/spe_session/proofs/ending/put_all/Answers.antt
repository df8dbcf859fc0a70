use Rattle.std.proofs.Common.{rules, ◌≡◌, ◌∙◌, ℕ, sym, subst, true}
use Rattle.std.specs.Prelude.{is_none}
use Rattle.spe_model.specs.Paging.{Given}
use Rattle.spe_store.specs.Event.{seen_in}
use Rattle.spe_session.specs.Working.{BeginsSo}
use Rattle.spe_session.proofs.CauseLemmas.{never_read}
use Rattle.spe_session.proofs.EndingLemmas.{carries_written, fails_written, none_laid, written_laid}
use Rattle.spe_session.proofs.FrontLemmas.{no_zero}
use Rattle.spe_session.proofs.ending.put_all.Goals as goal

pub returns-then-is_none-clause-written : goal.returns-then-is_none-clause-written
returns-then-is_none-clause-written g c = λ p.
    let is : is_none c.first_from.result ≡ true = search rules in
    c.requires.unwritten p ∙ sym (none_laid c.first_from.result c.args.store.now.count c.args.pages c.args.size c.args.dirty.now c.first_from.ensures is c.requires.placed c.requires.numbered p)

pub save_all-requires-clause-numbered : goal.save_all-requires-clause-numbered
save_all-requires-clause-numbered g c = no_zero c.args.store.now.count c.args.pages c.args.dirty.now c.requires.numbered

pub write_all-requires-clause-front : goal.write_all-requires-clause-front
write_all-requires-clause-front g c = λ bytes there.
    let e = c.in-Ok-save_all.ensures in
    subst (λ (id : ℕ). BeginsSo (seen_in c.save_all.new.store.events id) bytes) (sym e.id)
    (subst (λ (seen : ℕ → Given). BeginsSo (seen c.args.pass.now.id) bytes) (sym e.carries.seen) (c.requires.front bytes there))

pub returns-in-Ok-save_all-clause-written : goal.returns-in-Ok-save_all-clause-written
returns-in-Ok-save_all-clause-written g c =
    let e = c.in-Ok-save_all.ensures in
    written_laid c.write_all.result c.args.store.now.count c.save_all.new.store.count c.args.pages c.args.size c.save_all.new.store.page_size c.args.dirty.now c.write_all.new.store.events c.args.pass.now.id c.save_all.new.pass.id
    c.requires.placed e.counted (e.sized ∙ c.requires.of_store) e.id c.write_all.ensures.written

pub returns-in-Ok-save_all-clause-carries : goal.returns-in-Ok-save_all-clause-carries
returns-in-Ok-save_all-clause-carries g c =
    let e = c.in-Ok-save_all.ensures in
    carries_written c.write_all.result c.args.pass.now.id c.save_all.new.pass.id c.args.store.now.events c.save_all.new.store.events c.write_all.new.store.events e.id e.carries c.write_all.ensures.writes

pub returns-in-Ok-save_all-clause-fails : goal.returns-in-Ok-save_all-clause-fails
returns-in-Ok-save_all-clause-fails g c =
    let e = c.in-Ok-save_all.ensures in
    fails_written c.write_all.result c.args.pass.now.id c.save_all.new.pass.id c.args.store.now c.save_all.new.store c.write_all.new.store e.id e.carries c.write_all.ensures.writes (c.write_all.ensures.sized ∙ e.sized) c.requires.alone c.write_all.ensures.stops

pub returns-in-Ok-save_all-clause-reads : goal.returns-in-Ok-save_all-clause-reads
returns-in-Ok-save_all-clause-reads g c =
    never_read g.N.Opening.opened c.write_all.new.store c.args.store.now.desk.reads c.write_all.new.store.desk.reads c.write_all.result c.write_all.ensures.fault c.write_all.ensures.stops
