use Rattle.std.proofs.Common.{subst, sym, List, ℕ, Ok, Err, Option}
use Rattle.spe_model.specs.Trace.{History}
use Rattle.spe_store.specs.Store.{IfTold}
use Rattle.spe_serve.specs.declared.reply.Reply.TheVariants.{Corrupt}
use Rattle.spe_serve.specs.declared.run.Run.TheVariants.{Refused}
use Rattle.spe_serve.specs.Run.{IsReadBy, IsRunOver}
use Rattle.spe_serve.specs.Shared.{IsSharedOver}
use Rattle.spe_serve.proofs.RunLemmas.{bare_run, by_history, known_same, read_told}
use Rattle.spe_serve.proofs.run.serve_sound.Goals as goal

pub serve_shared-requires-clause-read : goal.serve_shared-requires-clause-read
serve_shared-requires-clause-read g c =
    subst (λ (t : Option History). IfTold t (IsReadBy c.args.found.now c.in-Ok-Ok.shared)) (sym c.found_shared-read.ensures.same)
    (read_told c.args.found.now c.in-Ok-Ok.shared (g.D.Disk.told c.args.disk) c.requires.sound
    (by_history (g.D.Disk.told c.args.disk) c.args.found.now (λ (pages : List (List ℕ)). IsSharedOver pages (Ok c.in-Ok-Ok.shared)) (rw (c.in-Ok-Ok.is, c.in-Ok-Ok.field-0-is) at c.found_shared-read.ensures.shared)))

pub returns-in-Ok-Err-clause-run : goal.returns-in-Ok-Err-clause-run
returns-in-Ok-Err-clause-run g c =
    known_same (g.D.Disk.told c.args.disk) _ (λ (h : History). IsRunOver c.args.clients h (Refused (Corrupt c.in-Ok-Err.page))) c.found_shared-read.ensures.same
    (bare_run c.args.found.now (g.D.Disk.told c.args.disk) c.args.clients c.in-Ok-Err.page c.counts_law.ensures.stands c.requires.limits c.requires.sound
    (by_history (g.D.Disk.told c.args.disk) c.args.found.now (λ (pages : List (List ℕ)). IsSharedOver pages (Err c.in-Ok-Err.page)) (rw (c.in-Ok-Err.is, c.in-Ok-Err.field-0-is) at c.found_shared-read.ensures.shared)))
