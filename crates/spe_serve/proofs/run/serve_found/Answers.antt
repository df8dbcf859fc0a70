use Rattle.std.proofs.Common.{subst, sym, ◌∙◌, Option}
use Rattle.spe_model.specs.Trace.{History}
use Rattle.spe_store.specs.Store.{IfTold}
use Rattle.spe_serve.specs.declared.run.Run.TheVariants.{Refused}
use Rattle.spe_serve.specs.Run.{IsRunOver, IsSoundBy}
use Rattle.spe_serve.proofs.RunLemmas.{checked_run, known_same, sound_run}
use Rattle.spe_serve.proofs.run.serve_found.Goals as goal

pub serve_sound-requires-clause-sound : goal.serve_sound-requires-clause-sound
serve_sound-requires-clause-sound g c =
    subst (λ (t : Option History). IfTold t (IsSoundBy c.args.found.now)) (sym c.pages_verdict-checked.ensures.same)
    (sound_run c.args.found.now (g.D.Disk.told c.args.disk) c.in-Ok.answered (rw c.in-Ok.is at c.pages_verdict-checked.ensures.reply) (sym c.refusal_in.ensures ∙ c.in-None.is) c.requires.found)

pub returns-in-Some-clause-run : goal.returns-in-Some-clause-run
returns-in-Some-clause-run g c =
    known_same (g.D.Disk.told c.args.disk) _ (λ (h : History). IsRunOver c.args.clients h (Refused c.in-Some.refusal)) c.pages_verdict-checked.ensures.same
    (checked_run c.args.found.now (g.D.Disk.told c.args.disk) c.args.clients c.in-Ok.answered c.in-Some.refusal (rw c.in-Ok.is at c.pages_verdict-checked.ensures.reply)
    (sym c.refusal_in.ensures ∙ c.in-Some.is) c.requires.found)
