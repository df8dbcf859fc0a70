use Rattle.std.proofs.Common.{refl}
use Rattle.spe_serve.specs.declared.reply.Reply.TheVariants.{NotBuilt}
use Rattle.spe_serve.proofs.MadeLemmas.{unbuilt_for}
use Rattle.spe_serve.proofs.outcome.obey.Goals as goal

pub returns-in-Work-clause-made : goal.returns-in-Work-clause-made
returns-in-Work-clause-made g c = unbuilt_for c.args.command.now (g.D.Disk.told c.args.disk) NotBuilt (rw c.in-Work.is refl)
