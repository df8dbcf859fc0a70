use Rattle.std.proofs.Common.{arith}
use Rattle.spe_model.specs.Trace.{History}
use Rattle.spe_serve.specs.declared.reply.Reply.TheVariants.{Corrupt}
use Rattle.spe_serve.specs.declared.run.Run.TheVariants.{Refused}
use Rattle.spe_serve.specs.Run.{IsRunOver}
use Rattle.spe_serve.proofs.RunLemmas.{empty_trunks, known_self, no_trunks, run_over, was_served}
use Rattle.spe_serve.proofs.run.serve_shared.Goals as goal

pub returns-in_default-clause-run : goal.returns-in_default-clause-run
returns-in_default-clause-run g c =
    known_self (g.D.Disk.told c.args.disk) (λ (h : History). IsRunOver c.args.clients h (Refused (Corrupt 1)))
    (no_trunks c.args.found.now c.args.shared.now (g.D.Disk.told c.args.disk) c.args.clients (Refused (Corrupt 1)) c.counts_law.ensures.stands c.requires.limits
    (empty_trunks c.args.shared.now.trunks c.as_slice.result.now c.as_slice.ensures (omega (arith, c.in_default.len_below))) c.requires.read)

pub serve_opened-requires-clause-served : goal.serve_opened-requires-clause-served
serve_opened-requires-clause-served g c =
    was_served c.args.found.now c.args.shared.now (g.D.Disk.told c.args.disk) (g.D.Disk.read_faults c.args.disk) (g.D.Disk.op_faults c.args.disk) c.counts_law.ensures.stands c.requires.limits c.requires.read

pub returns-clause-run : goal.returns-clause-run
returns-clause-run g c =
    run_over c.args.found.now c.args.shared.now (g.D.Disk.told c.args.disk) _ (g.D.Disk.read_faults c.args.disk) (g.D.Disk.op_faults c.args.disk) c.args.clients _ c.requires.read
    c.serve_opened.ensures.same c.serve_opened.ensures.run
