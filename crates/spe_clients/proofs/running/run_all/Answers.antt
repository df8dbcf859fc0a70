use Rattle.std.proofs.Common.{◌∙◌, ◌+◌, List, ap, subst, sym, arith}
use Rattle.spe_model.specs.declared.transaction.Tx.{Tx}
use Rattle.spe_clients.specs.Place.{script_of, scripts_of}
use Rattle.spe_clients.specs.SoFar.{HaveRun}
use Rattle.spe_clients.proofs.TurnLemmas.{have_run_more, scripts_push}
use Rattle.spe_clients.proofs.running.run_all.Goals as goal

pub loop-place-preserved : goal.loop-place-preserved
loop-place-preserved g c =
    let opened = g.N.Opening.opened in
    let was = c.loop-place in
    let left = c.pop.new.self.items in
    let new = c.run_client-served.result.store in
    let have = subst (λ (tss : List (List Tx)). HaveRun opened c.args.store was.store c.args.clients tss was.transcripts.items)
    (ap scripts_of c.in-Some.ensures.items ∙ scripts_push left c.in-Some.place) was.invariant.have in
    record {
      have = subst (HaveRun opened c.args.store new c.args.clients (scripts_of left)) (sym c.put.ensures.items)
          (have_run_more opened c.args.store was.store new (was.client + 1) c.args.clients (scripts_of left) was.transcripts.items (script_of c.in-Some.place) c.run_client-served.result.transcript have
          (omega (arith, was.invariant.number, was.transcripts.ok)) c.run_client-served.ensures.complete c.run_client-served.ensures.goes);
      number = omega (arith, was.invariant.number, c.put.ensures.len);
      rests = c.run_client-served.ensures.resting;
      room = omega (arith, was.invariant.room, c.put.ensures.len, c.put.ensures.room, c.in-Some.ensures.len);
      few = omega (arith, was.invariant.few, c.put.ensures.len, c.in-Some.ensures.len);
    }
