use Rattle.std.proofs.Common.{◌∙◌, ◌+◌, ◌∷◌, [], List, ap, subst, sym, arith}
use Rattle.std.specs.Prelude.{All, reverse}
use Rattle.spe_model.specs.declared.transaction.Tx.{Tx}
use Rattle.spe_clients.specs.Ended.{Answer}
use Rattle.spe_clients.specs.Place.{script_of}
use Rattle.spe_clients.specs.Script.{MayRun}
use Rattle.spe_clients.specs.SoFar.{HasRun}
use Rattle.spe_clients.proofs.ListLemmas.{All-front}
use Rattle.spe_clients.proofs.TurnLemmas.{has_run_more, reverse_push}
use Rattle.spe_clients.proofs.running.run_client.Goals as goal

pub loop-body-preserved : goal.loop-body-preserved
loop-body-preserved g c =
    let opened = g.N.Opening.opened in
    let was = c.loop-body in
    let left = c.pop.new.self.items in
    let new = c.run_one-ran.result.store in
    let script = script_of c.args.place in
    let answer : Answer = (c.run_one-ran.result.outcome, c.run_one-ran.result.replies) in
    let has = subst (λ (ts : List Tx). HasRun opened c.args.store was.store c.args.client script ts was.answers.items)
    (ap reverse c.in-Some.ensures.items ∙ reverse_push left c.in-Some.body) was.invariant.has in
    record {
      has = subst (HasRun opened c.args.store new c.args.client script (reverse left)) (sym c.put.ensures.items)
          (has_run_more opened c.args.store was.store new c.args.client (was.tx + 1) script (reverse left) was.answers.items c.in-Some.body answer has
          (omega (arith, was.invariant.number, was.answers.ok)) c.run_one-ran.ensures.goes);
      number = omega (arith, was.invariant.number, c.put.ensures.len);
      told = c.run_one-ran.ensures.told;
      rests = c.run_one-ran.ensures.resting;
      runnable = All-front MayRun left (c.in-Some.body ∷ []) (subst (All MayRun) c.in-Some.ensures.items was.invariant.runnable);
      room = omega (arith, was.invariant.room, c.put.ensures.len, c.put.ensures.room, c.in-Some.ensures.len);
      few = omega (arith, was.invariant.few, c.put.ensures.len, c.in-Some.ensures.len);
    }
