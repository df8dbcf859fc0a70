use Rattle.std.proofs.Common.{◌∙◌, arith, rules}
use Rattle.spe_recover.proofs.HeadLemmas.{heads_all, heads_turn}
use Rattle.spe_recover.proofs.heads.read_heads.Goals as goal

pub loop-id-preserved : goal.loop-id-preserved
loop-id-preserved g c = record {
  attached = c.read_head.ensures.attached;
  same = c.read_head.ensures.same ∙ c.loop-id.invariant.same;
  operations = c.read_head.ensures.operations ∙ c.loop-id.invariant.operations;
  later = omega (arith, c.loop-id.invariant.later, c.read_head.ensures.cause.later);
  few = omega arith;
  long = search rules;
  known =
      rw c.keep_head.ensures
      (heads_turn (g.D.Disk.told c.args.disk.now) c.args.page_size c.loop-id.id c.loop-id.heads c.in_ok-head.head (rw c.loop-id.invariant.same at c.in_ok-head.ensures.head)
      c.loop-id.invariant.known);
}

pub returns-clause-heads : goal.returns-clause-heads
returns-clause-heads g c = heads_all (g.D.Disk.told c.args.disk.now) c.args.page_size c.loop-id.id c.loop-id.heads c.loop-id.invariant.long c.loop-id-test.false c.loop-id.invariant.known
