use Rattle.std.proofs.Common.{arith}
use Rattle.spe_recover.proofs.CutLemmas.{OnErr-any}
use Rattle.spe_recover.proofs.LeftLemmas.{journals_turn, journals_broken}
use Rattle.spe_recover.proofs.RestoreLemmas.{Stays-trans}
use Rattle.spe_recover.proofs.TurnLemmas.{all_turn, all_none}
use Rattle.spe_recover.proofs.restore.restore_all.Goals as goal

pub loop-id-preserved : goal.loop-id-preserved
loop-id-preserved g c = record {
  attached = c.restore_journal.ensures.attached;
  reads_later = omega (arith, c.loop-id.invariant.reads_later, c.restore_journal.ensures.cause.reads_later);
  ops_later = omega (arith, c.loop-id.invariant.ops_later, c.restore_journal.ensures.cause.ops_later);
  page = c.restore_journal.ensures.page;
  number = omega arith;
  few = omega (arith, c.in_ok-made.ensures.few, c.loop-id.invariant.few);
  stays = Stays-trans (g.D.Disk.told c.args.disk.now) (g.D.Disk.told c.loop-id.disk) _ c.loop-id.invariant.stays c.in_ok-made.ensures.stays;
  restored =
      all_turn (g.D.Disk.told c.args.disk.now) (g.D.Disk.told c.loop-id.disk) _ c.args.page_size c.args.pages c.loop-id.id _ _ _ _ _ c.loop-id-test.true c.loop-id.invariant.stays
      c.in_ok-made.ensures.restored c.loop-id.invariant.restored;
  begun =
      journals_turn (g.D.Disk.told c.args.disk.now) (g.D.Disk.told c.loop-id.disk) _ c.args.page_size c.args.pages c.loop-id.id c.args.holders.now c.loop-id.holders _ _ c.loop-id-test.true c.loop-id.invariant.stays
      c.in_ok-made.ensures.restored c.loop-id.invariant.begun;
}

pub returns-clause-restored : goal.returns-clause-restored
returns-clause-restored g c =
    all_none (g.D.Disk.told c.args.disk.now) (g.D.Disk.told c.loop-id.disk) c.args.page_size c.args.pages c.loop-id.id _ _ _ c.loop-id-test.false c.loop-id.invariant.restored

pub returns-in_err-made-clause-stopped : goal.returns-in_err-made-clause-stopped
returns-in_err-made-clause-stopped g c =
    OnErr-any c.from_residual.result
    (journals_broken (g.D.Disk.told c.args.disk.now) (g.D.Disk.told c.loop-id.disk) _ c.args.page_size c.args.pages c.loop-id.id c.args.holders.now c.loop-id.holders c.loop-id-test.true c.loop-id.invariant.stays
    c.in_err-made.ensures.stopped c.loop-id.invariant.begun)
