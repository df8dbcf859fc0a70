use Rattle.std.proofs.Common.{arith, refl, ◌∙◌}
use Rattle.spe_recover.proofs.ClearLemmas.{StaysFrom-same, StaysFrom-next, uncut_first, uncut_turn, uncut_none, cuts_first, cuts_turn, cuts_broken}
use Rattle.spe_recover.proofs.CutLemmas.{OnErr-any}
use Rattle.spe_recover.proofs.clear.cut_journals.Goals as goal

pub loop-id-init : goal.loop-id-init
loop-id-init g c = record {
  attached = c.requires.attached;
  readings = refl;
  ops_later = omega arith;
  number = omega arith;
  few = omega arith;
  stays = StaysFrom-same 0 (g.D.Disk.told c.args.disk.now);
  cut = uncut_first (g.D.Disk.told c.args.disk.now);
  begun = cuts_first (g.D.Disk.told c.args.disk.now);
}

pub loop-id-preserved : goal.loop-id-preserved
loop-id-preserved g c = record {
  attached = c.cut_journal.ensures.attached;
  readings = c.cut_journal.ensures.readings ∙ c.loop-id.invariant.readings;
  ops_later = omega (arith, c.loop-id.invariant.ops_later, c.cut_journal.ensures.cause.later);
  number = omega arith;
  few = omega (arith, c.in_ok-made.ensures.few, c.loop-id.invariant.few);
  stays = StaysFrom-next c.loop-id.id (g.D.Disk.told c.args.disk.now) (g.D.Disk.told c.loop-id.disk) _ c.loop-id.invariant.stays c.in_ok-made.ensures.stays;
  cut =
      uncut_turn (g.D.Disk.told c.args.disk.now) (g.D.Disk.told c.loop-id.disk) _ c.loop-id.id c.loop-id.made c.in_ok-made.field-0 c.loop-id-test.true c.loop-id.invariant.stays
      c.in_ok-made.ensures.cut c.loop-id.invariant.cut;
  begun =
      cuts_turn (g.D.Disk.told c.args.disk.now) (g.D.Disk.told c.loop-id.disk) _ c.loop-id.id c.in_ok-made.field-0 c.loop-id-test.true c.loop-id.invariant.stays
      c.in_ok-made.ensures.cut c.loop-id.invariant.begun;
}

pub returns-clause-cut : goal.returns-clause-cut
returns-clause-cut g c =
    uncut_none (g.D.Disk.told c.args.disk.now) (g.D.Disk.told c.loop-id.disk) c.loop-id.id c.loop-id.made c.loop-id-test.false c.loop-id.invariant.cut c.loop-id.invariant.stays

pub returns-in_err-made-clause-stopped : goal.returns-in_err-made-clause-stopped
returns-in_err-made-clause-stopped g c =
    OnErr-any c.from_residual.result
    (cuts_broken (g.D.Disk.told c.args.disk.now) (g.D.Disk.told c.loop-id.disk) _ c.loop-id.id c.loop-id-test.true c.loop-id.invariant.stays c.in_err-made.ensures.stopped
    c.loop-id.invariant.begun)
