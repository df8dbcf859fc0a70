use Rattle.std.proofs.Common.{◌≡◌, ◌+◌, arith, rules}
use Rattle.spe_recover.proofs.CutLemmas.{OnErr-any}
use Rattle.spe_recover.proofs.LeftLemmas.{records_turn, records_broken, records_stopped}
use Rattle.spe_recover.proofs.RestoreLemmas.{Stays-trans}
use Rattle.spe_recover.proofs.TurnLemmas.{due_turn, due_ended, due_none}
use Rattle.spe_recover.proofs.restore.restore_records.Goals as goal

pub returns-in-None-clause-restored : goal.returns-in-None-clause-restored
returns-in-None-clause-restored g c =
    due_ended (g.D.Disk.told c.args.disk.now) (g.D.Disk.told c.loop-left.disk) _ c.args.journal.id c.args.journal.nonce c.args.page_size c.args.pages c.loop-left.at c.loop-left.left c.args.journal.length (c.args.page_size + 8) _ _ _ _ _
    c.loop-left.invariant.from c.loop-left.invariant.reach (omega arith) (omega arith) c.requires.end c.loop-left.invariant.stays
    (rw c.loop-left.invariant.page at c.in_ok-read_piece.ensures.piece) (rw (c.in-None.is, c.read_piece.ensures.same) at c.in_ok-more.ensures.restores) c.loop-left.invariant.restored

pub loop-left-preserved : goal.loop-left-preserved
loop-left-preserved g c =
    let one = rw (c.in-Some.is, c.read_piece.ensures.same) at c.in_ok-more.ensures.restores in
    record {
      attached = c.restore_piece.ensures.attached;
      reads_later = omega (arith, c.loop-left.invariant.reads_later, c.read_piece.ensures.cause.later, c.restore_piece.ensures.readings);
      ops_later = omega (arith, c.loop-left.invariant.ops_later, c.restore_piece.ensures.cause.later, c.read_piece.ensures.operations);
      size = omega arith;
      page = search rules;
      from = omega arith;
      reach = omega arith;
      few = omega (arith, one.few, c.loop-left.invariant.few);
      stays = Stays-trans (g.D.Disk.told c.args.disk.now) (g.D.Disk.told c.loop-left.disk) _ c.loop-left.invariant.stays one.stays;
      restored =
          let size : c.from-size.result + 8 ≡ c.args.page_size + 8 = omega arith in
          rw size
          (due_turn (g.D.Disk.told c.args.disk.now) (g.D.Disk.told c.loop-left.disk) _ c.args.journal.id c.args.journal.nonce c.args.page_size c.args.pages c.loop-left.at c.loop-left.left c.args.journal.length (c.args.page_size + 8) _ _ _ _ _ _
          c.loop-left.invariant.from c.loop-left.invariant.reach (omega arith) (omega arith) c.requires.end c.loop-left.invariant.stays
          (rw c.loop-left.invariant.page at c.in_ok-read_piece.ensures.piece) one c.loop-left.invariant.restored);
      begun =
          let size : c.from-size.result + 8 ≡ c.args.page_size + 8 = omega arith in
          rw size
          (records_turn (g.D.Disk.told c.args.disk.now) (g.D.Disk.told c.loop-left.disk) _ c.args.journal.id c.args.journal.nonce c.args.page_size c.args.pages c.loop-left.at c.loop-left.left c.args.journal.length (c.args.page_size + 8) _ c.args.holders.now c.loop-left.holders _ _
          c.loop-left.invariant.from c.loop-left.invariant.reach (omega arith) (omega arith) c.requires.end c.loop-left.invariant.stays
          (rw c.loop-left.invariant.page at c.in_ok-read_piece.ensures.piece) one c.loop-left.invariant.begun);
    }

pub returns-clause-restored : goal.returns-clause-restored
returns-clause-restored g c =
    due_none (g.D.Disk.told c.args.disk.now) (g.D.Disk.told c.loop-left.disk) c.args.journal.id c.args.journal.nonce c.args.page_size c.args.pages c.loop-left.at c.loop-left.left c.args.journal.length _ _ _
    c.loop-left.invariant.from c.loop-left.invariant.reach (omega arith) c.requires.end c.loop-left.invariant.restored

pub returns-in_err-read_piece-clause-stopped : goal.returns-in_err-read_piece-clause-stopped
returns-in_err-read_piece-clause-stopped g c =
    OnErr-any c.from_residual.result
    (rw c.read_piece.ensures.same
    (records_stopped (g.D.Disk.told c.args.disk.now) (g.D.Disk.told c.loop-left.disk) c.args.journal.id c.args.journal.nonce c.args.page_size c.args.pages c.loop-left.at c.args.holders.now c.loop-left.holders c.loop-left.invariant.begun))

pub returns-in_err-more-clause-stopped : goal.returns-in_err-more-clause-stopped
returns-in_err-more-clause-stopped g c =
    OnErr-any c.from_residual-in_err-more.result
    (records_broken (g.D.Disk.told c.args.disk.now) (g.D.Disk.told c.loop-left.disk) _ c.args.journal.id c.args.journal.nonce c.args.page_size c.args.pages c.loop-left.at c.loop-left.left c.args.journal.length (c.args.page_size + 8) _ c.args.holders.now c.loop-left.holders
    c.loop-left.invariant.from c.loop-left.invariant.reach (omega arith) (omega arith) c.requires.end c.loop-left.invariant.stays
    (rw c.loop-left.invariant.page at c.in_ok-read_piece.ensures.piece) (rw c.read_piece.ensures.same at c.in_err-more.ensures.stopped) c.loop-left.invariant.begun)
