use Rattle.std.proofs.Common.{◌≡◌, ◌+◌, ◌∙◌, arith, rules}
use Rattle.spe_recover.proofs.ScanLemmas.{left_turn, left_ended, left_none}
use Rattle.spe_recover.proofs.scan.scan_records.Goals as goal

pub returns-then-not-branch-clause-notes : goal.returns-then-not-branch-clause-notes
returns-then-not-branch-clause-notes g c =
    left_ended _ c.args.id c.args.nonce c.args.page_size c.loop-left.at c.loop-left.left c.args.end (c.args.page_size + 8) _ _ _ _
    c.loop-left.invariant.from c.loop-left.invariant.reach (omega arith) (omega arith) c.requires.end
    (rw (c.loop-left.invariant.page, c.loop-left.invariant.same) at c.in_ok-read_piece.ensures.piece) (rw c.if-not-branch.true at c.in_ok-note_piece.ensures) c.loop-left.invariant.kept

pub loop-left-preserved : goal.loop-left-preserved
loop-left-preserved g c = record {
  attached = c.read_piece.ensures.attached;
  same = c.read_piece.ensures.same ∙ c.loop-left.invariant.same;
  operations = c.read_piece.ensures.operations ∙ c.loop-left.invariant.operations;
  later = omega (arith, c.loop-left.invariant.later, c.read_piece.ensures.cause.later);
  size = omega arith;
  page = search rules;
  from = omega arith;
  reach = omega arith;
  kept =
      let size : c.from-size.result + 8 ≡ c.args.page_size + 8 = omega arith in
      rw size
      (left_turn _ c.args.id c.args.nonce c.args.page_size c.loop-left.at c.loop-left.left c.args.end (c.args.page_size + 8) _ _ _ _
      c.loop-left.invariant.from c.loop-left.invariant.reach (omega arith) (omega arith) c.requires.end
      (rw (c.loop-left.invariant.page, c.loop-left.invariant.same) at c.in_ok-read_piece.ensures.piece) (rw c.if-not-branch.false at c.in_ok-note_piece.ensures) c.loop-left.invariant.kept);
}

pub returns-clause-notes : goal.returns-clause-notes
returns-clause-notes g c =
    left_none _ c.args.id c.args.nonce c.args.page_size c.loop-left.at c.loop-left.left c.args.end _ _
    c.loop-left.invariant.from c.loop-left.invariant.reach (omega arith) c.requires.end c.loop-left.invariant.kept
