use Rattle.std.proofs.Common.{◌∙◌, arith, rules}
use Rattle.spe_recover.proofs.ScanLemmas.{journals_turn, journals_none}
use Rattle.spe_recover.proofs.scan.scan_all.Goals as goal

pub loop-id-preserved : goal.loop-id-preserved
loop-id-preserved g c = record {
  attached = c.scan_journal.ensures.attached;
  same = c.scan_journal.ensures.same ∙ c.loop-id.invariant.same;
  operations = c.scan_journal.ensures.operations ∙ c.loop-id.invariant.operations;
  later = omega (arith, c.loop-id.invariant.later, c.scan_journal.ensures.cause.later);
  few = omega arith;
  page = search rules;
  kept = journals_turn _ c.args.page_size c.loop-id.id _ _ _ c.loop-id-test.true (rw c.loop-id.invariant.same at c.in_ok-scan_journal.ensures.notes) c.loop-id.invariant.kept;
}

pub returns-clause-notes : goal.returns-clause-notes
returns-clause-notes g c = journals_none _ c.args.page_size c.loop-id.id _ _ c.loop-id-test.false c.loop-id.invariant.kept
