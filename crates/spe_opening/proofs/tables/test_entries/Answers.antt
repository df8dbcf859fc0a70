use Rattle.std.proofs.Common.{refl, ◌∙◌, arith}
use Rattle.spe_space.specs.Calls.{reads_both}
use Rattle.spe_opening.proofs.EntryLemmas.{entry_failed, entry_tested, tests_ended}
use Rattle.spe_opening.proofs.ListLemmas.{front_is, none_left}
use Rattle.spe_opening.proofs.tables.test_entries.Goals as goal

pub loop-left-preserved : goal.loop-left-preserved
loop-left-preserved g c = record {
  kept = reads_both g.S.Pages c.args.space.now c.loop-left.space c.test_entry.new.space c.loop-left.invariant.kept c.in-Ok.ensures.kept;
  refusal = c.in-Ok.ensures.refusal ∙ c.loop-left.invariant.refusal;
  buf = omega (arith, c.test_entry.auto.buf, c.loop-left.invariant.buf);
  testing = entry_tested {X = Unit {0}} g.S.Pages c.args.space.now c.loop-left.space c.test_entry.new.space c.args.entries.now c.loop-left.left.now _ c.entry-item.result tt
      c.loop-left.invariant.kept c.in-Ok.ensures.kept (front_is c.loop-left.left.now c.entry-item.result _ (omega (arith, c.in-len1-up.len_at_least)) c.entry-item.is refl)
      c.loop-left.invariant.testing c.in-Ok.ensures.tests;
}

pub returns-in-Err-clause-tests : goal.returns-in-Err-clause-tests
returns-in-Err-clause-tests g c =
    entry_failed (Unit {0}) g.S.Pages c.args.space.now c.loop-left.space c.test_entry.new.space c.args.entries.now c.loop-left.left.now _ c.entry-item.result c.in-Err.fault
    c.loop-left.invariant.kept c.in-Err.ensures.kept (front_is c.loop-left.left.now c.entry-item.result _ (omega (arith, c.in-len1-up.len_at_least)) c.entry-item.is refl)
    c.loop-left.invariant.testing c.in-Err.ensures.tests

pub returns-clause-tests : goal.returns-clause-tests
returns-clause-tests g c =
    tests_ended {X = Unit {0}} g.S.Pages c.args.space.now c.loop-left.space c.args.entries.now c.loop-left.left.now tt (none_left c.loop-left.left.now (omega (arith, c.in_default.len_below))) c.loop-left.invariant.testing
