use Rattle.std.proofs.Common.{◌≡◌, ◌+◌, ◌≤◌, ◌%◌, ◌^◌, length}
use Rattle.spe_model.specs.Journal.{checksum_of}
use Rattle.spe_journal.proofs.ChecksumLemmas.{sum_below}
use Rattle.spe_journal.proofs.record.checksum.Given as goal

abbrev pub invariant-loop-at : goal.invariant-loop-at
invariant-loop-at l = record {
  within : l.at ≤ length l.page;
  total : (l.sum + sum_below l.page l.at) % 2 ^ 32 ≡ checksum_of l.nonce l.page;
}

abbrev pub decreases-loop-at : goal.decreases-loop-at
decreases-loop-at l = l.at
