use Rattle.std.proofs.Common.{rules, ◌^◌, ◌<◌}
use Rattle.spe_format.proofs.VarintLemmas.{fits_56}
use Rattle.spe_format.proofs.varint.read_long.Goals as goal

pub overflow_mul-result-then-byte-lt128 : goal.overflow_mul-result-then-byte-lt128
overflow_mul-result-then-byte-lt128 c =
    let small : c.loop-read.value < 2 ^ 56 = fits_56 _ _ c.loop-read.invariant.value c.loop-read.invariant.read in search rules

pub overflow_add-result-then-byte-lt128 : goal.overflow_add-result-then-byte-lt128
overflow_add-result-then-byte-lt128 c =
    let small : c.loop-read.value < 2 ^ 56 = fits_56 _ _ c.loop-read.invariant.value c.loop-read.invariant.read in search rules
