use Rattle.std.proofs.Common.{◌∙◌, ◌≡◌, ◌<◌, ◌≤◌, ◌+◌, ℕ, ap, arith, drop, length, min, sym, take}
use Rattle.std.proofs.lemmas.Bool.Decides.{nat_tests}
use Rattle.std.proofs.lemmas.List.{take_min, drop_min}
use Rattle.spe_model.specs.Serial.{size_of}
use Rattle.spe_record.specs.declared.counted.Seen.{Seen}
use Rattle.spe_record.specs.Counted.{at_most}
use Rattle.spe_record.proofs.CountedLemmas.{seen_turn, seen_end, seen_stop}
use Rattle.spe_record.proofs.counted.seen_of.Goals as goal

pub returns-in_err-kind : goal.returns-in_err-kind
returns-in_err-kind c =
    let some : 0 < length c.loop-left.left.now = grind (arith, nat_tests) in
    c.from_residual.ensures ∙ seen_stop c.loop-left.seen _ _ _ some (sym c.read_varint.ensures.value ∙ c.in_err-kind.was) c.loop-left.invariant.seen

pub returns : goal.returns
returns c = seen_end c.loop-left.seen _ _ _ (grind (arith, nat_tests)) c.loop-left.invariant.small c.loop-left.invariant.seen

pub loop-left-preserved : goal.loop-left-preserved
loop-left-preserved c =
    let here : c.min-here.result ≡ min (size_of c.in_ok-kind.kind) (length c.loop-left.values.now) = c.min-here.ensures ∙ ap (λ (n : ℕ). min n (length c.loop-left.values.now)) c.size.ensures in
    let front : c.split_at.result.0.now ≡ take (size_of c.in_ok-kind.kind) c.loop-left.values.now
    = c.split_at.ensures.front ∙ (ap (λ (n : ℕ). take n c.loop-left.values.now) here ∙ take_min (size_of c.in_ok-kind.kind) c.loop-left.values.now) in
    let back : c.split_at.result.1.now ≡ drop (size_of c.in_ok-kind.kind) c.loop-left.values.now
    = c.split_at.ensures.back ∙ (ap (λ (n : ℕ). drop n c.loop-left.values.now) here ∙ drop_min (size_of c.in_ok-kind.kind) c.loop-left.values.now) in
    let within : (0 < c.in_ok-kind.len) × (c.in_ok-kind.len ≤ length c.loop-left.left.now) = c.in_ok-kind.ensures.within in
    let one : c.seen_with-seen.result.count ≡ c.loop-left.seen.count + 1 = ap (λ (s : Seen). s.count) c.seen_with-seen.ensures in
    let sum : c.seen_with-seen.result.total ≡ at_most (c.loop-left.seen.total + size_of c.in_ok-kind.kind) = ap (λ (s : Seen). s.total) c.seen_with-seen.ensures in
    record {
      seen =
          rw (c.seen_with-seen.ensures, c.split_at-in-loop-left.ensures.back)
          (seen_turn c.loop-left.seen c.loop-left.values.now c.loop-left.left.now c.split_at.result.0.now c.split_at.result.1.now c.in_ok-kind.kind c.in_ok-kind.len _
          (sym c.read_varint.ensures.value ∙ c.in_ok-kind.was) front back c.loop-left.invariant.seen);
      few = omega (arith, c.split_at-in-loop-left.ensures.back_len, c.loop-left.invariant.few);
      small = omega arith;
    }
