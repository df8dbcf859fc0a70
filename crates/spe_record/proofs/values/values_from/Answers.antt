use Rattle.std.proofs.Common.{◌∙◌, arith, sym}
use Rattle.std.proofs.lemmas.Bool.Decides.{nat_tests}
use Rattle.spe_record.proofs.ValuesLemmas.{fills_first, fills_none, fills_rest, texts_turn, values_end, values_first, values_stop}
use Rattle.spe_record.proofs.values.values_from.Goals as goal

pub unreachable-requires : goal.unreachable-requires
unreachable-requires c = fills_none c.loop-left.left.now c.loop-left.body.now (grind (arith, nat_tests)) (sym c.read_varint.ensures.value ∙ c.in_default.is) c.loop-left.invariant.fits

pub split_at-requires : goal.split_at-requires
split_at-requires c =
    let few = fills_first c.loop-left.left.now c.loop-left.body.now c.in-Some.kind c.in-Some.len (sym c.read_varint.ensures.value ∙ c.in-Some.is) c.loop-left.invariant.fits in
    omega (arith, few, c.size.ensures)

pub returns-in-Err : goal.returns-in-Err
returns-in-Err c =
    values_stop c.in-Err.fault c.loop-left.found.items c.loop-left.left.now c.loop-left.body.now c.split_at.result.0.now _ c.in-Some.kind c.in-Some.len
    (sym c.read_varint.ensures.value ∙ c.in-Some.is) c.loop-left.invariant.fits c.loop-left.invariant.found (rw c.size.ensures at c.split_at.ensures.front) c.in-Err.ensures

pub returns : goal.returns
returns c = values_end c.loop-left.found.items c.loop-left.left.now c.loop-left.body.now _ (grind (arith, nat_tests)) c.loop-left.invariant.found c.loop-left.invariant.texts

pub loop-left-preserved : goal.loop-left-preserved
loop-left-preserved c =
    let e = sym c.read_varint.ensures.value ∙ c.in-Some.is in
    record {
      found =
          rw (c.in_ok-push-in-Ok.ensures.items, c.split_at-in-loop-left.ensures.back)
          (values_first c.loop-left.found.items c.loop-left.left.now c.loop-left.body.now c.in-Ok.value c.split_at.result.0.now c.split_at.result.1.now _ c.in-Some.kind c.in-Some.len e
          c.loop-left.invariant.fits c.loop-left.invariant.found c.in-Ok.ensures.0 (rw c.size.ensures at c.split_at.ensures.front) (rw c.size.ensures at c.split_at.ensures.back));
      fits =
          rw c.split_at-in-loop-left.ensures.back
          (fills_rest c.loop-left.left.now c.loop-left.body.now c.split_at.result.1.now c.in-Some.kind c.in-Some.len e c.loop-left.invariant.fits (rw c.size.ensures at c.split_at.ensures.back));
      texts = rw c.in_ok-push-in-Ok.ensures.items (texts_turn c.loop-left.found.items c.in-Ok.value _ c.loop-left.invariant.texts c.in-Ok.ensures.0 c.in-Ok.ensures.1);
    }
