use Rattle.spe_render.proofs.PassesLemmas.{cut_off, last_part}
use Rattle.spe_render.proofs.TextLemmas.{quoted_none, quoted_run}
use Rattle.spe_render.proofs.values.put_quoted.Goals as goal

pub loop-place-preserved : goal.loop-place-preserved
loop-place-preserved g c =
    rw (c.split_at-in-Some.ensures.back, c.split_at.ensures.back)
    (cut_off
    (rw c.split_at.ensures.front (quoted_run c.loop-place.left.now c.in-Some.place c.in-Some.ensures.0.high c.in-Some.ensures.0.before c.in-Some.ensures.1))
    c.loop-place.invariant c.bytes.ensures c.bytes-in-Some.ensures)

pub returns : goal.returns
returns g c = last_part (quoted_none c.loop-place.left.now c.in_default.ensures) c.loop-place.invariant c.bytes-2.ensures
