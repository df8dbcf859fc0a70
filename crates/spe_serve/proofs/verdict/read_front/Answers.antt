use Rattle.std.proofs.Common.{arith, sym}
use Rattle.std.proofs.lemmas.List.{length-take-le}
use Rattle.spe_serve.proofs.verdict.read_front.Goals as goal

pub slice_bounds-read-end : goal.slice_bounds-read-end
slice_bounds-read-end g c =
    sym
    (length-take-le 100 c.deref.result.now (omega (arith, c.page_size.ensures.range.1, c.in_ok-buf.ensures.len, c.get.auto.buf, c.deref_mut.ensures.len, c.deref.ensures.len)))
