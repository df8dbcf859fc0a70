use Rattle.std.proofs.Common.{arith}
use Rattle.spe_format.proofs.CanonicalLemmas.{need_step, body_step, body_done}
use Rattle.spe_format.proofs.canonical.put_body.Goals as goal

pub loop-left-preserved : goal.loop-left-preserved
loop-left-preserved c =
    let kind = c.args.kind in
    let left = c.loop-left.left.now in
    let step = need_step kind c.cell-item.result left c.in-len1-up.len_at_least c.cell-item.is in
    record {
      fits = omega (arith, step, c.cell_length-low.ensures, c.loop-left.invariant.fits);
      inside = omega (arith, c.loop-left.invariant.inside, c.put_cell.auto.page, c.put_u16.auto.page);
      whole =
          body_step kind _ _ _ c.loop-left.slot c.loop-left.low _ c.cell-item.result left _ c.in-len1-up.len_at_least c.cell-item.is
          (omega (arith, step, c.cell_length-low.ensures, c.loop-left.invariant.fits)) c.loop-left.invariant.fits c.loop-left.invariant.inside c.put_cell.ensures c.put_u16.ensures
          c.loop-left.invariant.whole;
    }

pub returns : goal.returns
returns c =
    body_done c.args.kind _ _ _ c.loop-left.slot c.loop-left.low c.args.start c.args.end c.loop-left.left.now c.args.cells.now (omega (arith, c.in_default.len_below))
    (omega (arith, c.loop-left.invariant.fits)) c.requires.fits c.requires.inside c.put_zeros.ensures c.loop-left.invariant.whole
