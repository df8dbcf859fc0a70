use Rattle.std.proofs.Common.{arith, ◌∙◌}
use Rattle.spe_rewrite.proofs.LeftLemmas.{OnErr-any, taken_off}
use Rattle.spe_rewrite.proofs.PutLemmas.{ascending_next, puts_broken, puts_turn, whole_next}
use Rattle.spe_rewrite.proofs.put.put_pages.Goals as goal

pub loop-left-preserved : goal.loop-left-preserved
loop-left-preserved g c =
    let is = taken_off c.loop-left.left.now c.change-item.result c.in-len1-up.len_at_least c.change-item.is in
    record {
      attached = c.put_page.ensures.attached;
      readings = c.put_page.ensures.readings ∙ c.loop-left.invariant.readings;
      ops_later = omega (arith, c.loop-left.invariant.ops_later, c.put_page.ensures.cause.later);
      ascending = ascending_next c.loop-left.left.now _ c.change-item.result is c.loop-left.invariant.ascending;
      whole = whole_next c.args.page_size c.loop-left.left.now _ c.change-item.result is c.loop-left.invariant.whole;
      begun =
          puts_turn c.args.page_size (g.D.Disk.told c.args.disk.now) (g.D.Disk.told c.loop-left.disk) _ c.args.changes.now c.loop-left.left.now _ c.change-item.result is
          c.in_ok-put_page.ensures.made c.loop-left.invariant.begun;
    }

pub returns-in_err-put_page-clause-stopped : goal.returns-in_err-put_page-clause-stopped
returns-in_err-put_page-clause-stopped g c =
    OnErr-any c.from_residual.result
    (puts_broken c.args.page_size (g.D.Disk.told c.args.disk.now) (g.D.Disk.told c.loop-left.disk) _ c.args.changes.now c.loop-left.left.now _ c.change-item.result
    (taken_off c.loop-left.left.now c.change-item.result c.in-len1-up.len_at_least c.change-item.is) c.in_err-put_page.ensures.stopped c.loop-left.invariant.begun)
