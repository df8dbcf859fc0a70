use Rattle.std.proofs.Common.{◌%◌, ◌^◌, ◌<◌, arith}
use Rattle.spe_rewrite.proofs.ClauseLemmas.{OnOk-map, rewritten, stops}
use Rattle.spe_rewrite.proofs.rewriting.rewrite.Goals as goal

pub returns-clause-rewritten : goal.returns-clause-rewritten
returns-clause-rewritten g c =
    let small : c.args.made % 2 ^ 32 < 2 ^ 32 = omega arith in
    OnOk-map c.rewrite_files.result
    (rewritten c.args.page_size c.args.count c.args.changes.now c.rewrite_turns.ensures.turns c.requires.changes c.requires.low (c.args.made % 2 ^ 32) small
    (g.D.Disk.told c.args.disk.now) _ c.requires.may)
    (rw c.as_slice.ensures at c.rewrite_files.ensures.made)

pub returns-clause-stops : goal.returns-clause-stops
returns-clause-stops g c =
    let small : c.args.made % 2 ^ 32 < 2 ^ 32 = omega arith in
    stops c.args.page_size c.args.count c.args.changes.now c.rewrite_turns.ensures.turns c.requires.changes c.requires.low (c.args.made % 2 ^ 32) small
    (g.D.Disk.told c.args.disk.now) _ c.requires.may
    (rw c.as_slice.ensures at c.rewrite_files.ensures.cut)
