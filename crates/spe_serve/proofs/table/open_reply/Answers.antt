use Rattle.std.proofs.Common.{ap, ◌∙◌, map, List}
use Rattle.spe_model.specs.Tree.{tree_rows}
use Rattle.spe_search.specs.declared.pairs.Pair.{Pair}
use Rattle.spe_search.specs.Pairs.{pair_seen}
use Rattle.spe_space.specs.Calls.{sight}
use Rattle.spe_serve.proofs.AskedLemmas.{range_asks}
use Rattle.spe_serve.specs.declared.reply.Reply.TheVariants as replies
use Rattle.spe_serve.proofs.RowLemmas.{rows_read, rows_unread}
use Rattle.spe_serve.proofs.DamageLemmas.{bad_record, walk_damage}
use Rattle.spe_serve.proofs.table.open_reply.Goals as goal

pub returns-in-Ok-2-clause-rows : goal.returns-in-Ok-2-clause-rows
returns-in-Ok-2-clause-rows g c = λ pages agrees rows of.
    let usable = g.S.Pages.used c.args.space.now in
    let shown = sight g.S.Pages c.args.space.now pages in
    let root = c.args.entry.now.root in
    ap replies.Rows
    (rows_read c.args.entry.now.table _ (tree_rows usable shown of.height root) c.in_ok-rows.field-0 c.in-Ok-2.rows rows
    (ap (map pair_seen) c.as_slice.ensures ∙ (c.in-Ok.ensures.found pages agrees of.height of.tree ∙ c.spans_the_table.ensures usable shown of.height root of.tree)) c.in_ok-rows.ensures
    c.in-Ok-2.is of.rows_are)

pub returns-clause-rows : goal.returns-clause-rows
returns-clause-rows g c = λ pages agrees rows of.
    let usable = g.S.Pages.used c.args.space.now in
    let shown = sight g.S.Pages c.args.space.now pages in
    let root = c.args.entry.now.root in
    absurd
    (rows_unread c.args.entry.now.table _ (tree_rows usable shown of.height root) c.in_ok-rows.field-0 c.in-Err-2.page rows
    (ap (map pair_seen) c.as_slice.ensures ∙ (c.in-Ok.ensures.found pages agrees of.height of.tree ∙ c.spans_the_table.ensures usable shown of.height root of.tree)) c.in_ok-rows.ensures
    c.in-Err-2.is of.rows_are)

pub returns-in-Err-clause-damage : goal.returns-in-Err-clause-damage
returns-in-Err-clause-damage g c = walk_damage (List Pair) g.S.Pages c.args.space.now c.range_with_leaves.new.space c.args.entry.now c.in-Err.fault c.in-Err.ensures.damage

pub returns-clause-damage : goal.returns-clause-damage
returns-clause-damage g c =
    bad_record g.S.Pages c.args.space.now c.range_with_leaves.new.space c.args.entry.now c.in-Ok.pairs _ c.in_ok-rows.field-0 c.in-Err-2.page c.as_slice.ensures c.in_ok-rows.ensures
    c.in-Err-2.is c.in-Ok.ensures.leaves

pub returns-in-Err-clause-asks : goal.returns-in-Err-clause-asks
returns-in-Err-clause-asks g c = range_asks g.S.Pages c.args.space.now c.range_with_leaves.new.space c.args.entry.now c.in-Err.fault c.in-Err.ensures.inside
