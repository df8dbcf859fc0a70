use Rattle.spe_model.specs.Tree.{tree_rows}
use Rattle.spe_space.specs.Calls.{sight}
use Rattle.spe_stream.proofs.TableLemmas.{all_put, from_new, front_put, walk_cause, walk_puts, walk_says, walk_shows}
use Rattle.spe_stream.proofs.table.put_table.Goals as goal

pub returns-clause-rows : goal.returns-clause-rows
returns-clause-rows g c = λ pages agrees all of.
    let new = c.new-taker.ensures in
    let hands = c.for_each_row-walked.ensures.rows in
    let puts = from_new new.table new.printer new.count new.shown new.flaw hands.taken.1 in
    let shown = sight g.S.Pages c.args.space.now pages in
    let found = (hands.are pages agrees).found of.height of.tree in
    let taker = c.for_each_row-walked.new.taker in
    rw c.end_of-walk.ensures
    (walk_puts c.args.table.now (tree_rows (g.S.Pages.used c.args.space.now) shown of.height c.args.root) all c.for_each_row-walked.result taker.flaw _ _ _ taker.printer _ c.finish-sink.result puts found of.rows_are
    c.put_last.ensures.counts c.finish-sink.ensures.counts)

pub returns-clause-text : goal.returns-clause-text
returns-clause-text g c =
    let new = c.new-taker.ensures in
    all_put c.end_of-walk.result (from_new new.table new.printer new.count new.shown new.flaw c.for_each_row-walked.ensures.rows.taken.1) c.put_last.ensures c.finish-sink.ensures

pub returns-clause-some : goal.returns-clause-some
returns-clause-some g c =
    let new = c.new-taker.ensures in
    front_put c.end_of-walk.result (from_new new.table new.printer new.count new.shown new.flaw c.for_each_row-walked.ensures.rows.taken.1) c.put_last.ensures c.finish-sink.ensures

pub returns-clause-damage : goal.returns-clause-damage
returns-clause-damage g c = λ pages agrees.
    let new = c.new-taker.ensures in
    let hands = c.for_each_row-walked.ensures.rows in
    let puts = from_new new.table new.printer new.count new.shown new.flaw hands.taken.1 in
    let taker = c.for_each_row-walked.new.taker in
    let shown = sight g.S.Pages c.args.space.now pages in
    rw c.end_of-walk.ensures
    (walk_cause (g.S.Pages.used c.args.space.now) shown c.args.table.now c.args.root c.for_each_row-walked.result taker.flaw taker.printer puts (hands.are pages agrees).read
    (c.for_each_row-walked.ensures.damage pages agrees))

pub returns-clause-stored : goal.returns-clause-stored
returns-clause-stored g c = λ pages agrees height tree.
    let new = c.new-taker.ensures in
    let hands = c.for_each_row-walked.ensures.rows in
    let puts = from_new new.table new.printer new.count new.shown new.flaw hands.taken.1 in
    let shown = sight g.S.Pages c.args.space.now pages in
    let taker = c.for_each_row-walked.new.taker in
    rw c.end_of-walk.ensures
    (walk_says c.args.table.now (tree_rows (g.S.Pages.used c.args.space.now) shown height c.args.root) c.for_each_row-walked.result taker.flaw _ _ _ taker.printer _ c.finish-sink.result puts
    ((hands.are pages agrees).found height tree) c.put_last.ensures.counts c.finish-sink.ensures.counts)

pub returns-clause-shown : goal.returns-clause-shown
returns-clause-shown g c = λ pages agrees.
    let new = c.new-taker.ensures in
    let hands = c.for_each_row-walked.ensures.rows in
    walk_shows (g.S.Pages.used c.args.space.now) (sight g.S.Pages c.args.space.now pages) c.args.table.now c.args.root
    (from_new new.table new.printer new.count new.shown new.flaw hands.taken.1) (hands.are pages agrees).read
