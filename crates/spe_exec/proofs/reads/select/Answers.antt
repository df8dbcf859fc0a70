use Rattle.std.proofs.Common.{List, ap, ◌∙◌}
use Rattle.spe_model.specs.declared.reply.Reply.{Reply}
use Rattle.spe_model.specs.declared.reply.Reply.TheVariants as replies
use Rattle.spe_space.specs.Calls.{sight}
use Rattle.spe_search.specs.declared.pairs.Pair.{Pair}
use Rattle.spe_exec.proofs.ReadsLemmas.{select_shown, shown_rows, shown_damage, damage_not, row_cause, walk_cause}
use Rattle.spe_exec.proofs.reads.select.Goals as goal

pub returns-in-Rows-clause-answer : goal.returns-in-Rows-clause-answer
returns-in-Rows-clause-answer g c = λ pages agrees rows of.
    ap replies.Rows c.new.ensures
    ∙ select_shown (g.S.Pages.used c.args.space.now) (sight g.S.Pages c.args.space.now pages) c.args.entry.now c.args.all c.args.columns.now c.in_ok-names.names.items c.as_slice.result.now c.args.conds.now
    c.in-Ok.pairs c.as_slice-2.result.now rows c.in-Rows.rows c.in_ok-names.ensures c.as_slice.ensures.value c.as_slice-2.ensures
    (shown_rows c.args.entry.now.table c.args.all c.as_slice.result.now c.as_slice-2.result.now c.in_ok-rows.field-0 c.in-Rows.rows c.in-Rows.is c.in_ok-rows.ensures) of
    (λ height tree. c.in-Ok.ensures.found pages agrees height tree)

pub returns-clause-answer : goal.returns-clause-answer
returns-clause-answer g c = λ pages agrees rows of.
    damage_not (g.S.Pages.used c.args.space.now) (sight g.S.Pages c.args.space.now pages) c.args.entry.now c.args.conds.now c.in-Ok.pairs c.as_slice-2.result.now rows c.in-Damage.leaf c.as_slice-2.ensures of
    (λ height tree. c.in-Ok.ensures.found pages agrees height tree)
    (shown_damage c.args.entry.now.table c.args.all c.as_slice.result.now c.as_slice-2.result.now c.in_ok-rows.field-0 c.in-Damage.leaf c.in-Damage.is c.in_ok-rows.ensures)

pub returns-clause-damage : goal.returns-clause-damage
returns-clause-damage g c = λ pages agrees.
    row_cause Reply (g.S.Pages.used c.args.space.now) (sight g.S.Pages c.args.space.now pages) c.args.entry.now c.in-Ok.pairs c.as_slice-2.result.now c.in-Damage.leaf c.as_slice-2.ensures
    (λ row has. c.in-Ok.ensures.leaves pages agrees row has)
    (shown_damage c.args.entry.now.table c.args.all c.as_slice.result.now c.as_slice-2.result.now c.in_ok-rows.field-0 c.in-Damage.leaf c.in-Damage.is c.in_ok-rows.ensures)

pub returns-in-Err-clause-damage : goal.returns-in-Err-clause-damage
returns-in-Err-clause-damage g c = λ pages agrees.
    walk_cause (List Pair) Reply (g.S.Pages.used c.args.space.now) (sight g.S.Pages c.args.space.now pages) c.args.entry.now c.in-Err.fault (c.in-Err.ensures.damage pages agrees)
