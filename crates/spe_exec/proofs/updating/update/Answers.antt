use Rattle.std.proofs.Common.{◌≡◌, ◌∙◌, All, List, length, map, sym, ap, subst, true}
use Rattle.std.specs.List.{list_any}
use Rattle.std.specs.Option.{option_copied}
use Rattle.spe_model.specs.declared.catalog.Entry.{Entry}
use Rattle.spe_model.specs.declared.reply.Refusal.TheVariants.{TooLarge}
use Rattle.spe_model.specs.declared.reply.Reply.TheVariants as replies
use Rattle.spe_model.specs.Assigned.{assignments, by_column}
use Rattle.spe_model.specs.Conditions.{chosen}
use Rattle.spe_model.specs.Database.{Row}
use Rattle.spe_model.specs.Standing.{AreTableRows}
use Rattle.spe_space.specs.declared.fault.SpaceFault.TheVariants.{Memory}
use Rattle.spe_space.specs.declared.fault.TreeFault.TheVariants.{Space}
use Rattle.spe_search.specs.Pairs.{pair_seen}
use Rattle.spe_modify.specs.declared.rows.StoredRow.{StoredRow}
use Rattle.spe_modify.specs.Rows.{IsShort}
use Rattle.spe_modify.proofs.ServedLemmas.{alone_there}
use Rattle.spe_exec.specs.Changing.{AreChanges, AreRecords, AreShortChanges, IsGiven, changed, is_long}
use Rattle.spe_exec.proofs.GetsLemmas.{open_read}
use Rattle.spe_exec.proofs.UpdateLemmas.{given_is}
use Rattle.spe_exec.proofs.UpdatingLemmas.{are_rows, carries_rows, chosen_gets, chosen_sound, chosen_there, fails_rows, fault_rows, refused_is, refused_rows}
use Rattle.spe_exec.proofs.updating.update.Goals as goal

pub returns-in-Err-clause-carries : goal.returns-in-Err-clause-carries
returns-in-Err-clause-carries g c = λ pages t agrees is same.
    let agrees_mid = agrees in
    let s = c.args.space.now in
    let mid = c.chosen_pairs.new.space in
    let root = c.args.entry.now.root in
    let q = c.args.statement.now in
    let conds = c.args.conds.now in
    let reads = c.chosen_pairs.ensures.kept in
    let alone = alone_there g.S.Pages s pages root t c.table_law.ensures.table is in
    let gets = chosen_gets g.S.Pages s mid pages root t conds c.shifts_law.ensures.reads is agrees_mid reads c.chosen_pairs.ensures.adds in
    fault_rows g.S.Pages s mid pages t _ _ c.in-Err.fault c.shifts_law.ensures.spares_more gets
    (chosen_sound g.S.Pages s mid pages root t conds (map pair_seen) c.in-Err.fault is reads alone
    (λ height tree. c.in-Err.ensures.found pages agrees height tree) (λ height tree. c.in-Err.ensures.page_out pages agrees height tree))

pub change_rows-requires : goal.change_rows-requires
change_rows-requires g c =
    let table = c.args.entry.now.table in
    let e = ap (map option_copied) c.as_slice.ensures.value ∙ c.in_ok-given.ensures in
    record { given = subst (IsGiven table) (sym e) (given_is table c.args.statement.now) }

pub returns-in-Err-change_rows-clause-carries : goal.returns-in-Err-change_rows-clause-carries
returns-in-Err-change_rows-clause-carries g c = λ pages t agrees is same.
    let s = c.args.space.now in
    let mid = c.chosen_pairs.new.space in
    fault_rows g.S.Pages s mid pages t _ _ (Space Memory) c.shifts_law.ensures.spares_more
    (chosen_gets g.S.Pages s mid pages c.args.entry.now.root t c.args.conds.now c.shifts_law.ensures.reads is agrees c.chosen_pairs.ensures.kept c.chosen_pairs.ensures.adds) (tt, tt)

pub returns-in-Ok-Long-clause-carries : goal.returns-in-Ok-Long-clause-carries
returns-in-Ok-Long-clause-carries g c = λ pages t agrees is same.
    let agrees_mid = agrees in
    let s = c.args.space.now in
    let mid = c.chosen_pairs.new.space in
    let root = c.args.entry.now.root in
    let q = c.args.statement.now in
    let conds = c.args.conds.now in
    let reads = c.chosen_pairs.ensures.kept in
    let alone = alone_there g.S.Pages s pages root t c.table_law.ensures.table is in
    let gets = chosen_gets g.S.Pages s mid pages root t conds c.shifts_law.ensures.reads is agrees_mid reads c.chosen_pairs.ensures.adds in
    let given = map option_copied c.as_slice.result.now in
    let e : given ≡ by_column t.entry.table (assignments t.entry.table q) =
    ap (map option_copied) c.as_slice.ensures.value ∙ c.in_ok-given.ensures ∙ ap (λ (en : Entry). by_column en.table (assignments en.table q)) (sym same) in
    let slice = c.as_slice-2.result.now in
    let xs = map pair_seen slice in
    let there : AreTableRows t.entry.table xs (chosen conds t.rows) = chosen_there g.S.Pages s pages root t conds c.in-Ok.pairs slice c.as_slice-2.ensures is alone
    (λ height tree. c.in-Ok.ensures.found pages agrees_mid height tree) in
    let made : (rows : List Row) → AreTableRows c.args.entry.now.table xs rows → list_any (is_long c.args.entry.now.table) (map (changed given) rows) ≡ true =
    subst (AreChanges c.args.entry.now.table given xs) c.in-Ok-Long.field-0-is c.in-Ok-Long.ensures.changes in
    let all : (rows : List Row) → AreTableRows t.entry.table xs rows → list_any (is_long t.entry.table) (map (changed given) rows) ≡ true =
    subst (λ (en : Entry). (rows : List Row) → AreTableRows en.table xs rows → list_any (is_long en.table) (map (changed given) rows) ≡ true) (sym same) made in
    refused_rows g.S.Pages s mid pages root t _ _ (replies.Refused TooLarge) is agrees reads c.shifts_law.ensures.spares_more gets
    (refused_is t.entry.table t.rows q given conds c.requires.update e c.requires.conds (all (chosen conds t.rows) there))

pub returns-in-Ok-Damage-clause-carries : goal.returns-in-Ok-Damage-clause-carries
returns-in-Ok-Damage-clause-carries g c = λ pages t agrees is same.
    let agrees_mid = agrees in
    let s = c.args.space.now in
    let mid = c.chosen_pairs.new.space in
    let root = c.args.entry.now.root in
    let q = c.args.statement.now in
    let conds = c.args.conds.now in
    let reads = c.chosen_pairs.ensures.kept in
    let alone = alone_there g.S.Pages s pages root t c.table_law.ensures.table is in
    let gets = chosen_gets g.S.Pages s mid pages root t conds c.shifts_law.ensures.reads is agrees_mid reads c.chosen_pairs.ensures.adds in
    let given = map option_copied c.as_slice.result.now in
    let e : given ≡ by_column t.entry.table (assignments t.entry.table q) =
    ap (map option_copied) c.as_slice.ensures.value ∙ c.in_ok-given.ensures ∙ ap (λ (en : Entry). by_column en.table (assignments en.table q)) (sym same) in
    let slice = c.as_slice-2.result.now in
    let xs = map pair_seen slice in
    let there : AreTableRows t.entry.table xs (chosen conds t.rows) = chosen_there g.S.Pages s pages root t conds c.in-Ok.pairs slice c.as_slice-2.ensures is alone
    (λ height tree. c.in-Ok.ensures.found pages agrees_mid height tree) in
    let made : (rows : List Row) → AreTableRows c.args.entry.now.table xs rows → ⊥ =
    subst (AreChanges c.args.entry.now.table given xs) c.in-Ok-Damage.field-0-is c.in-Ok-Damage.ensures.changes in
    absurd (made (chosen conds t.rows) (subst (λ (en : Entry). AreTableRows en.table xs (chosen conds t.rows)) same there))

pub replace_rows-requires-clause-most : goal.replace_rows-requires-clause-most
replace_rows-requires-clause-most g c =
    subst (All IsShort) (sym c.as_slice-3.ensures.value) (subst AreShortChanges c.in-Ok-Records.field-0-is c.in-Ok-Records.ensures.short)

pub returns-in-Ok-replace_rows-clause-carries : goal.returns-in-Ok-replace_rows-clause-carries
returns-in-Ok-replace_rows-clause-carries g c = λ pages t agrees is same.
    let new = c.replace_rows.new.space in
    let agrees_mid = c.replace_rows.ensures.kept.earlier pages agrees in
    let s = c.args.space.now in
    let mid = c.chosen_pairs.new.space in
    let root = c.args.entry.now.root in
    let q = c.args.statement.now in
    let conds = c.args.conds.now in
    let reads = c.chosen_pairs.ensures.kept in
    let alone = alone_there g.S.Pages s pages root t c.table_law.ensures.table is in
    let gets = chosen_gets g.S.Pages s mid pages root t conds c.shifts_law.ensures.reads is agrees_mid reads c.chosen_pairs.ensures.adds in
    let given = map option_copied c.as_slice.result.now in
    let e : given ≡ by_column t.entry.table (assignments t.entry.table q) =
    ap (map option_copied) c.as_slice.ensures.value ∙ c.in_ok-given.ensures ∙ ap (λ (en : Entry). by_column en.table (assignments en.table q)) (sym same) in
    let slice = c.as_slice-2.result.now in
    let xs = map pair_seen slice in
    let there : AreTableRows t.entry.table xs (chosen conds t.rows) = chosen_there g.S.Pages s pages root t conds c.in-Ok.pairs slice c.as_slice-2.ensures is alone
    (λ height tree. c.in-Ok.ensures.found pages agrees_mid height tree) in
    let stored = c.as_slice-3.result.now in
    let rows = map (changed given) (chosen conds t.rows) in
    let made : (rows : List Row) → AreTableRows c.args.entry.now.table xs rows → AreRecords c.args.entry.now.table c.in-Ok-Records.stored.items (map (changed given) rows) =
    subst (AreChanges c.args.entry.now.table given xs) c.in-Ok-Records.field-0-is c.in-Ok-Records.ensures.changes in
    let all : (rows : List Row) → AreTableRows t.entry.table xs rows → AreRecords t.entry.table c.in-Ok-Records.stored.items (map (changed given) rows) =
    subst (λ (en : Entry). (rows : List Row) → AreTableRows en.table xs rows → AreRecords en.table c.in-Ok-Records.stored.items (map (changed given) rows)) (sym same) made in
    let are : AreRecords t.entry.table stored rows = subst (λ (ss : List StoredRow). AreRecords t.entry.table ss rows) (sym c.as_slice-3.ensures.value) (all (chosen conds t.rows) there) in
    let open_ = open_read g.S.Pages s mid pages root t agrees_mid reads is in
    let kept = are_rows t.entry.table stored rows are in
    carries_rows g.S.Pages s mid new pages root t q given conds stored c.count_of.result is alone c.requires.update e c.requires.conds are
    (c.count_of.ensures ∙ ap length (c.as_slice-in-Ok-replace_rows.ensures.value ∙ sym c.as_slice-3.ensures.value))
    c.shifts_law.ensures.both c.shifts_law.ensures.spares reads gets (c.in-Ok-replace_rows.ensures.few pages t agrees open_ rows kept)
    (c.in-Ok-replace_rows.ensures.changed pages t agrees open_ rows kept)

pub returns-clause-carries : goal.returns-clause-carries
returns-clause-carries g c = λ pages t agrees is same.
    let new = c.replace_rows.new.space in
    let agrees_mid = c.replace_rows.ensures.kept.earlier pages agrees in
    let s = c.args.space.now in
    let mid = c.chosen_pairs.new.space in
    let root = c.args.entry.now.root in
    let q = c.args.statement.now in
    let conds = c.args.conds.now in
    let reads = c.chosen_pairs.ensures.kept in
    let alone = alone_there g.S.Pages s pages root t c.table_law.ensures.table is in
    let gets = chosen_gets g.S.Pages s mid pages root t conds c.shifts_law.ensures.reads is agrees_mid reads c.chosen_pairs.ensures.adds in
    let given = map option_copied c.as_slice.result.now in
    let e : given ≡ by_column t.entry.table (assignments t.entry.table q) =
    ap (map option_copied) c.as_slice.ensures.value ∙ c.in_ok-given.ensures ∙ ap (λ (en : Entry). by_column en.table (assignments en.table q)) (sym same) in
    let slice = c.as_slice-2.result.now in
    let xs = map pair_seen slice in
    let there : AreTableRows t.entry.table xs (chosen conds t.rows) = chosen_there g.S.Pages s pages root t conds c.in-Ok.pairs slice c.as_slice-2.ensures is alone
    (λ height tree. c.in-Ok.ensures.found pages agrees_mid height tree) in
    let stored = c.as_slice-3.result.now in
    let rows = map (changed given) (chosen conds t.rows) in
    let made : (rows : List Row) → AreTableRows c.args.entry.now.table xs rows → AreRecords c.args.entry.now.table c.in-Ok-Records.stored.items (map (changed given) rows) =
    subst (AreChanges c.args.entry.now.table given xs) c.in-Ok-Records.field-0-is c.in-Ok-Records.ensures.changes in
    let all : (rows : List Row) → AreTableRows t.entry.table xs rows → AreRecords t.entry.table c.in-Ok-Records.stored.items (map (changed given) rows) =
    subst (λ (en : Entry). (rows : List Row) → AreTableRows en.table xs rows → AreRecords en.table c.in-Ok-Records.stored.items (map (changed given) rows)) (sym same) made in
    let are : AreRecords t.entry.table stored rows = subst (λ (ss : List StoredRow). AreRecords t.entry.table ss rows) (sym c.as_slice-3.ensures.value) (all (chosen conds t.rows) there) in
    let open_ = open_read g.S.Pages s mid pages root t agrees_mid reads is in
    let kept = are_rows t.entry.table stored rows are in
    fails_rows g.S.Pages s mid new pages t q given conds stored c.in-Err-replace_rows.fault c.requires.update e c.requires.conds are
    c.shifts_law.ensures.both c.shifts_law.ensures.spares reads gets (c.in-Err-replace_rows.ensures.few pages t agrees open_ rows kept)
    (λ unsealed. c.in-Err-replace_rows.ensures.likely pages t agrees open_ rows kept unsealed)
