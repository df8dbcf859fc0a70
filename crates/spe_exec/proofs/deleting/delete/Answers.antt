use Rattle.std.proofs.Common.{◌≡◌, ◌∙◌, map, sym, ap, length, subst}
use Rattle.spe_model.specs.declared.catalog.Entry.{Entry}
use Rattle.spe_model.specs.Conditions.{chosen}
use Rattle.spe_model.specs.Standing.{AreTableRows}
use Rattle.spe_space.specs.declared.fault.SpaceFault.TheVariants.{Memory}
use Rattle.spe_space.specs.declared.fault.TreeFault.TheVariants.{Space}
use Rattle.spe_search.specs.Pairs.{pair_seen}
use Rattle.spe_modify.proofs.ServedLemmas.{alone_there}
use Rattle.spe_exec.specs.Deletes.{AreRowids, rowids_of}
use Rattle.spe_exec.specs.Rows.{IsDamaged}
use Rattle.spe_exec.proofs.GetsLemmas.{open_read}
use Rattle.spe_exec.proofs.DeletingLemmas.{carries_deleted, fails_deleted, none_damaged}
use Rattle.spe_exec.proofs.UpdatingLemmas.{chosen_gets, chosen_sound, chosen_there, fault_rows}
use Rattle.spe_exec.proofs.deleting.delete.Goals as goal

pub returns-in-Err-clause-carries : goal.returns-in-Err-clause-carries
returns-in-Err-clause-carries g c = λ pages t agrees is same.
    let s = c.args.space.now in
    let mid = c.chosen_pairs.new.space in
    let root = c.args.entry.now.root in
    let conds = c.args.conds.now in
    let reads = c.chosen_pairs.ensures.kept in
    let alone = alone_there g.S.Pages s pages root t c.table_law.ensures.table is in
    let gets = chosen_gets g.S.Pages s mid pages root t conds c.shifts_law.ensures.reads is agrees reads c.chosen_pairs.ensures.adds in
    fault_rows g.S.Pages s mid pages t _ _ c.in-Err.fault c.shifts_law.ensures.spares_more gets
    (chosen_sound g.S.Pages s mid pages root t conds (map pair_seen) c.in-Err.fault is reads alone
    (λ height tree. c.in-Err.ensures.found pages agrees height tree) (λ height tree. c.in-Err.ensures.page_out pages agrees height tree))

pub returns-in-Err-rowids_of-clause-carries : goal.returns-in-Err-rowids_of-clause-carries
returns-in-Err-rowids_of-clause-carries g c = λ pages t agrees is same.
    let s = c.args.space.now in
    let mid = c.chosen_pairs.new.space in
    let root = c.args.entry.now.root in
    let conds = c.args.conds.now in
    let reads = c.chosen_pairs.ensures.kept in
    let gets = chosen_gets g.S.Pages s mid pages root t conds c.shifts_law.ensures.reads is agrees reads c.chosen_pairs.ensures.adds in
    fault_rows g.S.Pages s mid pages t _ _ (Space Memory) c.shifts_law.ensures.spares_more gets (tt, tt)

pub returns-in-Ok-Damage-clause-carries : goal.returns-in-Ok-Damage-clause-carries
returns-in-Ok-Damage-clause-carries g c = λ pages t agrees is same.
    let s = c.args.space.now in
    let mid = c.chosen_pairs.new.space in
    let root = c.args.entry.now.root in
    let conds = c.args.conds.now in
    let reads = c.chosen_pairs.ensures.kept in
    let alone = alone_there g.S.Pages s pages root t c.table_law.ensures.table is in
    let slice = c.as_slice.result.now in
    let there : AreTableRows t.entry.table (map pair_seen slice) (chosen conds t.rows) = chosen_there g.S.Pages s pages root t conds c.in-Ok.pairs slice c.as_slice.ensures is alone
    (λ height tree. c.in-Ok.ensures.found pages agrees height tree) in
    let bad : IsDamaged c.args.entry.now.table slice c.in-Ok-Damage.leaf = subst (AreRowids c.args.entry.now.table slice) c.in-Ok-Damage.field-0-is c.in-Ok-Damage.ensures in
    absurd (none_damaged t.entry.table slice (chosen conds t.rows) c.in-Ok-Damage.leaf there
    (subst (λ (e : Entry). IsDamaged e.table slice c.in-Ok-Damage.leaf) (sym same) bad))

pub returns-in-Ok-remove_rows-clause-carries : goal.returns-in-Ok-remove_rows-clause-carries
returns-in-Ok-remove_rows-clause-carries g c = λ pages t agrees is same.
    let new = c.remove_rows.new.space in
    let agrees_mid = c.remove_rows.ensures.kept.earlier pages agrees in
    let s = c.args.space.now in
    let mid = c.chosen_pairs.new.space in
    let root = c.args.entry.now.root in
    let conds = c.args.conds.now in
    let reads = c.chosen_pairs.ensures.kept in
    let alone = alone_there g.S.Pages s pages root t c.table_law.ensures.table is in
    let gets = chosen_gets g.S.Pages s mid pages root t conds c.shifts_law.ensures.reads is agrees_mid reads c.chosen_pairs.ensures.adds in
    let slice = c.as_slice.result.now in
    let there : AreTableRows t.entry.table (map pair_seen slice) (chosen conds t.rows) = chosen_there g.S.Pages s pages root t conds c.in-Ok.pairs slice c.as_slice.ensures is alone
    (λ height tree. c.in-Ok.ensures.found pages agrees_mid height tree) in
    let open_ = open_read g.S.Pages s mid pages root t agrees_mid reads is in
    let rowids = c.as_slice-2.result.now in
    let all : c.in-Ok-Sound.rowids.items ≡ rowids_of slice = subst (AreRowids c.args.entry.now.table slice) c.in-Ok-Sound.field-0-is c.in-Ok-Sound.ensures in
    carries_deleted g.S.Pages s mid new pages root t conds slice rowids c.count_of.result is alone there (c.as_slice-2.ensures.value ∙ all)
    (c.count_of.ensures ∙ ap length (c.as_slice-in-Ok-remove_rows.ensures.value ∙ sym c.as_slice-2.ensures.value))
    c.shifts_law.ensures.both c.shifts_law.ensures.spares reads gets (c.in-Ok-remove_rows.ensures.few pages t agrees open_)
    (c.in-Ok-remove_rows.ensures.removed pages t agrees open_)

pub returns-clause-carries : goal.returns-clause-carries
returns-clause-carries g c = λ pages t agrees is same.
    let new = c.remove_rows.new.space in
    let agrees_mid = c.remove_rows.ensures.kept.earlier pages agrees in
    let s = c.args.space.now in
    let mid = c.chosen_pairs.new.space in
    let root = c.args.entry.now.root in
    let conds = c.args.conds.now in
    let reads = c.chosen_pairs.ensures.kept in
    let gets = chosen_gets g.S.Pages s mid pages root t conds c.shifts_law.ensures.reads is agrees_mid reads c.chosen_pairs.ensures.adds in
    let open_ = open_read g.S.Pages s mid pages root t agrees_mid reads is in
    fails_deleted g.S.Pages s mid new pages t _ c.in-Err-remove_rows.fault c.shifts_law.ensures.both c.shifts_law.ensures.spares reads gets (c.in-Err-remove_rows.ensures.few pages t agrees open_)
    (λ unsealed. c.in-Err-remove_rows.ensures.likely pages t agrees open_ unsealed)
