use Rattle.std.proofs.Common.{List, map, ap, subst, ◌∙◌}
use Rattle.spe_model.specs.declared.catalog.Entry.{Entry}
use Rattle.spe_model.specs.Tree.{tree_rows}
use Rattle.spe_space.specs.Calls.{sight}
use Rattle.spe_search.specs.declared.pairs.Pair.{Pair}
use Rattle.spe_search.specs.Pairs.{pair_seen}
use Rattle.spe_search.proofs.WholeLemmas.{all_between}
use Rattle.spe_catalog.specs.declared.reading.Reading.{Reading}
use Rattle.spe_catalog.specs.Reading.{Tells}
use Rattle.spe_catalog.specs.Asks.{MissesOfCatalog}
use Rattle.spe_catalog.proofs.PassedLemmas.{handed_on}
use Rattle.spe_catalog.proofs.ReaderLemmas.{rows_found, fault_found, row_cause}
use Rattle.spe_catalog.proofs.AsksLemmas.{range_adds, range_misses, rows_read, roots_add, roots_miss}
use Rattle.spe_catalog.proofs.reader.catalog_in.Goals as goal

pub returns-in-Rows-clause-found : goal.returns-in-Rows-clause-found
returns-in-Rows-clause-found g c = λ pages agrees height tree.
    let usable = g.S.Pages.used c.args.space.now in
    let shown = sight g.S.Pages c.args.space.now pages in
    rows_found shown (map pair_seen c.as_slice.result.now) (tree_rows usable shown height 1) c.in-Rows.rows.items c.as_slice-in-Rows.result.now c.catalog_of.result
    (ap (λ (xs : List Pair). map pair_seen xs) c.as_slice.ensures ∙ (c.in_ok-pairs.ensures.found pages (c.catalog_of.ensures.kept.earlier pages agrees) height tree ∙ all_between usable shown height 1 tree))
    c.as_slice-in-Rows.ensures.value
    (subst (λ (r : Reading). Tells c.as_slice.result.now r) c.in-Rows.is c.in_ok-rows.ensures)
    (λ numbers. rw c.in_ok-pairs.ensures.kept.laid at (c.catalog_of.ensures.made pages agrees numbers))

pub returns-clause-found : goal.returns-clause-found
returns-clause-found g c = λ pages agrees height tree.
    let usable = g.S.Pages.used c.args.space.now in
    let shown = sight g.S.Pages c.args.space.now pages in
    fault_found shown c.as_slice.result.now (tree_rows usable shown height 1) c.in-Damage.leaf
    (ap (λ (xs : List Pair). map pair_seen xs) c.as_slice.ensures ∙ (c.in_ok-pairs.ensures.found pages agrees height tree ∙ all_between usable shown height 1 tree))
    (subst (λ (r : Reading). Tells c.as_slice.result.now r) c.in-Damage.is c.in_ok-rows.ensures)

pub returns-clause-damage : goal.returns-clause-damage
returns-clause-damage g c = λ pages agrees.
    let usable = g.S.Pages.used c.args.space.now in
    let shown = sight g.S.Pages c.args.space.now pages in
    row_cause (List Entry) usable shown c.in_ok-pairs.pairs c.as_slice.result.now c.in-Damage.leaf c.as_slice.ensures (λ row has. c.in_ok-pairs.ensures.leaves pages agrees row has)
    (λ height tree. c.in_ok-pairs.ensures.found pages agrees height tree ∙ all_between usable shown height 1 tree)
    (subst (λ (r : Reading). Tells c.as_slice.result.now r) c.in-Damage.is c.in_ok-rows.ensures)

pub returns-in_err-pairs-clause-adds : goal.returns-in_err-pairs-clause-adds
returns-in_err-pairs-clause-adds g c = range_adds g.S.Pages c.args.space.now c.range_with_leaves.new.space c.in_err-pairs.ensures.adds

pub returns-in_err-pairs-clause-page_out : goal.returns-in_err-pairs-clause-page_out
returns-in_err-pairs-clause-page_out g c =
    handed_on (λ r. MissesOfCatalog g.S.Pages c.args.space.now c.range_with_leaves.new.space r) c.from_residual.result c.in_err-pairs.field-0.0 c.from_residual.ensures.1
    (range_misses (List Pair) (List Entry) g.S.Pages c.args.space.now c.range_with_leaves.new.space c.in_err-pairs.field-0.0 c.in_err-pairs.ensures.page_out)

pub returns-in_err-rows-clause-adds : goal.returns-in_err-rows-clause-adds
returns-in_err-rows-clause-adds g c = range_adds g.S.Pages c.args.space.now c.range_with_leaves.new.space c.in_ok-pairs.ensures.adds

pub returns-clause-adds : goal.returns-clause-adds
returns-clause-adds g c = range_adds g.S.Pages c.args.space.now c.range_with_leaves.new.space c.in_ok-pairs.ensures.adds

pub returns-in-Rows-clause-adds : goal.returns-in-Rows-clause-adds
returns-in-Rows-clause-adds g c =
    roots_add g.S.Pages c.args.space.now c.range_with_leaves.new.space c.catalog_of.new.space c.as_slice-in-Rows.result.now c.catalog_of.ensures.kept
    (λ pages agrees height tree. let usable = g.S.Pages.used c.args.space.now in
    let shown = sight g.S.Pages c.args.space.now pages in
    rows_read (map pair_seen c.as_slice.result.now) (tree_rows usable shown height 1) c.in-Rows.rows.items c.as_slice-in-Rows.result.now
    (ap (λ (xs : List Pair). map pair_seen xs) c.as_slice.ensures ∙ (c.in_ok-pairs.ensures.found pages agrees height tree ∙ all_between usable shown height 1 tree)) c.as_slice-in-Rows.ensures.value
    (subst (λ (r : Reading). Tells c.as_slice.result.now r) c.in-Rows.is c.in_ok-rows.ensures))
    (range_adds g.S.Pages c.args.space.now c.range_with_leaves.new.space c.in_ok-pairs.ensures.adds) c.catalog_of.ensures.adds

pub returns-in-Rows-clause-page_out : goal.returns-in-Rows-clause-page_out
returns-in-Rows-clause-page_out g c =
    roots_miss g.S.Pages c.args.space.now c.range_with_leaves.new.space c.catalog_of.new.space c.as_slice-in-Rows.result.now c.catalog_of.result c.catalog_of.ensures.kept
    (λ pages agrees height tree. let usable = g.S.Pages.used c.args.space.now in
    let shown = sight g.S.Pages c.args.space.now pages in
    rows_read (map pair_seen c.as_slice.result.now) (tree_rows usable shown height 1) c.in-Rows.rows.items c.as_slice-in-Rows.result.now
    (ap (λ (xs : List Pair). map pair_seen xs) c.as_slice.ensures ∙ (c.in_ok-pairs.ensures.found pages agrees height tree ∙ all_between usable shown height 1 tree)) c.as_slice-in-Rows.ensures.value
    (subst (λ (r : Reading). Tells c.as_slice.result.now r) c.in-Rows.is c.in_ok-rows.ensures)) c.catalog_of.ensures.page_out
