use Rattle.std.proofs.Common.{◌≡◌, ◌∙◌, ℕ, ℤ, List, true, drop, length, subst, sym, arith, to_z, of_z, w64, to_z-of_z}
use Rattle.spe_model.specs.declared.page.Cell.{Cell}
use Rattle.spe_model.specs.declared.page.Kind.TheVariants.{TableLeaf}
use Rattle.spe_model.specs.Standing.{all_pages}
use Rattle.spe_model.specs.Tree.{rank}
use Rattle.spe_space.specs.Calls.{sight}
use Rattle.spe_space.specs.Front.{number_in}
use Rattle.spe_format.specs.Canonical.{IsWritableCell}
use Rattle.spe_frame.specs.Held.{Spares}
use Rattle.spe_write.specs.Chain.{IsSureOfTree}
use Rattle.spe_insert.specs.Below.{Becomes, IsPage, IsPlaceFor, LacksRow, pages_for}
use Rattle.spe_insert.specs.LeafStep.{IsGap, leads_with}
use Rattle.spe_insert.specs.Place.{place_for}
use Rattle.spe_insert.specs.Edit.{puts}
use Rattle.spe_insert.specs.Run.{run_of}
use Rattle.spe_insert.proofs.GapLemmas.{all_fits, all_writable}
use Rattle.spe_insert.proofs.PutLeafLemmas.{Laws, at_zero, chain_spares, held_so, no_row_there, step_of, step_puts, step_spares}
use Rattle.spe_insert.proofs.leaf_step.put_among.Goals as goal

pub returns-in_default-clause-likely : goal.returns-in_default-clause-likely
returns-in_default-clause-likely g c = λ pages height low high agrees less at is lacks writable.
    let s = c.args.space.now in
    let same : to_z w64 (of_z w64 c.args.rowid) ≡ c.args.rowid = grind (arith, to_z-of_z) in
    let leads : leads_with c.args.rowid (drop (place_for (rank c.args.rowid) c.in-Ok.cells) c.in-Ok.cells) ≡ true =
    subst (λ (cs : List Cell). leads_with c.args.rowid (drop (place_for (rank c.args.rowid) cs) cs) ≡ true) c.as_slice.ensures
    (subst (λ (k : ℤ). leads_with k (drop (place_for (rank k) c.as_slice.result.now) c.as_slice.result.now) ≡ true) same (c.gap_of.ensures.there c.in_default.is)) in
    absurd (at_zero (λ (h : ℕ). IsPlaceFor g.S.Pages s pages h low high c.args.page c.args.rowid → LacksRow g.S.Pages s pages h c.args.page c.args.rowid → ⊥)
    (λ here lack. no_row_there g.S.Pages s pages low high c.args.page c.usable-usable.result c.args.rowid c.args.buf.now c.in-Ok.cells (place_for (rank c.args.rowid) c.in-Ok.cells)
    c.usable-usable.ensures.value here is c.in-Ok.ensures.leaf leads lack) height less at lacks)

pub returns-in-Err-write_cell-clause-spares : goal.returns-in-Err-write_cell-clause-spares
returns-in-Err-write_cell-clause-spares g c = λ pages height low high agrees less at is lacks.
    let s = c.args.space.now in
    chain_spares g.S.Pages c.shifts_law.ensures.spares_beside c.shifts_law.ensures.spares_more s c.write_cell.new.space pages
    (all_pages (g.S.Pages.used s) (sight g.S.Pages s pages) height c.args.page) height (length c.args.payload.now)
    (c.in-Err-write_cell.ensures.spares pages agrees at.ready (c.shifts_law.ensures.none s pages))

pub returns-in_err-cells-clause-spares : goal.returns-in_err-cells-clause-spares
returns-in_err-cells-clause-spares g c = λ pages height low high agrees less at is lacks.
    let s = c.args.space.now in
    chain_spares g.S.Pages c.shifts_law.ensures.spares_beside c.shifts_law.ensures.spares_more s c.write_cell.new.space pages
    (all_pages (g.S.Pages.used s) (sight g.S.Pages s pages) height c.args.page) height (length c.args.payload.now)
    (c.in-Ok-write_cell.ensures.spares pages agrees at.ready (c.shifts_law.ensures.none s pages))

pub lay_leaf-requires-clause-writable : goal.lay_leaf-requires-clause-writable
lay_leaf-requires-clause-writable g c =
    let same : to_z w64 (of_z w64 c.args.rowid) ≡ c.args.rowid = grind (arith, to_z-of_z) in
    all_writable c.usable-usable.result (g.S.Pages.used c.write_cell.new.space) c.args.rowid c.in-Ok.cells c.in_ok-cells.cells c.in-Some.place c.in-Ok-write_cell.cell
    (c.usable-usable.ensures.value ∙ sym c.in-Ok-write_cell.ensures.kept.used) c.in-Ok.ensures.leaf.writable (subst (λ (k : ℤ). IsGap (rank k) c.in-Ok.cells c.in-Some.place) same (subst (λ (cs : List Cell). IsGap (rank (to_z w64 (of_z w64 c.args.rowid))) cs c.in-Some.place) c.as_slice.ensures c.in-Some.ensures.gap))
    (c.in-Ok-write_cell.ensures.key ∙ same) (subst (λ (u : ℕ). IsWritableCell TableLeaf u c.in-Ok-write_cell.cell) (sym c.usable-usable.ensures.value) c.in-Ok-write_cell.ensures.form) c.in_ok-cells.ensures

pub lay_leaf-requires-clause-fits : goal.lay_leaf-requires-clause-fits
lay_leaf-requires-clause-fits g c =
    let same : to_z w64 (of_z w64 c.args.rowid) ≡ c.args.rowid = grind (arith, to_z-of_z) in
    let gap : IsGap (rank c.args.rowid) c.in-Ok.cells c.in-Some.place = subst (λ (k : ℤ). IsGap (rank k) c.in-Ok.cells c.in-Some.place) same (subst (λ (cs : List Cell). IsGap (rank (to_z w64 (of_z w64 c.args.rowid))) cs c.in-Some.place) c.as_slice.ensures c.in-Some.ensures.gap) in
    all_fits c.usable-usable.result (g.S.Pages.used c.write_cell.new.space) c.in-Ok.cells c.in_ok-cells.cells c.in-Some.place c.in-Ok-write_cell.cell
    (c.usable-usable.ensures.value ∙ sym c.in-Ok-write_cell.ensures.kept.used) gap.within c.in_ok-cells.ensures c.in-Ok.ensures.leaf.fits

pub returns-in-Ok-lay_leaf-clause-put : goal.returns-in-Ok-lay_leaf-clause-put
returns-in-Ok-lay_leaf-clause-put g c = λ pages height low high agrees less.
    let s = c.args.space.now in
    let a = c.write_cell.new.space in
    let b = c.lay_leaf.new.space in
    let same : to_z w64 (of_z w64 c.args.rowid) ≡ c.args.rowid = grind (arith, to_z-of_z) in
    let agrees_a = c.in-Ok-lay_leaf.ensures.kept.earlier pages agrees in
    let laws : Laws g.S.Pages = record {
      idle = c.shifts_law.ensures.idle;
      both = c.shifts_law.ensures.both;
      spares = c.shifts_law.ensures.spares;
      beside = c.shifts_law.ensures.beside;
      alike = c.shifts_law.ensures.alike;
      spares_beside = c.shifts_law.ensures.spares_beside;
      spares_alike = c.shifts_law.ensures.spares_alike;
      spares_more = c.shifts_law.ensures.spares_more;
      apart = c.shifts_law.ensures.apart;
      none = c.shifts_law.ensures.none;
      parts = c.leaf_law.ensures.parts;
      adds = c.row_law.ensures.added;
      stay = c.row_law.ensures.stay;
    } in
    at_zero (λ (h : ℕ). IsPlaceFor g.S.Pages s pages h low high c.args.page c.args.rowid → IsPage g.S.Pages s pages c.args.page c.args.buf.now
    → LacksRow g.S.Pages s pages h c.args.page c.args.rowid → Becomes g.S.Pages s b pages h low high c.args.page c.args.rowid (puts c.args.payload.now) (run_of c.in-Ok-lay_leaf.run'))
    (λ at is lacks.
    let x = step_of g.S.Pages s a pages low high c.args.page c.usable-usable.result c.args.rowid c.args.buf.now c.in-Ok.cells c.in-Some.place c.in-Ok-write_cell.cell c.args.payload.now
    c.usable-usable.ensures.value at is c.in-Ok.ensures.leaf (subst (λ (k : ℤ). IsGap (rank k) c.in-Ok.cells c.in-Some.place) same (subst (λ (cs : List Cell). IsGap (rank (to_z w64 (of_z w64 c.args.rowid))) cs c.in-Some.place) c.as_slice.ensures c.in-Some.ensures.gap)) (c.in-Ok-write_cell.ensures.payload pages agrees_a at.ready (c.shifts_law.ensures.none s pages))
    (c.in-Ok-write_cell.ensures.key ∙ same) in
    step_puts g.S.Pages laws x b c.in_ok-cells.cells (run_of c.in-Ok-lay_leaf.run') c.in_ok-cells.ensures (c.in-Ok-lay_leaf.ensures.laid pages agrees) c.in-Ok-lay_leaf.ensures.first lacks)
    height less

pub returns-in-Ok-lay_leaf-clause-spares : goal.returns-in-Ok-lay_leaf-clause-spares
returns-in-Ok-lay_leaf-clause-spares g c = λ pages height low high agrees less at is lacks.
    (returns-in-Ok-lay_leaf-clause-put g c pages height low high agrees less at is lacks).shifts.spares

pub returns-in-Err-lay_leaf-clause-spares : goal.returns-in-Err-lay_leaf-clause-spares
returns-in-Err-lay_leaf-clause-spares g c = λ pages height low high agrees less.
    let s = c.args.space.now in
    let a = c.write_cell.new.space in
    let b = c.lay_leaf.new.space in
    let same : to_z w64 (of_z w64 c.args.rowid) ≡ c.args.rowid = grind (arith, to_z-of_z) in
    let agrees_a = c.in-Err-lay_leaf.ensures.kept.earlier pages agrees in
    let laws : Laws g.S.Pages = record {
      idle = c.shifts_law.ensures.idle;
      both = c.shifts_law.ensures.both;
      spares = c.shifts_law.ensures.spares;
      beside = c.shifts_law.ensures.beside;
      alike = c.shifts_law.ensures.alike;
      spares_beside = c.shifts_law.ensures.spares_beside;
      spares_alike = c.shifts_law.ensures.spares_alike;
      spares_more = c.shifts_law.ensures.spares_more;
      apart = c.shifts_law.ensures.apart;
      none = c.shifts_law.ensures.none;
      parts = c.leaf_law.ensures.parts;
      adds = c.row_law.ensures.added;
      stay = c.row_law.ensures.stay;
    } in
    at_zero (λ (h : ℕ). IsPlaceFor g.S.Pages s pages h low high c.args.page c.args.rowid → IsPage g.S.Pages s pages c.args.page c.args.buf.now
    → LacksRow g.S.Pages s pages h c.args.page c.args.rowid → Spares g.S.Pages s b pages (all_pages (g.S.Pages.used s) (sight g.S.Pages s pages) h c.args.page)
    (pages_for (g.S.Pages.used s) h (length c.args.payload.now)))
    (λ at is lacks.
    let x = step_of g.S.Pages s a pages low high c.args.page c.usable-usable.result c.args.rowid c.args.buf.now c.in-Ok.cells c.in-Some.place c.in-Ok-write_cell.cell c.args.payload.now
    c.usable-usable.ensures.value at is c.in-Ok.ensures.leaf (subst (λ (k : ℤ). IsGap (rank k) c.in-Ok.cells c.in-Some.place) same (subst (λ (cs : List Cell). IsGap (rank (to_z w64 (of_z w64 c.args.rowid))) cs c.in-Some.place) c.as_slice.ensures c.in-Some.ensures.gap)) (c.in-Ok-write_cell.ensures.payload pages agrees_a at.ready (c.shifts_law.ensures.none s pages))
    (c.in-Ok-write_cell.ensures.key ∙ same) in
    step_spares g.S.Pages laws x b (c.in-Err-lay_leaf.ensures.spares pages agrees))
    height less

pub returns-in-Err-lay_leaf-clause-likely : goal.returns-in-Err-lay_leaf-clause-likely
returns-in-Err-lay_leaf-clause-likely g c = λ pages height low high agrees less at is lacks writable.
    let s = c.args.space.now in
    let a = c.write_cell.new.space in
    let b = c.lay_leaf.new.space in
    let same : to_z w64 (of_z w64 c.args.rowid) ≡ c.args.rowid = grind (arith, to_z-of_z) in
    let agrees_a = c.in-Err-lay_leaf.ensures.kept.earlier pages agrees in
    let laws : Laws g.S.Pages = record {
      idle = c.shifts_law.ensures.idle;
      both = c.shifts_law.ensures.both;
      spares = c.shifts_law.ensures.spares;
      beside = c.shifts_law.ensures.beside;
      alike = c.shifts_law.ensures.alike;
      spares_beside = c.shifts_law.ensures.spares_beside;
      spares_alike = c.shifts_law.ensures.spares_alike;
      spares_more = c.shifts_law.ensures.spares_more;
      apart = c.shifts_law.ensures.apart;
      none = c.shifts_law.ensures.none;
      parts = c.leaf_law.ensures.parts;
      adds = c.row_law.ensures.added;
      stay = c.row_law.ensures.stay;
    } in
    let sealed = c.in-Ok-write_cell.ensures.kept.sealed ∙ writable in
    at_zero (λ (h : ℕ). IsPlaceFor g.S.Pages s pages h low high c.args.page c.args.rowid → IsSureOfTree (number_in (sight g.S.Pages b pages)) c.in-Err-lay_leaf.fault)
    (λ at.
    let x = step_of g.S.Pages s a pages low high c.args.page c.usable-usable.result c.args.rowid c.args.buf.now c.in-Ok.cells c.in-Some.place c.in-Ok-write_cell.cell c.args.payload.now
    c.usable-usable.ensures.value at is c.in-Ok.ensures.leaf (subst (λ (k : ℤ). IsGap (rank k) c.in-Ok.cells c.in-Some.place) same (subst (λ (cs : List Cell). IsGap (rank (to_z w64 (of_z w64 c.args.rowid))) cs c.in-Some.place) c.as_slice.ensures c.in-Some.ensures.gap)) (c.in-Ok-write_cell.ensures.payload pages agrees_a at.ready (c.shifts_law.ensures.none s pages))
    (c.in-Ok-write_cell.ensures.key ∙ same) in
    held_so g.S.Pages laws x (IsSureOfTree (number_in (sight g.S.Pages b pages)) c.in-Err-lay_leaf.fault)
    (λ ready held other. c.in-Err-lay_leaf.ensures.likely pages agrees ready held sealed other))
    height less at
