use Rattle.std.proofs.Common.{◌≡◌, ◌<◌, ◌∙◌, ℕ, ℤ, List, true, drop, length, sym, subst, arith, to_z, of_z, w64, to_z-of_z}
use Rattle.spe_model.specs.declared.page.Cell.{Cell}
use Rattle.spe_model.specs.declared.page.Kind.TheVariants.{TableLeaf}
use Rattle.spe_model.specs.Standing.{all_pages}
use Rattle.spe_model.specs.Tree.{rank}
use Rattle.spe_space.specs.Calls.{sight}
use Rattle.spe_space.specs.Front.{number_in}
use Rattle.spe_format.specs.Canonical.{IsWritableCell}
use Rattle.spe_frame.specs.Held.{Spares}
use Rattle.spe_write.specs.Chain.{IsSureOfTree}
use Rattle.spe_insert.specs.Below.{Becomes, IsPage, IsPlaceFor, pages_for}
use Rattle.spe_insert.specs.Edit.{changes}
use Rattle.spe_insert.specs.Leaf.{LaysLeaf}
use Rattle.spe_insert.specs.LeafStep.{IsGap, leads_with}
use Rattle.spe_insert.specs.Place.{place_for}
use Rattle.spe_insert.specs.Replace.{HasRow, with_other}
use Rattle.spe_insert.specs.Run.{run_of}
use Rattle.spe_insert.proofs.OtherCellLemmas.{other_writable, others_fit}
use Rattle.spe_insert.proofs.PutLeafLemmas.{at_zero, chain_spares}
use Rattle.spe_insert.proofs.ReplaceLeafLemmas.{Laws, chain_held, found_at, free_spares, lay_spares, mid_ready, no_row_between, other, page_held, replaces}
use Rattle.spe_insert.proofs.replace_leaf.replace_in_leaf.Goals as goal

pub returns-in_default-clause-likely : goal.returns-in_default-clause-likely
returns-in_default-clause-likely g c = λ pages height low high agrees less at is has writable.
    let s = c.args.space.now in
    let page = c.args.page in
    let rowid = c.args.rowid in
    let cells = c.in-Ok.cells in
    let same : to_z w64 (of_z w64 rowid) ≡ rowid = grind (arith, to_z-of_z) in
    let gap : IsGap (rank rowid) cells (place_for (rank rowid) cells) = subst (λ (cs : List Cell). IsGap (rank rowid) cs (place_for (rank rowid) cs)) c.as_slice.ensures
    (subst (λ (k : ℤ). IsGap (rank k) c.as_slice.result.now (place_for (rank k) c.as_slice.result.now)) same (c.spot_of.ensures.absent c.in_default.is)) in
    absurd (at_zero (λ (h : ℕ). IsPlaceFor g.S.Pages s pages h low high page rowid → HasRow g.S.Pages s pages h page rowid → ⊥)
    (λ here there. no_row_between g.S.Pages s pages low high page c.usable-usable.result rowid c.args.buf.now cells (place_for (rank rowid) cells)
    c.usable-usable.ensures.value here is c.in-Ok.ensures.leaf gap there) height less at has)

pub returns-in-Err-write_cell-clause-spares : goal.returns-in-Err-write_cell-clause-spares
returns-in-Err-write_cell-clause-spares g c = λ pages height low high agrees less at is has.
    let s = c.args.space.now in
    chain_spares g.S.Pages c.shifts_law.ensures.spares_beside c.shifts_law.ensures.spares_more s c.write_cell.new.space pages
    (all_pages (g.S.Pages.used s) (sight g.S.Pages s pages) height c.args.page) height (length c.args.payload.now)
    (c.in-Err-write_cell.ensures.spares pages agrees at.ready (c.shifts_law.ensures.none s pages))

pub returns-in_err-cells-clause-spares : goal.returns-in_err-cells-clause-spares
returns-in_err-cells-clause-spares g c = λ pages height low high agrees less at is has.
    let s = c.args.space.now in
    chain_spares g.S.Pages c.shifts_law.ensures.spares_beside c.shifts_law.ensures.spares_more s c.write_cell.new.space pages
    (all_pages (g.S.Pages.used s) (sight g.S.Pages s pages) height c.args.page) height (length c.args.payload.now)
    (c.in-Ok-write_cell.ensures.spares pages agrees at.ready (c.shifts_law.ensures.none s pages))

pub lay_leaf-requires-clause-writable : goal.lay_leaf-requires-clause-writable
lay_leaf-requires-clause-writable g c =
    let rowid = c.args.rowid in
    let cells = c.in-Ok.cells in
    let place = c.in-Some.place in
    let same : to_z w64 (of_z w64 rowid) ≡ rowid = grind (arith, to_z-of_z) in
    let leads : leads_with rowid (drop place cells) ≡ true = subst (λ (cs : List Cell). leads_with rowid (drop place cs) ≡ true) c.as_slice.ensures
    (subst (λ (k : ℤ). leads_with k (drop place c.as_slice.result.now) ≡ true) same c.in-Some.ensures.there) in
    other_writable c.usable-usable.result (g.S.Pages.used c.write_cell.new.space) place cells c.in_ok-cells.cells c.in_ok-cells.old c.in-Ok-write_cell.cell
    (c.usable-usable.ensures.value ∙ sym c.in-Ok-write_cell.ensures.kept.used) c.in_ok-cells.ensures.stood c.in_ok-cells.ensures.all
    (c.in-Ok-write_cell.ensures.key ∙ same ∙ sym (c.in_ok-cells.ensures.key rowid leads))
    (subst (λ (u : ℕ). IsWritableCell TableLeaf u c.in-Ok-write_cell.cell) (sym c.usable-usable.ensures.value) c.in-Ok-write_cell.ensures.form) c.in-Ok.ensures.leaf.writable

pub lay_leaf-requires-clause-fits : goal.lay_leaf-requires-clause-fits
lay_leaf-requires-clause-fits g c =
    others_fit c.usable-usable.result (g.S.Pages.used c.write_cell.new.space) c.in-Some.place c.in-Ok.cells c.in_ok-cells.cells c.in_ok-cells.old c.in-Ok-write_cell.cell
    (c.usable-usable.ensures.value ∙ sym c.in-Ok-write_cell.ensures.kept.used) (subst (λ (cs : List Cell). c.in-Some.place < length cs) c.as_slice.ensures c.in-Some.ensures.within)
    c.in_ok-cells.ensures.stood c.in_ok-cells.ensures.all c.in-Ok.ensures.leaf.fits

pub returns-in-Err-lay_leaf-clause-spares : goal.returns-in-Err-lay_leaf-clause-spares
returns-in-Err-lay_leaf-clause-spares g c = λ pages height low high agrees less.
    let s = c.args.space.now in
    let a = c.write_cell.new.space in
    let b = c.lay_leaf.new.space in
    let page = c.args.page in
    let rowid = c.args.rowid in
    let payload = c.args.payload.now in
    let cells = c.in-Ok.cells in
    let place = c.in-Some.place in
    let fresh = c.in-Ok-write_cell.cell in
    let old = c.in_ok-cells.old in
    let same : to_z w64 (of_z w64 rowid) ≡ rowid = grind (arith, to_z-of_z) in
    let leads : leads_with rowid (drop place cells) ≡ true = subst (λ (cs : List Cell). leads_with rowid (drop place cs) ≡ true) c.as_slice.ensures
    (subst (λ (k : ℤ). leads_with k (drop place c.as_slice.result.now) ≡ true) same c.in-Some.ensures.there) in
    let laws : Laws g.S.Pages = record {
      both = c.shifts_law.ensures.both;
      beside = c.shifts_law.ensures.beside;
      alike = c.shifts_law.ensures.alike;
      spares = c.shifts_law.ensures.spares;
      spares_beside = c.shifts_law.ensures.spares_beside;
      spares_alike = c.shifts_law.ensures.spares_alike;
      spares_more = c.shifts_law.ensures.spares_more;
      apart = c.shifts_law.ensures.apart;
      parts = c.leaf_law.ensures.parts;
      stays = c.root_law.ensures.stays;
      stay = c.row_law.ensures.stay;
      drops = c.gone_law.ensures.drops;
      turns = c.change_law.ensures.cell;
    } in
    let agrees_a = c.in-Err-lay_leaf.ensures.kept.earlier pages agrees in
    at_zero (λ (h : ℕ). IsPlaceFor g.S.Pages s pages h low high page rowid → IsPage g.S.Pages s pages page c.args.buf.now → HasRow g.S.Pages s pages h page rowid → Spares g.S.Pages s b pages (all_pages (g.S.Pages.used s) (sight g.S.Pages s pages) h page) (pages_for (g.S.Pages.used s) h (length payload)))
    (λ at is there.
    let x = found_at g.S.Pages s pages low high page c.usable-usable.result rowid c.args.buf.now cells place old c.usable-usable.ensures.value at is c.in-Ok.ensures.leaf
    c.in_ok-cells.ensures.stood (c.in_ok-cells.ensures.key rowid leads) in
    let has = c.in-Ok-write_cell.ensures.payload pages agrees_a at.ready (c.shifts_law.ensures.none s pages) in
    let key = c.in-Ok-write_cell.ensures.key ∙ same in
    let ready = mid_ready g.S.Pages laws x a fresh payload has key in
    let held = page_held g.S.Pages laws x a fresh payload has key in
    lay_spares g.S.Pages laws x a fresh payload has key b (c.in-Err-lay_leaf.ensures.spares pages agrees ready held (other g.S.Pages laws x)))
    height less

pub returns-in-Err-lay_leaf-clause-likely : goal.returns-in-Err-lay_leaf-clause-likely
returns-in-Err-lay_leaf-clause-likely g c = λ pages height low high agrees less at_ is_ there_ writable.
    let s = c.args.space.now in
    let a = c.write_cell.new.space in
    let b = c.lay_leaf.new.space in
    let page = c.args.page in
    let rowid = c.args.rowid in
    let payload = c.args.payload.now in
    let cells = c.in-Ok.cells in
    let place = c.in-Some.place in
    let fresh = c.in-Ok-write_cell.cell in
    let old = c.in_ok-cells.old in
    let same : to_z w64 (of_z w64 rowid) ≡ rowid = grind (arith, to_z-of_z) in
    let leads : leads_with rowid (drop place cells) ≡ true = subst (λ (cs : List Cell). leads_with rowid (drop place cs) ≡ true) c.as_slice.ensures
    (subst (λ (k : ℤ). leads_with k (drop place c.as_slice.result.now) ≡ true) same c.in-Some.ensures.there) in
    let laws : Laws g.S.Pages = record {
      both = c.shifts_law.ensures.both;
      beside = c.shifts_law.ensures.beside;
      alike = c.shifts_law.ensures.alike;
      spares = c.shifts_law.ensures.spares;
      spares_beside = c.shifts_law.ensures.spares_beside;
      spares_alike = c.shifts_law.ensures.spares_alike;
      spares_more = c.shifts_law.ensures.spares_more;
      apart = c.shifts_law.ensures.apart;
      parts = c.leaf_law.ensures.parts;
      stays = c.root_law.ensures.stays;
      stay = c.row_law.ensures.stay;
      drops = c.gone_law.ensures.drops;
      turns = c.change_law.ensures.cell;
    } in
    let agrees_a = c.in-Err-lay_leaf.ensures.kept.earlier pages agrees in
    let Likely = IsSureOfTree (number_in (sight g.S.Pages b pages)) c.in-Err-lay_leaf.fault in
    at_zero (λ (h : ℕ). IsPlaceFor g.S.Pages s pages h low high page rowid → IsPage g.S.Pages s pages page c.args.buf.now → HasRow g.S.Pages s pages h page rowid → Likely)
    (λ at is there.
    let x = found_at g.S.Pages s pages low high page c.usable-usable.result rowid c.args.buf.now cells place old c.usable-usable.ensures.value at is c.in-Ok.ensures.leaf
    c.in_ok-cells.ensures.stood (c.in_ok-cells.ensures.key rowid leads) in
    let has = c.in-Ok-write_cell.ensures.payload pages agrees_a at.ready (c.shifts_law.ensures.none s pages) in
    let key = c.in-Ok-write_cell.ensures.key ∙ same in
    let ready = mid_ready g.S.Pages laws x a fresh payload has key in
    let held = page_held g.S.Pages laws x a fresh payload has key in
    c.in-Err-lay_leaf.ensures.likely pages agrees ready held (c.in-Ok-write_cell.ensures.kept.sealed ∙ writable) (other g.S.Pages laws x))
    height less at_ is_ there_

pub returns-in-Ok-free_rest-clause-put : goal.returns-in-Ok-free_rest-clause-put
returns-in-Ok-free_rest-clause-put g c = λ pages height low high agrees less.
    let s = c.args.space.now in
    let a = c.write_cell.new.space in
    let b = c.lay_leaf.new.space in
    let page = c.args.page in
    let rowid = c.args.rowid in
    let payload = c.args.payload.now in
    let cells = c.in-Ok.cells in
    let place = c.in-Some.place in
    let fresh = c.in-Ok-write_cell.cell in
    let old = c.in_ok-cells.old in
    let same : to_z w64 (of_z w64 rowid) ≡ rowid = grind (arith, to_z-of_z) in
    let leads : leads_with rowid (drop place cells) ≡ true = subst (λ (cs : List Cell). leads_with rowid (drop place cs) ≡ true) c.as_slice.ensures
    (subst (λ (k : ℤ). leads_with k (drop place c.as_slice.result.now) ≡ true) same c.in-Some.ensures.there) in
    let laws : Laws g.S.Pages = record {
      both = c.shifts_law.ensures.both;
      beside = c.shifts_law.ensures.beside;
      alike = c.shifts_law.ensures.alike;
      spares = c.shifts_law.ensures.spares;
      spares_beside = c.shifts_law.ensures.spares_beside;
      spares_alike = c.shifts_law.ensures.spares_alike;
      spares_more = c.shifts_law.ensures.spares_more;
      apart = c.shifts_law.ensures.apart;
      parts = c.leaf_law.ensures.parts;
      stays = c.root_law.ensures.stays;
      stay = c.row_law.ensures.stay;
      drops = c.gone_law.ensures.drops;
      turns = c.change_law.ensures.cell;
    } in
    let e = c.free_rest.new.space in
    let agrees_b = c.in-Ok-free_rest.ensures.kept.earlier pages agrees in
    let agrees_a = c.in-Ok-lay_leaf.ensures.kept.earlier pages agrees_b in
    at_zero (λ (h : ℕ). IsPlaceFor g.S.Pages s pages h low high page rowid → IsPage g.S.Pages s pages page c.args.buf.now → HasRow g.S.Pages s pages h page rowid → Becomes g.S.Pages s e pages h low high page rowid (changes payload) (run_of c.in-Ok-lay_leaf.run'))
    (λ at is there.
    let x = found_at g.S.Pages s pages low high page c.usable-usable.result rowid c.args.buf.now cells place old c.usable-usable.ensures.value at is c.in-Ok.ensures.leaf
    c.in_ok-cells.ensures.stood (c.in_ok-cells.ensures.key rowid leads) in
    let has = c.in-Ok-write_cell.ensures.payload pages agrees_a at.ready (c.shifts_law.ensures.none s pages) in
    let key = c.in-Ok-write_cell.ensures.key ∙ same in
    let ready = mid_ready g.S.Pages laws x a fresh payload has key in
    let held = page_held g.S.Pages laws x a fresh payload has key in
    let run = run_of c.in-Ok-lay_leaf.run' in
    let leaf : LaysLeaf g.S.Pages a b pages page (with_other place cells fresh) run =
    subst (λ (cs : List Cell). LaysLeaf g.S.Pages a b pages page cs run) c.in_ok-cells.ensures.all (c.in-Ok-lay_leaf.ensures.laid pages agrees_b ready held (other g.S.Pages laws x)) in
    let chain = chain_held g.S.Pages laws x a fresh payload has key b run leaf in
    replaces g.S.Pages laws x a fresh payload has key b run leaf c.in-Ok-lay_leaf.ensures.first e (c.in-Ok-free_rest.ensures.freed pages agrees chain))
    height less

pub returns-in-Ok-free_rest-clause-spares : goal.returns-in-Ok-free_rest-clause-spares
returns-in-Ok-free_rest-clause-spares g c = λ pages height low high agrees less at is there.
    (returns-in-Ok-free_rest-clause-put g c pages height low high agrees less at is there).shifts.spares

pub returns-clause-spares : goal.returns-clause-spares
returns-clause-spares g c = λ pages height low high agrees less.
    let s = c.args.space.now in
    let a = c.write_cell.new.space in
    let b = c.lay_leaf.new.space in
    let page = c.args.page in
    let rowid = c.args.rowid in
    let payload = c.args.payload.now in
    let cells = c.in-Ok.cells in
    let place = c.in-Some.place in
    let fresh = c.in-Ok-write_cell.cell in
    let old = c.in_ok-cells.old in
    let same : to_z w64 (of_z w64 rowid) ≡ rowid = grind (arith, to_z-of_z) in
    let leads : leads_with rowid (drop place cells) ≡ true = subst (λ (cs : List Cell). leads_with rowid (drop place cs) ≡ true) c.as_slice.ensures
    (subst (λ (k : ℤ). leads_with k (drop place c.as_slice.result.now) ≡ true) same c.in-Some.ensures.there) in
    let laws : Laws g.S.Pages = record {
      both = c.shifts_law.ensures.both;
      beside = c.shifts_law.ensures.beside;
      alike = c.shifts_law.ensures.alike;
      spares = c.shifts_law.ensures.spares;
      spares_beside = c.shifts_law.ensures.spares_beside;
      spares_alike = c.shifts_law.ensures.spares_alike;
      spares_more = c.shifts_law.ensures.spares_more;
      apart = c.shifts_law.ensures.apart;
      parts = c.leaf_law.ensures.parts;
      stays = c.root_law.ensures.stays;
      stay = c.row_law.ensures.stay;
      drops = c.gone_law.ensures.drops;
      turns = c.change_law.ensures.cell;
    } in
    let e = c.free_rest.new.space in
    let agrees_b = c.in-Err-free_rest.ensures.kept.earlier pages agrees in
    let agrees_a = c.in-Ok-lay_leaf.ensures.kept.earlier pages agrees_b in
    at_zero (λ (h : ℕ). IsPlaceFor g.S.Pages s pages h low high page rowid → IsPage g.S.Pages s pages page c.args.buf.now → HasRow g.S.Pages s pages h page rowid → Spares g.S.Pages s e pages (all_pages (g.S.Pages.used s) (sight g.S.Pages s pages) h page) (pages_for (g.S.Pages.used s) h (length payload)))
    (λ at is there.
    let x = found_at g.S.Pages s pages low high page c.usable-usable.result rowid c.args.buf.now cells place old c.usable-usable.ensures.value at is c.in-Ok.ensures.leaf
    c.in_ok-cells.ensures.stood (c.in_ok-cells.ensures.key rowid leads) in
    let has = c.in-Ok-write_cell.ensures.payload pages agrees_a at.ready (c.shifts_law.ensures.none s pages) in
    let key = c.in-Ok-write_cell.ensures.key ∙ same in
    let ready = mid_ready g.S.Pages laws x a fresh payload has key in
    let held = page_held g.S.Pages laws x a fresh payload has key in
    let run = run_of c.in-Ok-lay_leaf.run' in
    let leaf : LaysLeaf g.S.Pages a b pages page (with_other place cells fresh) run =
    subst (λ (cs : List Cell). LaysLeaf g.S.Pages a b pages page cs run) c.in_ok-cells.ensures.all (c.in-Ok-lay_leaf.ensures.laid pages agrees_b ready held (other g.S.Pages laws x)) in
    let chain = chain_held g.S.Pages laws x a fresh payload has key b run leaf in
    free_spares g.S.Pages laws x a fresh payload has key b run leaf e (c.in-Err-free_rest.ensures.spares pages agrees chain))
    height less

pub returns-clause-likely : goal.returns-clause-likely
returns-clause-likely g c = λ pages height low high agrees less at_ is_ there_ writable.
    let s = c.args.space.now in
    let a = c.write_cell.new.space in
    let b = c.lay_leaf.new.space in
    let page = c.args.page in
    let rowid = c.args.rowid in
    let payload = c.args.payload.now in
    let cells = c.in-Ok.cells in
    let place = c.in-Some.place in
    let fresh = c.in-Ok-write_cell.cell in
    let old = c.in_ok-cells.old in
    let same : to_z w64 (of_z w64 rowid) ≡ rowid = grind (arith, to_z-of_z) in
    let leads : leads_with rowid (drop place cells) ≡ true = subst (λ (cs : List Cell). leads_with rowid (drop place cs) ≡ true) c.as_slice.ensures
    (subst (λ (k : ℤ). leads_with k (drop place c.as_slice.result.now) ≡ true) same c.in-Some.ensures.there) in
    let laws : Laws g.S.Pages = record {
      both = c.shifts_law.ensures.both;
      beside = c.shifts_law.ensures.beside;
      alike = c.shifts_law.ensures.alike;
      spares = c.shifts_law.ensures.spares;
      spares_beside = c.shifts_law.ensures.spares_beside;
      spares_alike = c.shifts_law.ensures.spares_alike;
      spares_more = c.shifts_law.ensures.spares_more;
      apart = c.shifts_law.ensures.apart;
      parts = c.leaf_law.ensures.parts;
      stays = c.root_law.ensures.stays;
      stay = c.row_law.ensures.stay;
      drops = c.gone_law.ensures.drops;
      turns = c.change_law.ensures.cell;
    } in
    let e = c.free_rest.new.space in
    let agrees_b = c.in-Err-free_rest.ensures.kept.earlier pages agrees in
    let agrees_a = c.in-Ok-lay_leaf.ensures.kept.earlier pages agrees_b in
    let Likely = IsSureOfTree (number_in (sight g.S.Pages e pages)) c.in-Err-free_rest.fault in
    at_zero (λ (h : ℕ). IsPlaceFor g.S.Pages s pages h low high page rowid → IsPage g.S.Pages s pages page c.args.buf.now → HasRow g.S.Pages s pages h page rowid → Likely)
    (λ at is there.
    let x = found_at g.S.Pages s pages low high page c.usable-usable.result rowid c.args.buf.now cells place old c.usable-usable.ensures.value at is c.in-Ok.ensures.leaf
    c.in_ok-cells.ensures.stood (c.in_ok-cells.ensures.key rowid leads) in
    let has = c.in-Ok-write_cell.ensures.payload pages agrees_a at.ready (c.shifts_law.ensures.none s pages) in
    let key = c.in-Ok-write_cell.ensures.key ∙ same in
    let ready = mid_ready g.S.Pages laws x a fresh payload has key in
    let held = page_held g.S.Pages laws x a fresh payload has key in
    let run = run_of c.in-Ok-lay_leaf.run' in
    let leaf : LaysLeaf g.S.Pages a b pages page (with_other place cells fresh) run =
    subst (λ (cs : List Cell). LaysLeaf g.S.Pages a b pages page cs run) c.in_ok-cells.ensures.all (c.in-Ok-lay_leaf.ensures.laid pages agrees_b ready held (other g.S.Pages laws x)) in
    let chain = chain_held g.S.Pages laws x a fresh payload has key b run leaf in
    c.in-Err-free_rest.ensures.likely pages agrees chain (c.in-Ok-lay_leaf.ensures.kept.sealed ∙ c.in-Ok-write_cell.ensures.kept.sealed ∙ writable))
    height less at_ is_ there_
