use Rattle.std.proofs.Common.{◌≡◌, ◌∙◌, ℕ, ℤ, ◌++◌, ◌∷◌, take, drop, length, refl, subst, sym, arith, to_z, of_z, w64, to_z-of_z}
use Rattle.spe_model.specs.declared.page.Kind.TheVariants.{TableLeaf}
use Rattle.spe_model.specs.Standing.{all_pages}
use Rattle.spe_model.specs.Tree.{rank}
use Rattle.spe_space.specs.Calls.{sight}
use Rattle.spe_space.specs.Front.{number_in}
use Rattle.spe_format.specs.Canonical.{IsWritableCell}
use Rattle.spe_format.specs.Packed.{IsSlot, IsSlotFor, IsWithin}
use Rattle.spe_frame.specs.Held.{Spares}
use Rattle.spe_write.specs.Chain.{IsSureOfTree}
use Rattle.spe_insert.specs.Below.{Becomes, IsPage, IsPlaceFor, LacksRow, pages_for}
use Rattle.spe_insert.specs.Edit.{puts}
use Rattle.spe_insert.specs.Run.{run_of}
use Rattle.spe_insert.proofs.PackedLeafLemmas.{slot_gap, slot_leaf, slot_with}
use Rattle.spe_insert.proofs.PutLeafLemmas.{Laws, at_zero, chain_spares, held_so, step_of, step_puts, step_spares}
use Rattle.spe_insert.proofs.packed_leaf.put_packed.Goals as goal

pub returns-in-Err-clause-spares : goal.returns-in-Err-clause-spares
returns-in-Err-clause-spares g c = λ pages height low high agrees less at is lacks.
    let s = c.args.space.now in
    chain_spares g.S.Pages c.shifts_law.ensures.spares_beside c.shifts_law.ensures.spares_more s c.write_cell.new.space pages
    (all_pages (g.S.Pages.used s) (sight g.S.Pages s pages) height c.args.page) height (length c.args.payload.now)
    (c.in-Err.ensures.spares pages agrees at.ready (c.shifts_law.ensures.none s pages))

pub lay_packed-requires-clause-slot : goal.lay_packed-requires-clause-slot
lay_packed-requires-clause-slot g c =
    let same : to_z w64 (of_z w64 c.args.rowid) ≡ c.args.rowid = grind (arith, to_z-of_z) in
    subst (λ (k : ℤ). IsSlotFor c.args.buf.now 0 (g.S.Pages.used c.write_cell.new.space) (rank k) c.args.slot) (sym same)
    (subst (λ (u : ℕ). IsSlotFor c.args.buf.now 0 u (rank c.args.rowid) c.args.slot) (sym c.in-Ok.ensures.kept.used) c.requires.slot)

pub lay_packed-requires-clause-within : goal.lay_packed-requires-clause-within
lay_packed-requires-clause-within g c = subst (λ (u : ℕ). IsWithin 0 u c.args.slot) (sym c.in-Ok.ensures.kept.used) c.requires.within

pub lay_packed-requires-clause-form : goal.lay_packed-requires-clause-form
lay_packed-requires-clause-form g c = subst (λ (u : ℕ). IsWritableCell TableLeaf u c.in-Ok.cell) (sym c.in-Ok.ensures.kept.used) c.in-Ok.ensures.form

pub returns-in-Ok-lay_packed-clause-put : goal.returns-in-Ok-lay_packed-clause-put
returns-in-Ok-lay_packed-clause-put g c = λ pages height low high agrees less.
    let s = c.args.space.now in
    let a = c.write_cell.new.space in
    let b = c.lay_packed.new.space in
    let same : to_z w64 (of_z w64 c.args.rowid) ≡ c.args.rowid = grind (arith, to_z-of_z) in
    let found = c.requires.slot in
    let cells = found.before ++ found.after in
    let used = g.S.Pages.used s in
    let agrees_a = c.in-Ok-lay_packed.ensures.kept.earlier pages agrees in
    let laws : Laws g.S.Pages = record {
      idle = c.shifts_law.ensures.idle;
      both = c.shifts_law.ensures.both;
      spares = c.shifts_law.ensures.spares;
      beside = c.shifts_law.ensures.beside;
      alike = c.shifts_law.ensures.alike;
      spares_beside = c.shifts_law.ensures.spares_beside;
      spares_alike = c.shifts_law.ensures.spares_alike;
      spares_more = c.shifts_law.ensures.spares_more;
      apart = c.shifts_law.ensures.apart;
      none = c.shifts_law.ensures.none;
      parts = c.leaf_law.ensures.parts;
      adds = c.row_law.ensures.added;
      stay = c.row_law.ensures.stay;
    } in
    let kept : IsSlot c.args.buf.now 0 (g.S.Pages.used a) c.args.slot found.before found.after =
    subst (λ (u : ℕ). IsSlot c.args.buf.now 0 u c.args.slot found.before found.after) (sym c.in-Ok.ensures.kept.used) found.is in
    at_zero (λ (h : ℕ). IsPlaceFor g.S.Pages s pages h low high c.args.page c.args.rowid → IsPage g.S.Pages s pages c.args.page c.args.buf.now
    → LacksRow g.S.Pages s pages h c.args.page c.args.rowid → Becomes g.S.Pages s b pages h low high c.args.page c.args.rowid (puts c.args.payload.now) (run_of c.in-Ok-lay_packed.run'))
    (λ at is lacks.
    let x = step_of g.S.Pages s a pages low high c.args.page used c.args.rowid c.args.buf.now cells c.args.slot.place c.in-Ok.cell c.args.payload.now
    refl at is (slot_leaf used c.args.buf.now c.args.slot found.before found.after found.is) (slot_gap used (rank c.args.rowid) c.args.buf.now c.args.slot found)
    (c.in-Ok.ensures.payload pages agrees_a at.ready (c.shifts_law.ensures.none s pages)) (c.in-Ok.ensures.key ∙ same) in
    step_puts g.S.Pages laws x b (found.before ++ (c.in-Ok.cell ∷ found.after)) (run_of c.in-Ok-lay_packed.run')
    (sym (slot_with c.args.slot.place found.before found.after cells (take c.args.slot.place cells ++ (c.in-Ok.cell ∷ drop c.args.slot.place cells)) c.in-Ok.cell refl found.is.place refl))
    (λ ready held other. c.in-Ok-lay_packed.ensures.laid pages agrees ready held found.before found.after kept other) c.in-Ok-lay_packed.ensures.first lacks)
    height less

pub returns-in-Ok-lay_packed-clause-spares : goal.returns-in-Ok-lay_packed-clause-spares
returns-in-Ok-lay_packed-clause-spares g c = λ pages height low high agrees less at is lacks.
    (returns-in-Ok-lay_packed-clause-put g c pages height low high agrees less at is lacks).shifts.spares

pub returns-in-Err-lay_packed-clause-spares : goal.returns-in-Err-lay_packed-clause-spares
returns-in-Err-lay_packed-clause-spares g c = λ pages height low high agrees less.
    let s = c.args.space.now in
    let a = c.write_cell.new.space in
    let b = c.lay_packed.new.space in
    let same : to_z w64 (of_z w64 c.args.rowid) ≡ c.args.rowid = grind (arith, to_z-of_z) in
    let found = c.requires.slot in
    let cells = found.before ++ found.after in
    let used = g.S.Pages.used s in
    let agrees_a = c.in-Err-lay_packed.ensures.kept.earlier pages agrees in
    let laws : Laws g.S.Pages = record {
      idle = c.shifts_law.ensures.idle;
      both = c.shifts_law.ensures.both;
      spares = c.shifts_law.ensures.spares;
      beside = c.shifts_law.ensures.beside;
      alike = c.shifts_law.ensures.alike;
      spares_beside = c.shifts_law.ensures.spares_beside;
      spares_alike = c.shifts_law.ensures.spares_alike;
      spares_more = c.shifts_law.ensures.spares_more;
      apart = c.shifts_law.ensures.apart;
      none = c.shifts_law.ensures.none;
      parts = c.leaf_law.ensures.parts;
      adds = c.row_law.ensures.added;
      stay = c.row_law.ensures.stay;
    } in
    at_zero (λ (h : ℕ). IsPlaceFor g.S.Pages s pages h low high c.args.page c.args.rowid → IsPage g.S.Pages s pages c.args.page c.args.buf.now
    → LacksRow g.S.Pages s pages h c.args.page c.args.rowid → Spares g.S.Pages s b pages (all_pages (g.S.Pages.used s) (sight g.S.Pages s pages) h c.args.page)
    (pages_for (g.S.Pages.used s) h (length c.args.payload.now)))
    (λ at is lacks.
    let x = step_of g.S.Pages s a pages low high c.args.page used c.args.rowid c.args.buf.now cells c.args.slot.place c.in-Ok.cell c.args.payload.now
    refl at is (slot_leaf used c.args.buf.now c.args.slot found.before found.after found.is) (slot_gap used (rank c.args.rowid) c.args.buf.now c.args.slot found)
    (c.in-Ok.ensures.payload pages agrees_a at.ready (c.shifts_law.ensures.none s pages)) (c.in-Ok.ensures.key ∙ same) in
    step_spares g.S.Pages laws x b (c.in-Err-lay_packed.ensures.spares pages agrees))
    height less

pub returns-in-Err-lay_packed-clause-likely : goal.returns-in-Err-lay_packed-clause-likely
returns-in-Err-lay_packed-clause-likely g c = λ pages height low high agrees less at is lacks writable.
    let s = c.args.space.now in
    let a = c.write_cell.new.space in
    let b = c.lay_packed.new.space in
    let same : to_z w64 (of_z w64 c.args.rowid) ≡ c.args.rowid = grind (arith, to_z-of_z) in
    let found = c.requires.slot in
    let cells = found.before ++ found.after in
    let used = g.S.Pages.used s in
    let agrees_a = c.in-Err-lay_packed.ensures.kept.earlier pages agrees in
    let laws : Laws g.S.Pages = record {
      idle = c.shifts_law.ensures.idle;
      both = c.shifts_law.ensures.both;
      spares = c.shifts_law.ensures.spares;
      beside = c.shifts_law.ensures.beside;
      alike = c.shifts_law.ensures.alike;
      spares_beside = c.shifts_law.ensures.spares_beside;
      spares_alike = c.shifts_law.ensures.spares_alike;
      spares_more = c.shifts_law.ensures.spares_more;
      apart = c.shifts_law.ensures.apart;
      none = c.shifts_law.ensures.none;
      parts = c.leaf_law.ensures.parts;
      adds = c.row_law.ensures.added;
      stay = c.row_law.ensures.stay;
    } in
    let sealed = c.in-Ok.ensures.kept.sealed ∙ writable in
    at_zero (λ (h : ℕ). IsPlaceFor g.S.Pages s pages h low high c.args.page c.args.rowid → IsSureOfTree (number_in (sight g.S.Pages b pages)) c.in-Err-lay_packed.fault)
    (λ at.
    let x = step_of g.S.Pages s a pages low high c.args.page used c.args.rowid c.args.buf.now cells c.args.slot.place c.in-Ok.cell c.args.payload.now
    refl at is (slot_leaf used c.args.buf.now c.args.slot found.before found.after found.is) (slot_gap used (rank c.args.rowid) c.args.buf.now c.args.slot found)
    (c.in-Ok.ensures.payload pages agrees_a at.ready (c.shifts_law.ensures.none s pages)) (c.in-Ok.ensures.key ∙ same) in
    held_so g.S.Pages laws x (IsSureOfTree (number_in (sight g.S.Pages b pages)) c.in-Err-lay_packed.fault)
    (λ ready held other. c.in-Err-lay_packed.ensures.likely pages agrees ready held sealed other))
    height less at
