use Rattle.std.proofs.Common.{◌≡◌, ℕ, List, ◌++◌, [], ◌∷◌, take, length, length-append, refl, ap, subst, sym, arith, inl, Ok}
use Rattle.spe_model.specs.declared.page.Cell.{Cell}
use Rattle.spe_model.specs.declared.page.Kind.TheVariants.{TableLeaf}
use Rattle.spe_model.specs.Page.{page_at}
use Rattle.spe_model.specs.Tree.{rank}
use Rattle.spe_space.specs.Calls.{sight}
use Rattle.spe_space.specs.Front.{number_in}
use Rattle.spe_space.specs.declared.fault.TreeFault.{TreeFault}
use Rattle.spe_format.specs.Canonical.{IsWritableCell}
use Rattle.spe_format.specs.Packed.{IsSlot}
use Rattle.spe_cut.specs.Parts.{leaf_cells}
use Rattle.spe_write.specs.Chain.{IsSureOfTree}
use Rattle.spe_insert.specs.declared.run.Run.{Run as Held}
use Rattle.spe_insert.specs.Leaf.{LaysLeaf}
use Rattle.spe_insert.specs.LeafStep.{IsGap, IsLeafOf}
use Rattle.spe_insert.specs.Run.{run_of}
use Rattle.spe_insert.proofs.GapLemmas.{all_fits, all_writable}
use Rattle.spe_insert.proofs.PackedLeafLemmas.{packed_lays, packed_writable, slot_cells, slot_gap, slot_with, unchanged}
use Rattle.spe_insert.proofs.RunStepLemmas.{refused_by_page}
use Rattle.spe_insert.proofs.packed_leaf.lay_packed.Goals as goal

pub returns-in-Ok-clause-laid : goal.returns-in-Ok-clause-laid
returns-in-Ok-clause-laid g c = λ pages agrees ready held before after is other.
    let s = c.args.space.now in
    let used = g.S.Pages.used s in
    let usable = c.usable-usable.result in
    let same : usable ≡ used = c.usable-usable.ensures.value in
    let all = before ++ (c.args.cell ∷ after) in
    let here : IsSlot c.args.buf.now 0 usable c.args.slot before after = subst (λ (u : ℕ). IsSlot c.args.buf.now 0 u c.args.slot before after) (sym same) is in
    let writable = packed_writable used usable c.args.rowid c.args.buf.now c.args.slot before after c.args.cell same c.requires.slot is c.requires.key c.requires.form in
    let reads : page_at (take usable c.put_in_slot.new.page) 0 ≡ Ok (leaf_cells all) = c.if-put_in_slot.ensures.reads_back before after here writable refl in
    packed_lays g.S.Pages c.shifts_law.ensures.spares_more s c.lay_page.new.space pages c.args.page all c.put_in_slot.new.page (run_of c.one_child.result) other
    (omega (arith, length-append before (c.args.cell ∷ after))) (subst (λ (u : ℕ). page_at (take u c.put_in_slot.new.page) 0 ≡ Ok (leaf_cells all)) same reads) c.in-Ok.ensures.put
    (c.in-Ok.ensures.shifts pages agrees ready held (λ first. absurd (other first))) c.one_child.ensures

pub returns-in-Ok-clause-spares : goal.returns-in-Ok-clause-spares
returns-in-Ok-clause-spares g c = λ pages agrees ready held other.
    c.shifts_law.ensures.spares_more c.args.space.now c.lay_page.new.space pages (c.args.page ∷ []) 0 3 (omega arith) (c.in-Ok.ensures.spares pages agrees ready held (λ first. absurd (other first)))

pub returns-in-Err-clause-spares : goal.returns-in-Err-clause-spares
returns-in-Err-clause-spares g c = λ pages agrees ready held other.
    c.shifts_law.ensures.spares_more c.args.space.now c.lay_page.new.space pages (c.args.page ∷ []) 0 3 (omega arith) (c.in-Err.ensures.spares pages agrees ready held (λ first. absurd (other first)))

pub returns-in-Err-leaf_in-clause-likely : goal.returns-in-Err-leaf_in-clause-likely
returns-in-Err-leaf_in-clause-likely g c = λ pages agrees ready held sealed other.
    let found = c.requires.slot in
    let cells = found.before ++ found.after in
    let usable = c.usable-usable.result in
    let same : usable ≡ g.S.Pages.used c.args.space.now = c.usable-usable.ensures.value in
    let here : IsSlot c.args.buf.now 0 usable c.args.slot found.before found.after =
    subst (λ (u : ℕ). IsSlot c.args.buf.now 0 u c.args.slot found.before found.after) (sym same) found.is in
    let stays : c.put_in_slot.new.page ≡ c.args.buf.now = unchanged (found.before ++ (c.args.cell ∷ found.after)) usable c.args.buf.now c.put_in_slot.new.page
    (c.if-put_in_slot.ensures.fits found.before found.after here) (c.if-put_in_slot.ensures.bytes found.before found.after here) in
    let memory = c.in-Err-leaf_in.ensures.memory cells (subst (λ (bs : List ℕ). page_at (take usable bs) 0 ≡ Ok (leaf_cells cells)) (sym stays) here.packed.reads) in
    subst (λ (f : TreeFault). IsSureOfTree (number_in (sight g.S.Pages c.args.space.now pages)) f) (sym memory) tt

pub returns-in-Err-leaf_in-clause-refusal : goal.returns-in-Err-leaf_in-clause-refusal
returns-in-Err-leaf_in-clause-refusal g c =
    let found = c.requires.slot in
    let cells = found.before ++ found.after in
    let usable = c.usable-usable.result in
    let same : usable ≡ g.S.Pages.used c.args.space.now = c.usable-usable.ensures.value in
    let here : IsSlot c.args.buf.now 0 usable c.args.slot found.before found.after =
    subst (λ (u : ℕ). IsSlot c.args.buf.now 0 u c.args.slot found.before found.after) (sym same) found.is in
    let stays : c.put_in_slot.new.page ≡ c.args.buf.now = unchanged (found.before ++ (c.args.cell ∷ found.after)) usable c.args.buf.now c.put_in_slot.new.page
    (c.if-put_in_slot.ensures.fits found.before found.after here) (c.if-put_in_slot.ensures.bytes found.before found.after here) in
    let memory = c.in-Err-leaf_in.ensures.memory cells (subst (λ (bs : List ℕ). page_at (take usable bs) 0 ≡ Ok (leaf_cells cells)) (sym stays) here.packed.reads) in
    refused_by_page Held g.S.Pages c.args.space.now c.args.space.now c.args.page c.in-Err-leaf_in.fault (inl memory) refl

pub with_cell-requires : goal.with_cell-requires
with_cell-requires g c =
    let found = c.requires.slot in
    let cells = found.before ++ found.after in
    let usable = c.usable-usable.result in
    let same : usable ≡ g.S.Pages.used c.args.space.now = c.usable-usable.ensures.value in
    let here : IsSlot c.args.buf.now 0 usable c.args.slot found.before found.after =
    subst (λ (u : ℕ). IsSlot c.args.buf.now 0 u c.args.slot found.before found.after) (sym same) found.is in
    let stays : c.put_in_slot.new.page ≡ c.args.buf.now = unchanged (found.before ++ (c.args.cell ∷ found.after)) usable c.args.buf.now c.put_in_slot.new.page
    (c.if-put_in_slot.ensures.fits found.before found.after here) (c.if-put_in_slot.ensures.bytes found.before found.after here) in
    let read : IsLeafOf usable c.put_in_slot.new.page c.in-Ok-leaf_in.cells = c.in-Ok-leaf_in.ensures.leaf in
    let leaf : IsLeafOf usable c.args.buf.now c.in-Ok-leaf_in.cells = subst (λ (bs : List ℕ). IsLeafOf usable bs c.in-Ok-leaf_in.cells) stays read in
    let alike : c.in-Ok-leaf_in.cells ≡ cells = slot_cells usable c.args.buf.now c.args.slot found.before found.after c.in-Ok-leaf_in.cells here leaf.reads in
    omega (arith, ap (λ (cs : List Cell). length cs) alike, found.is.place, length-append found.before found.after)

pub lay_leaf-requires-clause-place : goal.lay_leaf-requires-clause-place
lay_leaf-requires-clause-place g c =
    let found = c.requires.slot in
    let cells = found.before ++ found.after in
    let usable = c.usable-usable.result in
    let same : usable ≡ g.S.Pages.used c.args.space.now = c.usable-usable.ensures.value in
    let here : IsSlot c.args.buf.now 0 usable c.args.slot found.before found.after =
    subst (λ (u : ℕ). IsSlot c.args.buf.now 0 u c.args.slot found.before found.after) (sym same) found.is in
    let stays : c.put_in_slot.new.page ≡ c.args.buf.now = unchanged (found.before ++ (c.args.cell ∷ found.after)) usable c.args.buf.now c.put_in_slot.new.page
    (c.if-put_in_slot.ensures.fits found.before found.after here) (c.if-put_in_slot.ensures.bytes found.before found.after here) in
    let read : IsLeafOf usable c.put_in_slot.new.page c.in-Ok-leaf_in.cells = c.in-Ok-leaf_in.ensures.leaf in
    let leaf : IsLeafOf usable c.args.buf.now c.in-Ok-leaf_in.cells = subst (λ (bs : List ℕ). IsLeafOf usable bs c.in-Ok-leaf_in.cells) stays read in
    let alike : c.in-Ok-leaf_in.cells ≡ cells = slot_cells usable c.args.buf.now c.args.slot found.before found.after c.in-Ok-leaf_in.cells here leaf.reads in
    let all = slot_with c.args.slot.place found.before found.after c.in-Ok-leaf_in.cells c.in_ok-cells.cells c.args.cell alike found.is.place c.in_ok-cells.ensures in
    omega (arith, ap (λ (cs : List Cell). length cs) all, found.is.place, length-append found.before (c.args.cell ∷ found.after))

pub lay_leaf-requires-clause-writable : goal.lay_leaf-requires-clause-writable
lay_leaf-requires-clause-writable g c =
    let found = c.requires.slot in
    let cells = found.before ++ found.after in
    let usable = c.usable-usable.result in
    let same : usable ≡ g.S.Pages.used c.args.space.now = c.usable-usable.ensures.value in
    let here : IsSlot c.args.buf.now 0 usable c.args.slot found.before found.after =
    subst (λ (u : ℕ). IsSlot c.args.buf.now 0 u c.args.slot found.before found.after) (sym same) found.is in
    let stays : c.put_in_slot.new.page ≡ c.args.buf.now = unchanged (found.before ++ (c.args.cell ∷ found.after)) usable c.args.buf.now c.put_in_slot.new.page
    (c.if-put_in_slot.ensures.fits found.before found.after here) (c.if-put_in_slot.ensures.bytes found.before found.after here) in
    let read : IsLeafOf usable c.put_in_slot.new.page c.in-Ok-leaf_in.cells = c.in-Ok-leaf_in.ensures.leaf in
    let leaf : IsLeafOf usable c.args.buf.now c.in-Ok-leaf_in.cells = subst (λ (bs : List ℕ). IsLeafOf usable bs c.in-Ok-leaf_in.cells) stays read in
    let alike : c.in-Ok-leaf_in.cells ≡ cells = slot_cells usable c.args.buf.now c.args.slot found.before found.after c.in-Ok-leaf_in.cells here leaf.reads in
    let gap : IsGap (rank c.args.rowid) c.in-Ok-leaf_in.cells c.args.slot.place =
    subst (λ (cs : List Cell). IsGap (rank c.args.rowid) cs c.args.slot.place) (sym alike) (slot_gap (g.S.Pages.used c.args.space.now) (rank c.args.rowid) c.args.buf.now c.args.slot found) in
    all_writable usable (g.S.Pages.used c.args.space.now) c.args.rowid c.in-Ok-leaf_in.cells c.in_ok-cells.cells c.args.slot.place c.args.cell same leaf.writable gap c.requires.key
    (subst (λ (u : ℕ). IsWritableCell TableLeaf u c.args.cell) (sym same) c.requires.form) c.in_ok-cells.ensures

pub lay_leaf-requires-clause-fits : goal.lay_leaf-requires-clause-fits
lay_leaf-requires-clause-fits g c =
    let found = c.requires.slot in
    let cells = found.before ++ found.after in
    let usable = c.usable-usable.result in
    let same : usable ≡ g.S.Pages.used c.args.space.now = c.usable-usable.ensures.value in
    let here : IsSlot c.args.buf.now 0 usable c.args.slot found.before found.after =
    subst (λ (u : ℕ). IsSlot c.args.buf.now 0 u c.args.slot found.before found.after) (sym same) found.is in
    let stays : c.put_in_slot.new.page ≡ c.args.buf.now = unchanged (found.before ++ (c.args.cell ∷ found.after)) usable c.args.buf.now c.put_in_slot.new.page
    (c.if-put_in_slot.ensures.fits found.before found.after here) (c.if-put_in_slot.ensures.bytes found.before found.after here) in
    let read : IsLeafOf usable c.put_in_slot.new.page c.in-Ok-leaf_in.cells = c.in-Ok-leaf_in.ensures.leaf in
    let leaf : IsLeafOf usable c.args.buf.now c.in-Ok-leaf_in.cells = subst (λ (bs : List ℕ). IsLeafOf usable bs c.in-Ok-leaf_in.cells) stays read in
    let alike : c.in-Ok-leaf_in.cells ≡ cells = slot_cells usable c.args.buf.now c.args.slot found.before found.after c.in-Ok-leaf_in.cells here leaf.reads in
    let gap : IsGap (rank c.args.rowid) c.in-Ok-leaf_in.cells c.args.slot.place =
    subst (λ (cs : List Cell). IsGap (rank c.args.rowid) cs c.args.slot.place) (sym alike) (slot_gap (g.S.Pages.used c.args.space.now) (rank c.args.rowid) c.args.buf.now c.args.slot found) in
    all_fits usable (g.S.Pages.used c.args.space.now) c.in-Ok-leaf_in.cells c.in_ok-cells.cells c.args.slot.place c.args.cell same gap.within c.in_ok-cells.ensures leaf.fits

pub returns-in-Ok-lay_leaf-clause-laid : goal.returns-in-Ok-lay_leaf-clause-laid
returns-in-Ok-lay_leaf-clause-laid g c = λ pages agrees ready held before after is other.
    let found = c.requires.slot in
    let cells = found.before ++ found.after in
    let usable = c.usable-usable.result in
    let same : usable ≡ g.S.Pages.used c.args.space.now = c.usable-usable.ensures.value in
    let here : IsSlot c.args.buf.now 0 usable c.args.slot found.before found.after =
    subst (λ (u : ℕ). IsSlot c.args.buf.now 0 u c.args.slot found.before found.after) (sym same) found.is in
    let stays : c.put_in_slot.new.page ≡ c.args.buf.now = unchanged (found.before ++ (c.args.cell ∷ found.after)) usable c.args.buf.now c.put_in_slot.new.page
    (c.if-put_in_slot.ensures.fits found.before found.after here) (c.if-put_in_slot.ensures.bytes found.before found.after here) in
    let read : IsLeafOf usable c.put_in_slot.new.page c.in-Ok-leaf_in.cells = c.in-Ok-leaf_in.ensures.leaf in
    let leaf : IsLeafOf usable c.args.buf.now c.in-Ok-leaf_in.cells = subst (λ (bs : List ℕ). IsLeafOf usable bs c.in-Ok-leaf_in.cells) stays read in
    let alike : c.in-Ok-leaf_in.cells ≡ cells = slot_cells usable c.args.buf.now c.args.slot found.before found.after c.in-Ok-leaf_in.cells here leaf.reads in
    let there : IsSlot c.args.buf.now 0 usable c.args.slot before after = subst (λ (u : ℕ). IsSlot c.args.buf.now 0 u c.args.slot before after) (sym same) is in
    let alike_them : c.in-Ok-leaf_in.cells ≡ before ++ after = slot_cells usable c.args.buf.now c.args.slot before after c.in-Ok-leaf_in.cells there leaf.reads in
    subst (λ (cs : List Cell). LaysLeaf g.S.Pages c.args.space.now c.lay_leaf.new.space pages c.args.page cs (run_of c.in-Ok-lay_leaf.run'))
    (slot_with c.args.slot.place before after c.in-Ok-leaf_in.cells c.in_ok-cells.cells c.args.cell alike_them is.place c.in_ok-cells.ensures)
    (c.in-Ok-lay_leaf.ensures.laid pages agrees ready held other)
