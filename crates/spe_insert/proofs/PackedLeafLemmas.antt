-- A row that is put into a leaf in place.
use Rattle.std.proofs.Common.{◌≡◌, ◌≢◌, ℕ, ℤ, ◌<◌, ◌≤◌, ◌∙◌, List, [], ◌∷◌, ◌++◌, All, false, Ok, take, drop, length, refl, sym, ap, subst, arith, append-nil, length-append}
use Rattle.std.proofs.lemmas.List.{drop_at, take_at}
use Rattle.std.proofs.lemmas.List.Elements.{All-head}
use Rattle.spe_model.specs.declared.page.Cell.{Cell}
use Rattle.spe_model.specs.Page.{page_at}
use Rattle.spe_model.specs.Paging.{Paging}
use Rattle.spe_model.specs.Tree.{cells_in, rank}
use Rattle.spe_format.specs.declared.slot.Slot.{Slot}
use Rattle.spe_format.specs.Packed.{IsSlot, IsSlotFor}
use Rattle.spe_space.specs.declared.pages.Pages.{Ghosts}
use Rattle.spe_frame.specs.Held.{Puts, Shifts}
use Rattle.spe_frame.specs.Laws.{SparesMore}
use Rattle.spe_cut.specs.Parts.{leaf_cells}
use Rattle.spe_cut.specs.Run.{Run, alone}
use Rattle.spe_insert.specs.Leaf.{LaysLeaf, LaysParts}
use Rattle.spe_insert.specs.LeafStep.{IsAbove, IsGap, IsLeafOf}
use Rattle.spe_insert.specs.Node.{LaysNode}
use Rattle.spe_format.specs.Canonical.{IsWritable, IsWritableCell, fits, page_written}
use Rattle.spe_model.specs.declared.page.Kind.TheVariants.{TableLeaf}
use Rattle.spe_insert.proofs.GapLemmas.{all_writable}
use Rattle.spe_insert.proofs.LeafLemmas.{parts_end}
use Rattle.spe_insert.proofs.PutLeafLemmas.{other_header}

pub slot_leaf : (usable : ℕ) (bytes : List ℕ) (slot : Slot) (before after : List Cell) → IsSlot bytes 0 usable slot before after → IsLeafOf usable bytes (before ++ after)
slot_leaf usable bytes slot before after is = record { reads = is.packed.reads; writable = is.packed.writable; fits = omega (arith, is.packed.fits) }

first_above : (key : ℕ) (cells : List Cell) → All (λ (d : Cell). key < rank d.key) cells → IsAbove key cells
first_above key [] all = tt
first_above key (c ∷ cs) all = All-head (λ (d : Cell). key < rank d.key) c cs all

pub slot_gap : (usable key : ℕ) (bytes : List ℕ) (slot : Slot) → (found : IsSlotFor bytes 0 usable key slot) → IsGap key (found.before ++ found.after) slot.place
slot_gap usable key bytes slot found = record {
  within = omega (arith, found.is.place, length-append found.before found.after);
  lower = subst (All (λ (d : Cell). rank d.key < key)) (sym (take_at found.before found.after slot.place (sym found.is.place))) found.lower;
  above = subst (IsAbove key) (sym (drop_at found.before found.after slot.place (sym found.is.place))) (first_above key found.after found.higher);
}

-- what is read of the page are the slot's cells
pub slot_cells : (usable : ℕ) (bytes : List ℕ) (slot : Slot) (before after cells : List Cell) → IsSlot bytes 0 usable slot before after → page_at (take usable bytes) 0 ≡ Ok (leaf_cells cells)
    → cells ≡ before ++ after
slot_cells usable bytes slot before after cells is reads = ap cells_in (sym reads ∙ is.packed.reads)

-- the cells with the new one
pub slot_with : (place : ℕ) (before after cells all : List Cell) (cell : Cell) → cells ≡ before ++ after → place ≡ length before → all ≡ take place cells ++ (cell ∷ drop place cells)
    → all ≡ before ++ (cell ∷ after)
slot_with place before after cells all cell same at is =
    is ∙ ap (λ (cs : List Cell). take place cs ++ (cell ∷ drop place cs)) same
    ∙ ap (λ (cs : List Cell). cs ++ (cell ∷ drop place (before ++ after))) (take_at before after place (sym at))
    ∙ ap (λ (cs : List Cell). before ++ (cell ∷ cs)) (drop_at before after place (sym at))

-- the page alone has all cells
pub packed_lays : {P : Type 0} (g : Ghosts P) → SparesMore g → (s new : P) (pages : Paging) (page : ℕ) (cells : List Cell) (bytes : List ℕ) (run : Run) → page ≢ 1 → 1 ≤ length cells
    → page_at (take (g.used s) bytes) 0 ≡ Ok (leaf_cells cells) → Puts g s new page bytes → Shifts g s new pages (page ∷ []) (page ∷ []) 0 → run ≡ alone page
    → LaysLeaf g s new pages page cells run
packed_lays g more s new pages page cells bytes run other some reads puts shifts is =
    let node : LaysNode g s new page (leaf_cells cells) = record {
      bytes = bytes;
      is = ap (page_at (take (g.used s) bytes)) (other_header page other) ∙ reads;
      puts = puts;
    } in
    record {
      parts = cells ∷ [];
      joined = append-nil cells;
      few = omega arith;
      lays = subst (LaysParts g s new pages page (cells ∷ [])) (sym is) (parts_end g more s new pages page cells some node shifts);
    }

-- the cells with the new one can be written
pub packed_writable : (used usable : ℕ) (rowid : ℤ) (bytes : List ℕ) (slot : Slot) (before after : List Cell) (cell : Cell) → usable ≡ used → IsSlotFor bytes 0 used (rank rowid) slot
    → IsSlot bytes 0 used slot before after → cell.key ≡ rowid → IsWritableCell TableLeaf used cell → IsWritable (leaf_cells (before ++ (cell ∷ after))) usable
packed_writable used usable rowid bytes slot before after cell same found is key form =
    let cells = before ++ after in
    let alike : found.before ++ found.after ≡ cells = slot_cells used bytes slot before after (found.before ++ found.after) is found.is.packed.reads in
    let gap : IsGap (rank rowid) cells slot.place = subst (λ (cs : List Cell). IsGap (rank rowid) cs slot.place) alike (slot_gap used (rank rowid) bytes slot found) in
    all_writable used usable rowid cells (before ++ (cell ∷ after)) slot.place cell (sym same) is.packed.writable gap key form
    (sym (slot_with slot.place before after cells (take slot.place cells ++ (cell ∷ drop slot.place cells)) cell refl is.place refl))

-- a page that the cell does not fit is as it was
pub unchanged : (cells : List Cell) (usable : ℕ) (old new : List ℕ) → false ≡ fits (leaf_cells cells) 0 usable → new ≡ page_written (leaf_cells cells) 0 usable old → new ≡ old
unchanged cells usable old new none is = is ∙ rw (sym none) refl
