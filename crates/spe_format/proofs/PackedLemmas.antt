-- Leaves whose offsets and cells stand as they are written.
use Rattle.std.proofs.Common.{◌≡◌, ◌⊎◌, ℕ, zero, suc, ◌+◌, ◌-◌, ◌*◌, ◌<◌, ◌≤◌, List, [], ◌∷◌, ◌++◌, length, take, drop, true, All, refl, sym, ap, subst, ◌∙◌, arith, append_assoc, append-nil, length-append, Option, Some, Result, Ok, inl, inr}
use Rattle.std.proofs.lemmas.List.{drop-append-le, drop-drop, length-drop, length-take-le, take-append-drop, take-append-le, take_all}
use Rattle.std.specs.Prelude.{IfSome, None, slice_index, slice_range}
use Rattle.spe_model.specs.declared.page.Cell.{Cell}
use Rattle.spe_model.specs.declared.page.Kind.{Kind}
use Rattle.spe_model.specs.declared.page.Kind.TheVariants.{TableLeaf}
use Rattle.spe_model.specs.Kind.{kind_of}
use Rattle.spe_model.specs.Page.{array_start, cell_count, page_at, page_of_kind}
use Rattle.spe_format.specs.declared.slot.Slot.{Slot}
use Rattle.spe_format.specs.Canonical.{IsWritable, cells_length, content}
use Rattle.spe_format.specs.Packed.{EndsTrail, IsPacked, IsSlotFor, IsSlotIn, IsTrail, IsWithin, leaf_page, offset_bytes}
use Rattle.spe_format.proofs.CanonicalLemmas.{content_length, starts_length}
use Rattle.spe_format.proofs.ContentLemmas.{length_joined}
use Rattle.spe_format.proofs.ReadBackLemmas.{layout_reads}
use Rattle.spe_format.proofs.SlotLemmas.{array_long}

no_bytes : (xs : List ℕ) → length xs ≡ 0 → xs ≡ []
no_bytes [] none = refl
no_bytes (x ∷ xs) none = absurd (omega (arith, none))

-- the cells of a whole array
pub slot_found : (page array : List ℕ) (at count key : ℕ) (slot : Slot) → array ≡ slice_range page (at + 8) (at + 8 + 2 * count) → at + 8 + 2 * count ≤ length page
    → count ≡ cell_count page at → at + 8 + 2 * count ≤ slot.low → slice_index page at ≡ 13 → EndsTrail page array key slot → IsSlotIn page at key slot
slot_found page array at count key slot is within count_is room kind ends =
    let has = ends.has in
    let t = has.trail in
    let cells = has.before ++ has.after in
    let size : length array ≡ 2 * count =
    ap (λ (xs : List ℕ). length xs) is ∙ length-take-le (at + 8 + 2 * count - (at + 8)) (drop (at + 8) page) (omega (arith, length-drop (at + 8) page)) ∙ omega arith in
    let long = array_long page array ends.left ends.last key slot has in
    let same : count ≡ length cells = omega (arith, long, size, ends.few, t.count) in
    let none : ends.left ≡ [] = no_bytes ends.left (omega (arith, long, size, ends.few)) in
    record {
      last = ends.last;
      before = has.before;
      after = has.after;
      kind_is = kind;
      stop = sym count_is ∙ same;
      offsets = ap (λ (n : ℕ). slice_range page (at + 8) (at + 8 + 2 * n)) (sym same) ∙ sym is ∙ has.offsets
          ∙ ap (λ (xs : List ℕ). offset_bytes (length page) cells ++ xs) none ∙ append-nil (offset_bytes (length page) cells);
      room = omega (arith, room, same);
      trail = t;
    }

pub slot_within : (page : List ℕ) (at key : ℕ) (slot : Slot) → IsSlotIn page at key slot → IsWithin at (length page) slot
slot_within page at key slot is =
    let t = is.trail in
    let cells = length_joined is.before is.after in
    let count = length-append is.before is.after in
    record {
      place = omega (arith, t.place, t.count, count);
      array = omega (arith, is.room, t.count);
      low = omega (arith, t.low, t.end, cells);
      end = omega (arith, t.end);
    }

kind_read : (page : List ℕ) (at : ℕ) (cells : List Cell) → slice_index page at ≡ 13 → page_of_kind (Some TableLeaf) page at ≡ Ok (leaf_page cells) → page_at page at ≡ Ok (leaf_page cells)
unfolding page_at kind_of
kind_read page at cells kind reads = ap (λ (n : ℕ). page_of_kind (kind_of n) page at) kind ∙ reads

-- a page of usable bytes alone, in parts
front_parts : (page : List ℕ) (at low : ℕ) (cells : List Cell) → at + 8 + 2 * length cells ≤ low → low ≤ length page
    → slice_range page (at + 8) (at + 8 + 2 * length cells) ≡ offset_bytes (length page) cells → drop low page ≡ content TableLeaf cells
    → page ≡ take (at + 8) page ++ (offset_bytes (length page) cells ++ (take (low - (at + 8 + 2 * length cells)) (drop (at + 8 + 2 * length cells) page) ++ content TableLeaf cells))
front_parts page at low cells room within offsets cells_are =
    let start = at + 8 in
    let stop = start + 2 * length cells in
    let gap = low - stop in
    let width : stop - start ≡ 2 * length cells = omega arith in
    let one : drop (2 * length cells) (drop start page) ≡ drop stop page = drop-drop (2 * length cells) start page in
    let up : stop + gap ≡ low = omega arith in
    let two : drop gap (drop stop page) ≡ content TableLeaf cells = drop-drop gap stop page ∙ ap (λ (n : ℕ). drop n page) up ∙ cells_are in
    let array : take (2 * length cells) (drop start page) ≡ offset_bytes (length page) cells = ap (λ (n : ℕ). take n (drop start page)) (sym width) ∙ offsets in
    sym (take-append-drop start page)
    ∙ ap (λ (xs : List ℕ). take start page ++ xs) (sym (take-append-drop (2 * length cells) (drop start page))
    ∙ ap (λ (xs : List ℕ). xs ++ drop (2 * length cells) (drop start page)) array
    ∙ ap (λ (xs : List ℕ). offset_bytes (length page) cells ++ xs) (one ∙ sym (take-append-drop gap (drop stop page)) ∙ ap (λ (xs : List ℕ). take gap (drop stop page) ++ xs) two))

front_reads : (page : List ℕ) (at key : ℕ) (slot : Slot) → length page ≤ 65536 → (is : IsSlotIn page at key slot) → page_at page at ≡ Ok (leaf_page (is.before ++ is.after))
front_reads page at key slot high is =
    let cells = is.before ++ is.after in
    let t = is.trail in
    let stop = at + 8 + 2 * length cells in
    let gap = take (slot.low - stop) (drop stop page) in
    let low : slot.low ≤ length page = omega (arith, t.low) in
    let long : length gap ≡ slot.low - stop = length-take-le (slot.low - stop) (drop stop page) (omega (arith, length-drop stop page, low)) in
    let ahead : length (take (at + 8) page) ≡ at + 8 = length-take-le (at + 8) page (omega (arith, is.room, low)) in
    kind_read page at cells is.kind_is
    (layout_reads page (take (at + 8) page) gap at (length page) (leaf_page cells) ahead (omega (arith, long, t.low, is.room)) high
    (record { cells = t.writable; right = λ _. refl; ascends = λ _. t.rises }) t.ranges
    (front_parts page at slot.low cells is.room low is.offsets t.cells_are) is.stop refl)

-- bytes behind the usable ones change nothing of this
pub slot_lifted : (page front : List ℕ) (at usable key : ℕ) (slot : Slot) → usable ≤ 65536 → usable ≤ length page → front ≡ take usable page → IsSlotIn front at key slot → IsSlotFor page at usable key slot
slot_lifted page front at usable key slot high inside is found =
    let t = found.trail in
    let cells = found.before ++ found.after in
    let stop = at + 8 + 2 * length cells in
    let size : length front ≡ usable = ap (λ (xs : List ℕ). length xs) is ∙ length-take-le usable page inside in
    let whole : page ≡ front ++ drop usable page = sym (take-append-drop usable page) ∙ ap (λ (xs : List ℕ). xs ++ drop usable page) (sym is) in
    let low : slot.low ≤ length front = omega (arith, t.low) in
    let start_in : at + 8 ≤ length front = omega (arith, found.room, low) in
    let stop_in : stop ≤ length front = omega (arith, found.room, low) in
    let width : stop - (at + 8) ≡ 2 * length cells = omega arith in
    let one : drop (2 * length cells) (drop (at + 8) page) ≡ drop stop page = drop-drop (2 * length cells) (at + 8) page in
    let from : (n : ℕ) → n ≤ length front → drop n page ≡ drop n front ++ drop usable page = λ n few. ap (drop n) whole ∙ drop-append-le n front (drop usable page) few in
    let few : 2 * length cells ≤ length (drop (at + 8) front) = omega (arith, length-drop (at + 8) front, stop_in) in
    let array : take (2 * length cells) (drop (at + 8) page) ≡ offset_bytes usable cells =
    ap (take (2 * length cells)) (from (at + 8) start_in) ∙ take-append-le (2 * length cells) (drop (at + 8) front) (drop usable page) few
    ∙ ap (λ (n : ℕ). take n (drop (at + 8) front)) (sym width) ∙ found.offsets ∙ ap (λ (n : ℕ). offset_bytes n cells) size in
    let low_is : usable - cells_length TableLeaf cells ≡ slot.low = omega (arith, t.low, size) in
    record {
      before = found.before;
      after = found.after;
      is = record {
        packed = record {
          reads = ap (λ (xs : List ℕ). page_at xs at) (sym is) ∙ front_reads front at key slot (omega (arith, size, high)) found;
          writable = subst (λ (u : ℕ). IsWritable (leaf_page cells) u) size (record { cells = t.writable; right = λ _. refl; ascends = λ _. t.rises });
          ranges = t.ranges;
          fits = omega (arith, found.room, t.low, size);
          offsets = sym (take-append-drop (2 * length cells) (drop (at + 8) page)) ∙ ap (λ (xs : List ℕ). xs ++ drop (2 * length cells) (drop (at + 8) page)) array
              ∙ ap (λ (xs : List ℕ). offset_bytes usable cells ++ xs) one;
          cells_are = ap (λ (n : ℕ). drop n page) low_is ∙ from slot.low low ∙ ap (λ (xs : List ℕ). xs ++ drop usable page) t.cells_are;
        };
        count = t.count;
        low = t.low ∙ size;
        place = t.place;
        end = t.end ∙ size;
      };
      lower = t.lower;
      higher = t.higher;
    }

pub if_some : {X : Type 0} (o : Option X) (P Q : X → Type 0) → ((x : X) → P x → Q x) → IfSome o P → IfSome o Q
if_some None P Q all is = tt
if_some (Some x) P Q all is = all x is
