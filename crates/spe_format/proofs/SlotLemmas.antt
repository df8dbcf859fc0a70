-- The cells that were seen, one after the other.
use Rattle.std.proofs.Common.{◌≡◌, ◌⊎◌, ℕ, zero, suc, ◌+◌, ◌-◌, ◌*◌, ◌<◌, ◌≤◌, List, [], ◌∷◌, ◌++◌, length, take, drop, true, All, refl, sym, ap, subst, ◌∙◌, arith, append_assoc, append-nil, length-append, inl, inr}
use Rattle.std.proofs.lemmas.List.{drop_all, drop_at, drop-drop, length-drop}
use Rattle.std.proofs.lemmas.List.Elements.{All-append, All-cons, All-head, All-nil, All-tail}
use Rattle.byteorder.specs.Endian.{big_bytes}
use Rattle.spe_model.specs.declared.page.Cell.{Cell}
use Rattle.spe_model.specs.declared.page.Kind.TheVariants.{TableLeaf}
use Rattle.spe_model.specs.Page.{ascends}
use Rattle.spe_model.specs.Tree.{rank}
use Rattle.spe_format.specs.declared.slot.Slot.{Slot}
use Rattle.spe_format.specs.Canonical.{AreInRange, AreWritable, IsWritableCell, cell_bytes, cells_length, content}
use Rattle.spe_format.specs.Packed.{HasTrail, IsCellAt, IsNext, IsSpelled, IsTrail, offset_bytes}
use Rattle.spe_format.proofs.CanonicalLemmas.{starts_length}
use Rattle.spe_format.proofs.ContentLemmas.{HasRankBelow, ascends_behind, content_joined, length_joined, offsets_joined, ranges_joined, writable_joined}

abbrev AtMost : ℕ → Cell → Type 0
AtMost last d = rank d.key ≤ last

none_left : (cells : List Cell) → length cells ≡ 0 → cells ≡ []
none_left [] none = refl
none_left (c ∷ cs) none = absurd (omega (arith, none))

raised : (last next : ℕ) (cells : List Cell) → (0 < length cells → last < next) → All (AtMost last) cells → All (HasRankBelow next) cells
raised last next [] rises all = All-nil (HasRankBelow next)
raised last next (c ∷ cs) rises all =
    let less : last < next = rises (omega arith) in
    All-cons (HasRankBelow next) c cs (omega (arith, less, All-head (AtMost last) c cs all)) (raised last next cs (λ some. less) (All-tail (AtMost last) c cs all))

weaker : (next : ℕ) (cells : List Cell) → All (HasRankBelow next) cells → All (AtMost next) cells
weaker next [] all = All-nil (AtMost next)
weaker next (c ∷ cs) all = All-cons (AtMost next) c cs (omega (arith, All-head (HasRankBelow next) c cs all)) (weaker next cs (All-tail (HasRankBelow next) c cs all))

-- what is the same whether the cell stands before the place or behind it
pub record More (page : List ℕ) (begin next : ℕ) (cells : List Cell) (cell : Cell) : Type 0 where
  pub cells_are : drop begin page ≡ content TableLeaf (cells ++ (cell ∷ []))
  pub low : begin + cells_length TableLeaf (cells ++ (cell ∷ [])) ≡ length page
  pub top : All (AtMost next) (cells ++ (cell ∷ []))
  pub rises : ascends (cells ++ (cell ∷ [])) ≡ true
  pub writable : AreWritable TableLeaf (length page) (cells ++ (cell ∷ []))
  pub ranges : AreInRange (cells ++ (cell ∷ []))

more_is : (page : List ℕ) (last key begin next : ℕ) (slot : Slot) (before after : List Cell) → IsTrail page last key slot before after → (at : IsCellAt page begin slot.low next)
    → (0 < slot.count → last < next) → More page begin next (before ++ after) at.cell
more_is page last key begin next slot before after t at rises =
    let cells = before ++ after in
    let c = at.cell in
    let below : All (HasRankBelow next) cells = raised last next cells (λ some. rises (omega (arith, some, t.count))) t.top in
    let below_it : All (HasRankBelow (rank c.key)) cells = subst (λ (k : ℕ). All (HasRankBelow k) cells) (sym at.key_is) below in
    let one : cells_length TableLeaf (cells ++ (c ∷ [])) ≡ cells_length TableLeaf cells + (length (cell_bytes TableLeaf c) + 0) = length_joined cells (c ∷ []) in
    record {
      cells_are = at.spelled.bytes_are ∙ ap (λ (xs : List ℕ). cell_bytes TableLeaf c ++ xs) t.cells_are ∙ sym (content_joined cells (c ∷ []));
      low = omega (arith, one, at.ends, t.low);
      top = All-append (AtMost next) cells (c ∷ []) (weaker next cells below) (All-cons (AtMost next) c [] (omega (arith, at.key_is)) (All-nil (AtMost next)));
      rises = ascends_behind cells c t.rises below_it;
      writable = writable_joined (length page) cells (c ∷ []) t.writable (at.spelled.writable, tt);
      ranges = ranges_joined cells (c ∷ []) t.ranges (at.spelled.range, tt);
    }

-- the array with one offset less to go
offsets_more : (page array left rest : List ℕ) (begin end : ℕ) (cells : List Cell) (c : Cell) → begin + length (cell_bytes TableLeaf c) ≡ end → end + cells_length TableLeaf cells ≡ length page
    → array ≡ offset_bytes (length page) cells ++ left → left ≡ big_bytes 2 begin ++ rest → array ≡ offset_bytes (length page) (cells ++ (c ∷ [])) ++ rest
offsets_more page array left rest begin end cells c ends low is first =
    let at : length page - cells_length TableLeaf cells - length (cell_bytes TableLeaf c) ≡ begin = omega (arith, ends, low) in
    let joined : offset_bytes (length page) (cells ++ (c ∷ [])) ≡ offset_bytes (length page) cells ++ big_bytes 2 begin =
    offsets_joined (length page) cells (c ∷ []) ∙ ap (λ (n : ℕ). offset_bytes (length page) cells ++ (big_bytes 2 n ++ [])) at in
    is ∙ ap (λ (xs : List ℕ). offset_bytes (length page) cells ++ xs) first ∙ sym (append_assoc (offset_bytes (length page) cells) (big_bytes 2 begin) rest)
    ∙ ap (λ (xs : List ℕ). xs ++ rest) (sym joined)

abbrev slot_count : Slot → ℕ
slot_count s = s.count

-- the cell stands before the place
trail_before : (page : List ℕ) (last key begin next : ℕ) (slot new : Slot) (before after : List Cell) (c : Cell) → IsTrail page last key slot before after
    → More page begin next (before ++ after) c → rank c.key ≡ next → begin + length (cell_bytes TableLeaf c) ≡ slot.low → next < key → slot.place ≡ slot.count
    → new ≡ record { count = slot.count + 1; low = begin; place = slot.count + 1; end = begin } → IsTrail page next key new (before ++ (c ∷ [])) []
trail_before page last key begin next slot new before after c t more is ends less at_end new_is =
    let none : after ≡ [] = none_left after (omega (arith, at_end, t.count, t.place, length-append before after)) in
    let same : before ++ after ≡ before = ap (λ (cs : List Cell). before ++ cs) none ∙ append-nil before in
    let all : (before ++ after) ++ (c ∷ []) ≡ (before ++ (c ∷ [])) ++ [] = ap (λ (cs : List Cell). cs ++ (c ∷ [])) same ∙ sym (append-nil (before ++ (c ∷ []))) in
    let one = length-append before (c ∷ []) in
    let sum : cells_length TableLeaf (before ++ after) ≡ cells_length TableLeaf before = ap (cells_length TableLeaf) same in
    let sum_more : cells_length TableLeaf (before ++ (c ∷ [])) ≡ cells_length TableLeaf before + (length (cell_bytes TableLeaf c) + 0) = length_joined before (c ∷ []) in
    let nil : length ((before ++ (c ∷ [])) ++ []) ≡ length (before ++ (c ∷ [])) = ap (λ (cs : List Cell). length cs) (append-nil (before ++ (c ∷ []))) in
    subst (λ (s : Slot). IsTrail page next key s (before ++ (c ∷ [])) []) (sym new_is) (record {
      cells_are = more.cells_are ∙ ap (content TableLeaf) all;
      count = omega (arith, at_end, t.place, one, nil);
      low = subst (λ (cs : List Cell). begin + cells_length TableLeaf cs ≡ length page) all more.low;
      place = omega (arith, at_end, t.place, one);
      end = omega (arith, sum, sum_more, t.low, ends);
      lower = All-append (HasRankBelow key) before (c ∷ []) t.lower (All-cons (HasRankBelow key) c [] (omega (arith, is, less)) (All-nil (HasRankBelow key)));
      higher = All-nil (λ (d : Cell). key < rank d.key);
      top = subst (λ (cs : List Cell). All (AtMost next) cs) all more.top;
      rises = subst (λ (cs : List Cell). ascends cs ≡ true) all more.rises;
      writable = subst (AreWritable TableLeaf (length page)) all more.writable;
      ranges = subst AreInRange all more.ranges;
    })

-- the cell stands behind the place
trail_behind : (page : List ℕ) (last key begin next : ℕ) (slot new : Slot) (before after : List Cell) (c : Cell) → IsTrail page last key slot before after
    → More page begin next (before ++ after) c → rank c.key ≡ next → key < next → new ≡ record slot { count = slot.count + 1; low = begin } → IsTrail page next key new before (after ++ (c ∷ []))
trail_behind page last key begin next slot new before after c t more is less new_is =
    let all : (before ++ after) ++ (c ∷ []) ≡ before ++ (after ++ (c ∷ [])) = append_assoc before after (c ∷ []) in
    let one = length-append (before ++ after) (c ∷ []) in
    let count : length ((before ++ after) ++ (c ∷ [])) ≡ length (before ++ (after ++ (c ∷ []))) = ap (λ (cs : List Cell). length cs) all in
    subst (λ (s : Slot). IsTrail page next key s before (after ++ (c ∷ []))) (sym new_is) (record {
      cells_are = more.cells_are ∙ ap (content TableLeaf) all;
      count = omega (arith, t.count, one, count);
      low = subst (λ (cs : List Cell). begin + cells_length TableLeaf cs ≡ length page) all more.low;
      place = t.place;
      end = t.end;
      lower = t.lower;
      higher = All-append (λ (d : Cell). key < rank d.key) after (c ∷ []) t.higher (All-cons (λ (d : Cell). key < rank d.key) c [] (omega (arith, is, less)) (All-nil (λ (d : Cell). key < rank d.key)));
      top = subst (λ (cs : List Cell). All (AtMost next) cs) all more.top;
      rises = subst (λ (cs : List Cell). ascends cs ≡ true) all more.rises;
      writable = subst (AreWritable TableLeaf (length page)) all more.writable;
      ranges = subst AreInRange all more.ranges;
    })

-- a turn of the loop
pub trail_turn : (page array left rest : List ℕ) (last key begin next : ℕ) (slot new : Slot) → HasTrail page array left last key slot → IsCellAt page begin slot.low next
    → IsNext slot begin last next key new → left ≡ big_bytes 2 begin ++ rest → HasTrail page array rest next key new
trail_turn page array left rest last key begin next slot new has at step first =
    let t = has.trail in
    let more = more_is page last key begin next slot has.before has.after t at step.rises in
    let offsets = offsets_more page array left rest begin slot.low (has.before ++ has.after) at.cell at.ends t.low has.offsets first in
    elim step.stands [
      | inl s ↦
          let none : has.after ≡ [] = none_left has.after (omega (arith, s.1, t.count, t.place, length-append has.before has.after)) in
          let all : (has.before ++ has.after) ++ (at.cell ∷ []) ≡ (has.before ++ (at.cell ∷ [])) ++ [] =
          ap (λ (cs : List Cell). (has.before ++ cs) ++ (at.cell ∷ [])) none ∙ ap (λ (cs : List Cell). cs ++ (at.cell ∷ [])) (append-nil has.before) ∙ sym (append-nil (has.before ++ (at.cell ∷ []))) in
          record {
            before = has.before ++ (at.cell ∷ []);
            after = [];
            offsets = subst (λ (cs : List Cell). array ≡ offset_bytes (length page) cs ++ rest) all offsets;
            trail = trail_before page last key begin next slot new has.before has.after at.cell t more at.key_is at.ends s.0 s.1 s.2;
          }
      | inr s ↦
          record {
            before = has.before;
            after = has.after ++ (at.cell ∷ []);
            offsets = subst (λ (cs : List Cell). array ≡ offset_bytes (length page) cs ++ rest) (append_assoc has.before has.after (at.cell ∷ [])) offsets;
            trail = trail_behind page last key begin next slot new has.before has.after at.cell t more at.key_is s.0 s.1;
          }
    ]

-- before the loop
pub trail_start : (page array : List ℕ) (key : ℕ) → HasTrail page array array 0 key (record { count = 0; low = length page; place = 0; end = length page })
trail_start page array key = record {
  before = [];
  after = [];
  offsets = refl;
  trail = record {
    cells_are = drop_all (length page) page (omega arith);
    count = refl;
    low = omega arith;
    place = refl;
    end = omega arith;
    lower = All-nil (HasRankBelow key);
    higher = All-nil (λ (d : Cell). key < rank d.key);
    top = All-nil (AtMost 0);
    rises = refl;
    writable = tt;
    ranges = tt;
  };
}

-- a cell that was read at a place
pub cell_at : (page tail rest : List ℕ) (begin end usable key : ℕ) (c : Cell) → usable ≡ length page → begin ≤ end → end ≤ length page → tail ≡ drop begin page
    → length page - length rest ≡ end → rank c.key ≡ key → IsSpelled usable tail c rest → IsCellAt page begin end key
cell_at page tail rest begin end usable key c same order within is stop key_is spelled =
    let bytes = cell_bytes TableLeaf c in
    let whole : length tail ≡ length bytes + length rest = ap (λ (xs : List ℕ). length xs) spelled.bytes_are ∙ length-append bytes rest in
    let long : length tail ≡ length page - begin = ap (λ (xs : List ℕ). length xs) is ∙ length-drop begin page in
    let ends : begin + length bytes ≡ end = omega (arith, whole, long, stop) in
    let behind : rest ≡ drop end page =
    sym (drop_at bytes rest (length bytes) refl) ∙ ap (drop (length bytes)) (sym spelled.bytes_are ∙ is) ∙ drop-drop (length bytes) begin page ∙ ap (λ (n : ℕ). drop n page) ends in
    record {
      cell = c;
      key_is = key_is;
      ends = ends;
      spelled = record {
        bytes_are = sym is ∙ spelled.bytes_are ∙ ap (λ (xs : List ℕ). bytes ++ xs) behind;
        writable = subst (λ (u : ℕ). IsWritableCell TableLeaf u c) same spelled.writable;
        range = spelled.range;
      };
    }

pub array_long : (page array left : List ℕ) (last key : ℕ) (slot : Slot) → HasTrail page array left last key slot → 2 * slot.count + length left ≡ length array
array_long page array left last key slot has =
    let cells = has.before ++ has.after in
    let long : length array ≡ length (offset_bytes (length page) cells) + length left = ap (λ (xs : List ℕ). length xs) has.offsets ∙ length-append (offset_bytes (length page) cells) left in
    omega (arith, long, starts_length TableLeaf (length page) cells, has.trail.count)
