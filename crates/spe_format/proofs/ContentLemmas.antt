-- Cells in their written form behind one another.
use Rattle.std.proofs.Common.{◌≡◌, ℕ, zero, suc, ℤ, pos, negsuc, ◌+◌, ◌-◌, ◌*◌, ◌<◌, ◌≤◌, List, [], ◌∷◌, ◌++◌, length, true, All, Bool, false, refl, sym, ap, ◌∙◌, arith, append_assoc, append-nil, length-append}
use Rattle.std.proofs.lemmas.Bool.{lt-ltb}
use Rattle.std.proofs.lemmas.List.Elements.{All-head, All-tail}
use Rattle.std.specs.Prelude.{◌&&◌, int_lt}
use Rattle.std.specs.List.{flat_map}
use Rattle.byteorder.specs.Endian.{big_bytes}
use Rattle.spe_model.specs.declared.page.Cell.{Cell}
use Rattle.spe_model.specs.declared.page.Kind.TheVariants.{TableLeaf}
use Rattle.spe_model.specs.Page.{above, ascends}
use Rattle.spe_model.specs.Tree.{rank}
use Rattle.spe_format.specs.Canonical.{AreInRange, AreWritable, cell_bytes, cells_length, content, starts}
use Rattle.spe_format.specs.Packed.{offset_bytes}

pub length_joined : (a b : List Cell) → cells_length TableLeaf (a ++ b) ≡ cells_length TableLeaf a + cells_length TableLeaf b
length_joined [] b = omega arith
length_joined (c ∷ cs) b = omega (arith, length_joined cs b)

pub offsets_joined : (end : ℕ) (a b : List Cell) → offset_bytes end (a ++ b) ≡ offset_bytes end a ++ offset_bytes (end - cells_length TableLeaf a) b
offsets_joined end [] b = let same : end ≡ end - 0 = omega arith in ap (λ (n : ℕ). offset_bytes n b) same
offsets_joined end (c ∷ cs) b =
    let low = end - length (cell_bytes TableLeaf c) in
    let same : low - cells_length TableLeaf cs ≡ end - (length (cell_bytes TableLeaf c) + cells_length TableLeaf cs) = omega arith in
    ap (λ (xs : List ℕ). big_bytes 2 low ++ xs) (offsets_joined low cs b ∙ ap (λ (n : ℕ). offset_bytes low cs ++ offset_bytes n b) same)

pub content_joined : (a b : List Cell) → content TableLeaf (a ++ b) ≡ content TableLeaf b ++ content TableLeaf a
content_joined [] b = sym (append-nil (content TableLeaf b))
content_joined (c ∷ cs) b =
    ap (λ (xs : List ℕ). xs ++ cell_bytes TableLeaf c) (content_joined cs b) ∙ append_assoc (content TableLeaf b) (content TableLeaf cs) (cell_bytes TableLeaf c)

pub writable_joined : (usable : ℕ) (a b : List Cell) → AreWritable TableLeaf usable a → AreWritable TableLeaf usable b → AreWritable TableLeaf usable (a ++ b)
writable_joined usable [] b first then_ = then_
writable_joined usable (c ∷ cs) b first then_ = (first.0, writable_joined usable cs b first.1 then_)

pub ranges_joined : (a b : List Cell) → AreInRange a → AreInRange b → AreInRange (a ++ b)
ranges_joined [] b first then_ = then_
ranges_joined (c ∷ cs) b first then_ = (first.0, ranges_joined cs b first.1 then_)

pub ranges_parted : (a b : List Cell) → AreInRange (a ++ b) → AreInRange a × AreInRange b
ranges_parted [] b all = (tt, all)
ranges_parted (c ∷ cs) b all = let rest = ranges_parted cs b all.1 in ((all.0, rest.0), rest.1)

-- keys sort as their ranks do
rank_below : (a b : ℤ) → rank a < rank b → int_lt a b ≡ true
rank_below (pos a) (pos b) less = lt-ltb a b (omega (arith, less))
rank_below (pos a) (negsuc b) less = absurd (omega (arith, less))
rank_below (negsuc a) (pos b) less = refl
rank_below (negsuc a) (negsuc b) less = lt-ltb b a (omega (arith, less))

abbrev pub HasRankBelow : ℕ → Cell → Type 0
HasRankBelow key d = rank d.key < key

and_both : (a b : Bool) → (a && b) ≡ true → (a ≡ true) × (b ≡ true)
and_both true b both = (refl, both)
and_both false b both = absurd cc

above_behind : (key : ℤ) (cells : List Cell) (c : Cell) → rank key < rank c.key → above key cells ≡ true → All (HasRankBelow (rank c.key)) cells → above key (cells ++ (c ∷ [])) ≡ true
above_behind key [] c less up lower = rw (rank_below key c.key less) refl
above_behind key (d ∷ ds) c less up lower =
    let both = and_both (int_lt key d.key) (above d.key ds) up in
    rw (both.0, above_behind d.key ds c (All-head (HasRankBelow (rank c.key)) d ds lower) both.1 (All-tail (HasRankBelow (rank c.key)) d ds lower)) refl

-- keys ascend with a higher one behind them
pub ascends_behind : (cells : List Cell) (c : Cell) → ascends cells ≡ true → All (HasRankBelow (rank c.key)) cells → ascends (cells ++ (c ∷ [])) ≡ true
ascends_behind [] c up lower = refl
ascends_behind (d ∷ ds) c up lower = above_behind d.key ds c (All-head (HasRankBelow (rank c.key)) d ds lower) up (All-tail (HasRankBelow (rank c.key)) d ds lower)
