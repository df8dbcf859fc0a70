-- The keys of the cells of pages are rowids.
use Rattle.std.proofs.Common.{◌≡◌, inl, inr, ℕ, zero, suc, ℤ, pos, negsuc, ◌<◌, ◌≤◌, Bool, true, false, not, ◌&&◌, nat_lt, ◌==◌, ltb, if◌then◌else◌, List, [], ◌∷◌, ◌++◌, length, drop, Option, Some, None, Result, Err, IfSome, arith, to_z, w64}
use Rattle.std.specs.List.{list_all}
use Rattle.std.proofs.lemmas.Bool.{cases_Bool}
use Rattle.std.specs.Int.{cast_signed}
use Rattle.std.specs.Prelude.{slice_index}
use Rattle.spe_model.specs.declared.page.Kind.{Kind}
use Rattle.spe_model.specs.declared.page.Cell.{Cell}
use Rattle.spe_model.specs.declared.page.PageCells.{PageCells}
use Rattle.spe_model.specs.declared.page.PageFault.{PageFault}
use Rattle.spe_model.specs.Kind.{kind_of, is_table}
use Rattle.spe_model.specs.Cell.{◌>>=◌, left_at, payload_at, key_at, bytes_at, chain_at, cell_at, number_at, size_of}
use Rattle.spe_model.specs.Page.{apart, ascends, array_end, offsets_at, is_within, placed_at, placed_all, page_of_cells, page_of_kind, page_at}
use Rattle.spe_model.specs.Paging.{Paging}
use Rattle.spe_model.specs.Tree.{cells_in, node_cells, node_right, rows_of, tree_rows, fan, header_end}

-- a rowid has 64 bits with a sign
abbrev pub IsRowid : ℤ → Type 0
IsRowid (pos n) = n ≤ 9223372036854775807
IsRowid (negsuc n) = n ≤ 9223372036854775807

bind_if : {A B : Type 0} (Q : A → Type 0) (P : B → Type 0) (o : Option A) (f : A → Option B) → IfSome o Q → ((a : A) → Q a → IfSome (f a) P) → IfSome (o >>= f) P
bind_if Q P None f q h = tt
bind_if Q P (Some a) f q h = h a q

bind_any : {A B : Type 0} (P : B → Type 0) (o : Option A) (f : A → Option B) → ((a : A) → IfSome (f a) P) → IfSome (o >>= f) P
bind_any P None f h = tt
bind_any P (Some a) f h = h a

-- a number of 64 bits with a sign, whatever the bits are
pub rowid_of_bits : (n : ℕ) → IsRowid (to_z w64 n)
rowid_of_bits n = elim (cases_Bool (ltb n 9223372036854775808)) [
  | inl less ↦ rw less (omega (arith, low n less))
  | inr more ↦ rw more (omega (arith, high n more))
]
  where
    low : (n : ℕ) → ltb n 9223372036854775808 ≡ true → n < 9223372036854775808
    low n h = grind arith

    high : (n : ℕ) → ltb n 9223372036854775808 ≡ false → 9223372036854775808 ≤ n
    high n h = grind arith

abbrev HasKey : ℤ × List ℕ → Type 0
HasKey x = IsRowid x.0

key_fits : (kind : Kind) (bytes : List ℕ) → IfSome (key_at kind bytes) HasKey
unfolding key_at
key_fits kind bytes = elim (cases_Bool (is_table kind)) [
  | inl table ↦ rw table (bind_any HasKey (number_at bytes) (λ x. Some (cast_signed w64 x.0, x.1)) (λ x. rowid_of_bits x.0))
  | inr index ↦ rw index (omega arith)
]

abbrev IsPlaced : Cell × List ℕ → Type 0
IsPlaced x = IsRowid x.0.key

if_some : {A : Type 0} (P : A → Type 0) (b : Bool) (o : Option A) → IfSome o P → IfSome (if b then None else o) P
if_some P true o h = tt
if_some P false o h = h

cell_fits : (kind : Kind) (usable : ℕ) (bytes : List ℕ) → IfSome (cell_at kind usable bytes) IsPlaced
unfolding cell_at
cell_fits kind usable bytes =
    bind_any IsPlaced (left_at kind bytes) _ (λ left. bind_any IsPlaced (payload_at kind left.1) _ (λ payload.
    if_some IsPlaced (nat_lt 2147483647 payload.0) _
    (bind_if HasKey IsPlaced (key_at kind payload.1) _ (key_fits kind payload.1) (λ key is.
    bind_any IsPlaced (bytes_at (size_of kind payload.0 usable) key.1) _ (λ local.
    bind_any IsPlaced (chain_at (size_of kind payload.0 usable == payload.0) local.1) _ (λ chain. is))))))

abbrev IsFound : Cell × ℕ → Type 0
IsFound x = IsRowid x.0.key

placed_fits : (kind : Kind) (usable : ℕ) (page : List ℕ) (offset : ℕ) → IfSome (placed_at kind usable page offset) IsFound
unfolding placed_at
placed_fits kind usable page offset = bind_if IsPlaced IsFound (cell_at kind usable (drop offset page)) _ (cell_fits kind usable (drop offset page)) (λ x is. is)

abbrev pub AreFit : List Cell → Type 0
AreFit [] = Unit {0}
AreFit (c ∷ cs) = IsRowid c.key × AreFit cs

abbrev AreAll : List Cell × List (ℕ × ℕ) → Type 0
AreAll x = AreFit x.0

all_fit : (kind : Kind) (usable : ℕ) (page offsets : List ℕ) → IfSome (placed_all kind usable page offsets) AreAll
all_fit kind usable page [] = tt
all_fit kind usable page (offset ∷ offsets) =
    bind_if IsFound AreAll (placed_at kind usable page offset) _ (placed_fits kind usable page offset) (λ first is.
    bind_if AreAll AreAll (placed_all kind usable page offsets) _ (all_fit kind usable page offsets) (λ others are. (is, are)))

abbrev IsFit : Result PageCells PageFault → Type 0
IsFit result = AreFit (cells_in result)

fit_if : (b : Bool) (fault : PageFault) (r : Result PageCells PageFault) → IsFit r → IsFit (if b then Err fault else r)
fit_if true fault r h = tt
fit_if false fault r h = h

cells_fit : (kind : Kind) (page : List ℕ) (at : ℕ) (o : Option (List Cell × List (ℕ × ℕ))) → IfSome o AreAll → IsFit (page_of_cells kind page at o)
cells_fit kind page at None h = tt
cells_fit kind page at (Some found) h = fit_if (not (apart found.1)) _ _ (fit_if (is_table kind && not (ascends found.0)) _ _ h)

kind_fit : (kind : Option Kind) (page : List ℕ) (at : ℕ) → IsFit (page_of_kind kind page at)
kind_fit None page at = tt
kind_fit (Some kind) page at =
    fit_if (nat_lt (length page) (array_end kind page at)) _ _
    (fit_if (not (list_all (is_within (array_end kind page at) (length page)) (offsets_at kind page at))) _ _
    (cells_fit kind page at (placed_all kind (length page) page (offsets_at kind page at)) (all_fit kind (length page) page (offsets_at kind page at))))

page_fit : (page : List ℕ) (at : ℕ) → IsFit (page_at page at)
unfolding page_at
page_fit page at = kind_fit (kind_of (slice_index page at)) page at

node_fit : (usable : ℕ) (pages : Paging) (page : ℕ) → AreFit (node_cells usable pages page)
node_fit usable pages page = page_fit _ (header_end page)

-- the rowids of stored rows
abbrev pub AreNumbered : List (ℤ × List ℕ) → Type 0
AreNumbered [] = Unit {0}
AreNumbered (r ∷ rs) = IsRowid r.0 × AreNumbered rs

rows_numbered : (usable : ℕ) (pages : Paging) (cells : List Cell) → AreFit cells → AreNumbered (rows_of usable pages cells)
rows_numbered usable pages [] h = tt
rows_numbered usable pages (c ∷ cs) h = (h.0, rows_numbered usable pages cs h.1)

both_numbered : (xs ys : List (ℤ × List ℕ)) → AreNumbered xs → AreNumbered ys → AreNumbered (xs ++ ys)
both_numbered [] ys a b = b
both_numbered (x ∷ xs) ys a b = (a.0, both_numbered xs ys a.1 b)

fan_numbered : (rows : ℕ → List (ℤ × List ℕ)) → ((page : ℕ) → AreNumbered (rows page)) → (cells : List Cell) (right : ℕ) → AreNumbered (fan rows cells right)
fan_numbered rows h [] right = h right
fan_numbered rows h (c ∷ cs) right = both_numbered (rows c.left) (fan rows cs right) (h c.left) (fan_numbered rows h cs right)

pub tree_numbered : (usable : ℕ) (pages : Paging) (height page : ℕ) → AreNumbered (tree_rows usable pages height page)
tree_numbered usable pages zero page = rows_numbered usable pages (node_cells usable pages page) (node_fit usable pages page)
tree_numbered usable pages (suc height) page =
    fan_numbered (tree_rows usable pages height) (tree_numbered usable pages height) (node_cells usable pages page) (node_right usable pages page)
