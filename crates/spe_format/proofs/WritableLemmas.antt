-- What is read can be written again.
use Rattle.std.proofs.Common.{◌≡◌, ℕ, ◌≤◌, ℤ, pos, List, [], ◌∷◌, length, take, drop, Bool, true, false, refl, sym, ap, ◌∙◌, subst, Option, Some, None, Result, Ok, Err}
use Rattle.std.proofs.lemmas.Bool.{not-false, ltb-false, eq-eqb}
use Rattle.std.proofs.lemmas.List.{length-take-le}
use Rattle.std.specs.List.{list_all}
use Rattle.std.specs.Prelude.{nat_lt, not, ◌==◌, ◌&&◌, if◌then◌else◌, slice_index}
use Rattle.spe_model.specs.declared.page.Cell.{Cell}
use Rattle.spe_model.specs.declared.page.Kind.{Kind}
use Rattle.spe_model.specs.declared.page.Kind.TheVariants.{TableLeaf, TableInterior, IndexLeaf, IndexInterior}
use Rattle.spe_model.specs.declared.page.PageCells.{PageCells}
use Rattle.spe_model.specs.declared.page.PageFault.{PageFault}
use Rattle.spe_model.specs.Cell.{◌>>=◌, left_at, payload_at, key_at, bytes_at, chain_at, size_of, cell_at}
use Rattle.spe_model.specs.Kind.{kind_of, is_leaf, is_table, has_payload}
use Rattle.spe_model.specs.Page.{placed_at, placed_all, offsets_at, array_end, is_within, apart, ascends, right_at, page_of_cells, page_of_kind, page_at}
use Rattle.spe_format.specs.Canonical.{IsWritableCell, AreWritable, IsWritable}

abbrev pub first_of : {X : Type 0} → X → Option (X × List ℕ) → X
first_of other None = other
first_of other (Some x) = x.0

bind_some : {A B : Type 0} (o : Option A) (f : A → Option B) (y : B) → (o >>= f) ≡ Some y → (x : A) × (o ≡ Some x) × (f x ≡ Some y)
bind_some None f y e = absurd cc
bind_some (Some x) f y e = (x, refl, e)

pub unless_none : {Y : Type 0} (b : Bool) (o : Option Y) (y : Y) → (if b then None else o) ≡ Some y → (b ≡ false) × (o ≡ Some y)
unless_none true o y e = absurd cc
unless_none false o y e = (refl, e)

abbrev pub part : {X : Type 0} → X → List ℕ → Option (X × List ℕ)
part x rest = Some (x, rest)

left_none : (kind : Kind) (bytes rest : List ℕ) (n : ℕ) → left_at kind bytes ≡ part n rest → is_leaf kind ≡ true → n ≡ 0
unfolding left_at
left_none TableLeaf bytes rest n e leaf = sym (ap (λ (o : Option (ℕ × List ℕ)). first_of 0 o) e)
left_none TableInterior bytes rest n e leaf = absurd cc
left_none IndexLeaf bytes rest n e leaf = sym (ap (λ (o : Option (ℕ × List ℕ)). first_of 0 o) e)
left_none IndexInterior bytes rest n e leaf = absurd cc

payload_none : (kind : Kind) (bytes rest : List ℕ) (n : ℕ) → payload_at kind bytes ≡ part n rest → has_payload kind ≡ false → n ≡ 0
unfolding payload_at
payload_none TableLeaf bytes rest n e none = absurd cc
payload_none TableInterior bytes rest n e none = sym (ap (λ (o : Option (ℕ × List ℕ)). first_of 0 o) e)
payload_none IndexLeaf bytes rest n e none = absurd cc
payload_none IndexInterior bytes rest n e none = absurd cc

key_none : (kind : Kind) (bytes rest : List ℕ) (n : ℤ) → key_at kind bytes ≡ part n rest → is_table kind ≡ false → n ≡ pos 0
unfolding key_at
key_none TableLeaf bytes rest n e none = absurd cc
key_none TableInterior bytes rest n e none = absurd cc
key_none IndexLeaf bytes rest n e none = sym (ap (λ (o : Option (ℤ × List ℕ)). first_of (pos 0) o) e)
key_none IndexInterior bytes rest n e none = sym (ap (λ (o : Option (ℤ × List ℕ)). first_of (pos 0) o) e)

local_long : (count : ℕ) (bytes local rest : List ℕ) → bytes_at count bytes ≡ part local rest → length local ≡ count
unfolding bytes_at
local_long count bytes local rest e =
    let enough = unless_none (nat_lt (length bytes) count) _ (local, rest) e in
    let same : take count bytes ≡ local = ap (λ (o : Option (List ℕ × List ℕ)). first_of [] o) enough.1 in
    ap length (sym same) ∙ length-take-le count bytes (ltb-false (length bytes) count enough.0)

pub chain_none : (size payload : ℕ) (bytes rest : List ℕ) (n : ℕ) → chain_at (size == payload) bytes ≡ part n rest → size ≡ payload → n ≡ 0
unfolding chain_at
chain_none size payload bytes rest n e whole =
    sym (ap (λ (o : Option (ℕ × List ℕ)). first_of 0 o) (rw (eq-eqb size payload whole) at e))

pub cell_writable : (kind : Kind) (usable : ℕ) (bytes rest : List ℕ) (c : Cell) → cell_at kind usable bytes ≡ Some (c, rest) → IsWritableCell kind usable c
unfolding cell_at
cell_writable kind usable bytes rest c e =
    let left = bind_some (left_at kind bytes) _ (c, rest) e in
    let payload = bind_some (payload_at kind left.0.1) _ (c, rest) left.2 in
    let few = unless_none (nat_lt 2147483647 payload.0.0) _ (c, rest) payload.2 in
    let key = bind_some (key_at kind payload.0.1) _ (c, rest) few.1 in
    let size = size_of kind payload.0.0 usable in
    let local = bind_some (bytes_at size key.0.1) _ (c, rest) key.2 in
    let chain = bind_some (chain_at (size == payload.0.0) local.0.1) _ (c, rest) local.2 in
    let cell : Cell = record { left = left.0.0; key = key.0.0; payload = payload.0.0; local = local.0.0; chain = chain.0.0 } in
    let same : cell ≡ c = ap (λ (o : Option (Cell × List ℕ)). first_of c o) chain.2 in
    let long : length local.0.0 ≡ size = local_long size key.0.1 local.0.0 local.0.1 local.1 in
    let writable : IsWritableCell kind usable cell = record {
      left = left_none kind bytes left.0.1 left.0.0 left.1;
      key = key_none kind payload.0.1 key.0.1 key.0.0 key.1;
      payload = payload_none kind left.0.1 payload.0.1 payload.0.0 payload.1;
      most = ltb-false 2147483647 payload.0.0 few.0;
      local = long;
      chain = λ whole. chain_none size payload.0.0 local.0.1 chain.0.1 chain.0.0 chain.1 (sym long ∙ whole);
    } in
    subst (IsWritableCell kind usable) same writable

abbrev cells_found : Option (List Cell × List (ℕ × ℕ)) → List Cell
cells_found None = []
cells_found (Some x) = x.0

abbrev cell_found : Cell → Option (Cell × ℕ) → Cell
cell_found other None = other
cell_found other (Some x) = x.0

placed_writable : (kind : Kind) (usable : ℕ) (page : List ℕ) (offset : ℕ) (found : Cell × ℕ) → placed_at kind usable page offset ≡ Some found → IsWritableCell kind usable found.0
unfolding placed_at
placed_writable kind usable page offset found e =
    let one = bind_some (cell_at kind usable (drop offset page)) _ found e in
    let same : one.0.0 ≡ found.0 = ap (λ (o : Option (Cell × ℕ)). cell_found found.0 o) one.2 in
    subst (IsWritableCell kind usable) same (cell_writable kind usable (drop offset page) one.0.1 one.0.0 one.1)

all_writable : (kind : Kind) (usable : ℕ) (page offsets : List ℕ) (cells : List Cell) (lie : List (ℕ × ℕ)) → placed_all kind usable page offsets ≡ Some (cells, lie) → AreWritable kind usable cells
all_writable kind usable page [] cells lie e = subst (AreWritable kind usable) (ap cells_found e) tt
all_writable kind usable page (o ∷ os) cells lie e =
    let first = bind_some (placed_at kind usable page o) _ (cells, lie) e in
    let others = bind_some (placed_all kind usable page os) _ (cells, lie) first.2 in
    let same : first.0.0 ∷ others.0.0 ≡ cells = ap cells_found others.2 in
    subst (AreWritable kind usable) same (placed_writable kind usable page o first.0 first.1, all_writable kind usable page os others.0.0 others.0.1 others.1)

unless_err : {X : Type 0} (b : Bool) (f : PageFault) (r : Result X PageFault) (x : X) → (if b then Err f else r) ≡ Ok x → (b ≡ false) × (r ≡ Ok x)
unless_err true f r x e = absurd cc
unless_err false f r x e = (refl, e)

abbrev page_found : PageCells → Result PageCells PageFault → PageCells
page_found other (Err f) = other
page_found other (Ok x) = x

right_none : (kind : Kind) (page : List ℕ) (at : ℕ) → is_leaf kind ≡ true → right_at kind page at ≡ 0
right_none TableLeaf page at leaf = refl
right_none TableInterior page at leaf = absurd cc
right_none IndexLeaf page at leaf = refl
right_none IndexInterior page at leaf = absurd cc

ordered : (kind : Kind) (cells : List Cell) → (is_table kind && not (ascends cells)) ≡ false → is_table kind ≡ true → ascends cells ≡ true
ordered TableLeaf cells e table = not-false (ascends cells) e
ordered TableInterior cells e table = not-false (ascends cells) e
ordered IndexLeaf cells e table = absurd cc
ordered IndexInterior cells e table = absurd cc

found_writable : (kind : Kind) (usable : ℕ) (page : List ℕ) (at : ℕ) (found : Option (List Cell × List (ℕ × ℕ))) (p : PageCells)
    → placed_all kind usable page (offsets_at kind page at) ≡ found → page_of_cells kind page at found ≡ Ok p → IsWritable p usable
found_writable kind usable page at None p placed e = absurd cc
found_writable kind usable page at (Some x) p placed e =
    let one = unless_err (not (apart x.1)) _ _ p e in
    let two = unless_err (is_table kind && not (ascends x.0)) _ _ p one.1 in
    let same : record { kind = kind; cells = x.0; right = right_at kind page at } ≡ p = ap (page_found p) two.1 in
    subst (λ (q : PageCells). IsWritable q usable) same
    (record { cells = all_writable kind usable page (offsets_at kind page at) x.0 x.1 placed; right = right_none kind page at; ascends = ordered kind x.0 two.0 })

kind_writable : (kind : Option Kind) (page : List ℕ) (at : ℕ) (p : PageCells) → page_of_kind kind page at ≡ Ok p → IsWritable p (length page)
kind_writable None page at p e = absurd cc
kind_writable (Some kind) page at p e =
    let one = unless_err (nat_lt (length page) (array_end kind page at)) _ _ p e in
    let two = unless_err (not (list_all (is_within (array_end kind page at) (length page)) (offsets_at kind page at))) _ _ p one.1 in
    found_writable kind (length page) page at (placed_all kind (length page) page (offsets_at kind page at)) p refl two.1

pub page_writable : (page : List ℕ) (at usable : ℕ) (p : PageCells) → length page ≡ usable → page_at page at ≡ Ok p → IsWritable p usable
unfolding page_at
page_writable page at usable p long e = subst (IsWritable p) long (kind_writable (kind_of (slice_index page at)) page at p e)

pub taken_writable : (page : List ℕ) (at usable : ℕ) (p : PageCells) → usable ≤ length page → page_at (take usable page) at ≡ Ok p → IsWritable p usable
taken_writable page at usable p within e = page_writable (take usable page) at usable p (length-take-le usable page within) e
