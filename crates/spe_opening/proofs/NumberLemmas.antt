-- The roots of tables in a database have numbers of 32 bits.
use Rattle.std.proofs.Common.{◌≡◌, ℕ, zero, suc, ◌+◌, ◌*◌, ◌<◌, ◌≤◌, ◌^◌, Bool, true, false, not, ◌||◌, nat_lt, List, [], ◌∷◌, ◌++◌, All, Option, Some, None, Ok, take, refl, arith, append_assoc, subst}
use Rattle.std.specs.Prelude.{cond, slice_index}
use Rattle.std.specs.List.{find, flat_map}
use Rattle.std.proofs.Math.Nat.{mul-le-mul_left}
use Rattle.std.proofs.lemmas.Bool.{ltb-false}
use Rattle.std.proofs.lemmas.List.Elements.{All-head}
use Rattle.spe_model.specs.declared.header.Header.{Header}
use Rattle.spe_model.specs.declared.header.HeaderFault.{HeaderFault}
use Rattle.spe_model.specs.Database.{Database}
use Rattle.spe_model.specs.Header.{faults, fields, has_fault, header_of, page_size_at, unless}
use Rattle.spe_model.specs.Paging.{Paging}
use Rattle.spe_model.specs.Schema.{SchemaRow, is_table_row, root_of}
use Rattle.spe_model.specs.Served.{HasHeader}
use Rattle.spe_model.specs.Standing.{AreEntries, HasTree, IsOneOf, StandsFor, Tree, all_pages, pages_of_some}
use Rattle.spe_catalog.specs.Reading.{have_numbers}
use Rattle.spe_opening.proofs.ListLemmas.{all_behind}

-- the root of a tree is one of its pages
root_first : (P : ℕ → Type 0) (usable : ℕ) (pages : Paging) (height page : ℕ) (more : List ℕ) → All P (all_pages usable pages height page ++ more) → P page
root_first P usable pages zero page more all = All-head P page _ all
root_first P usable pages (suc height) page more all = All-head P page _ all

is_small : (n count : ℕ) → n ≤ count → count < 2 ^ 32 → nat_lt n 4294967296 ≡ true
is_small n count few small = grind arith

or_true : (a b : Bool) → b ≡ true → (a || b) ≡ true
or_true true b e = refl
or_true false b e = e

root_small : (usable count : ℕ) (pages : Paging) (root : ℕ) (grown : Option Tree) (more : List ℕ) → count < 2 ^ 32 → HasTree usable pages root grown
    → All (IsOneOf count) (pages_of_some usable pages grown ++ more) → nat_lt root 4294967296 ≡ true
root_small usable count pages root None more small tree all = is_small root count (omega (arith, tree)) small
root_small usable count pages root (Some t) more small tree all =
    is_small root count (subst (λ (n : ℕ). n ≤ count) tree.1 (root_first (IsOneOf count) usable pages t.height t.root more all).1) small

entries_numbered : (usable count : ℕ) (pages : Paging) (all rows : List SchemaRow) (trees : List (Option Tree)) (db : Database) (more : List ℕ) → count < 2 ^ 32
    → AreEntries usable pages all rows trees db → All (IsOneOf count) (flat_map (pages_of_some usable pages) trees ++ more) → have_numbers rows ≡ true
entries_numbered usable count pages all [] trees db more small h within = refl
entries_numbered usable count pages all (r ∷ rs) [] db more small h within = absurd h
entries_numbered usable count pages all (r ∷ rs) (t ∷ ts) [] more small h within = absurd h
entries_numbered usable count pages all (r ∷ rs) (t ∷ ts) (o ∷ os) more small h within =
    let own = pages_of_some usable pages t in
    let behind = flat_map (pages_of_some usable pages) ts in
    let split : All (IsOneOf count) (own ++ (behind ++ more)) = subst (λ (ns : List ℕ). All (IsOneOf count) ns) (append_assoc own behind more) within in
    rw (or_true (not (is_table_row r)) (nat_lt (root_of r.rootpage) 4294967296) (root_small usable count pages (root_of r.rootpage) t (behind ++ more) small h.0.tree split))
    (entries_numbered usable count pages all rs ts os more small h.1 (all_behind (IsOneOf count) own (behind ++ more) split))

-- no element passes
abbrev NonePasses : {X : Type 0} → (X → Bool) → List X → Type 0
NonePasses test [] = Unit {0}
NonePasses test (x ∷ xs) = (test x ≡ false) × NonePasses test xs

found_or : {X : Type 0} (b : Bool) (x : X) (rest : Option X) → cond b (Some x) rest ≡ None → (b ≡ false) × (rest ≡ None)
found_or true x rest none = absurd cc
found_or false x rest none = (refl, none)

none_passes : {X : Type 0} (test : X → Bool) (xs : List X) → find test xs ≡ None → NonePasses test xs
none_passes test [] none = tt
none_passes test (x ∷ xs) none =
    let first = found_or (test x) x (find test xs) none in (first.0, none_passes test xs first.1)

no_fault : (fault : Option HeaderFault) (made header : Header) → unless fault made ≡ Ok header → (fault ≡ None) × (made ≡ header)
no_fault None made header is = (refl, cc)
no_fault (Some fault) made header is = absurd cc

legal_size : (bytes : List ℕ) (header : Header) → header_of bytes ≡ Ok header → 480 ≤ header.page_size
legal_size bytes header is =
    let found = no_fault (find (has_fault bytes) faults) (fields bytes) header is in
    let none = none_passes (has_fault bytes) faults found.0 in
    let few : slice_index bytes 20 + 480 ≤ page_size_at bytes = ltb-false (page_size_at bytes) (slice_index bytes 20 + 480) none.1.1.1.1.1.1.0 in
    subst (λ (h : Header). 480 ≤ h.page_size) found.1 (omega arith)

few_pages : (count size : ℕ) → 480 ≤ size → count * size ≤ 2 ^ 30 → count < 2 ^ 32
few_pages count size wide few = let least : count * 480 ≤ count * size = mul-le-mul_left count wide in omega (arith, least, few)

pub numbered : (usable count : ℕ) (pages : Paging) (header : Header) (db : Database) → HasHeader count pages header → (stands : StandsFor usable count pages db) → have_numbers stands.rows ≡ true
numbered usable count pages header db front stands =
    let schema = all_pages usable pages stands.height 1 in
    let trees = flat_map (pages_of_some usable pages) stands.trees in
    let small = few_pages count header.page_size (legal_size (take 100 (pages 1)) header front.legal) front.few in
    entries_numbered usable count pages stands.rows stands.rows stands.trees db stands.listed small stands.entries
    (all_behind (IsOneOf count) schema (trees ++ stands.listed) (subst (λ (ns : List ℕ). All (IsOneOf count) ns) (append_assoc schema trees stands.listed) stands.within))
