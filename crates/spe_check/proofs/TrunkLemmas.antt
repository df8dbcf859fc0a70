use Rattle.std.proofs.Common.{◌≡◌, ◌≢◌, ◌∙◌, ℕ, zero, suc, ◌+◌, ◌-◌, ◌*◌, ◌/◌, ◌<◌, ◌==◌, Bool, false, List, [], ◌∷◌, ◌++◌, map, length, refl, sym, ap, subst, arith}
use Rattle.std.specs.Prelude.{Result, IfOk, nat_le, if◌then◌else◌}
use Rattle.std.proofs.lemmas.List.{length-append}
use Rattle.spe_model.specs.Big.{u32_at}
use Rattle.spe_model.specs.FreeList.{leaf_count, leaves_of, next_trunk}
use Rattle.spe_model.specs.Journal.{numbers_from}
use Rattle.spe_model.specs.Paging.{Paging}
use Rattle.spe_model.specs.Walk.{Mark, Names, Keeps, trunk_marks, walk_trunks}
use Rattle.spe_check.specs.declared.met.Met.{Met}
use Rattle.spe_check.specs.declared.halt.Halt.{Halt}
use Rattle.spe_check.specs.declared.trunk.Trunk.{Trunk}
use Rattle.spe_check.specs.MetPages.{has_met}
use Rattle.spe_check.specs.Trunks.{leaves_in, room_marks, trunk_and_leaves, IsTrunkOf, IsAmong, TriesTrunkBytes}
use Rattle.spe_check.specs.Tries.{Leads, Tries}
use Rattle.spe_check.proofs.TriesLemmas.{leads_try, leads_halt, leads_last, tries_halt, tries_then, the_ok, the_err}

-- the pages from one on
abbrev pub leaves_from : (trunk : ℕ) → List ℕ → (index count : ℕ) → List Mark
leaves_from trunk bytes index count = map (Names trunk) (map (λ i. u32_at bytes (8 + 4 * i)) (numbers_from index (count - index)))

leaves_step : (trunk : ℕ) (bytes : List ℕ) (index count : ℕ) → index < count
    → leaves_from trunk bytes index count ≡ (Names trunk (u32_at bytes (8 + 4 * index)) ∷ []) ++ leaves_from trunk bytes (index + 1) count
leaves_step trunk bytes index count less =
    let one : count - index ≡ suc (count - (index + 1)) = omega (arith, less) in
    ap (λ n. map (Names trunk) (map (λ i. u32_at bytes (8 + 4 * i)) (numbers_from index n))) one

pub leaves_more : (count pages now : ℕ) (a b c : ℕ → Bool) (trunk : ℕ) (bytes : List ℕ) (index : ℕ) → index < count → now ≡ pages
    → Leads pages a (map (Names trunk) (leaves_in bytes count)) b (leaves_from trunk bytes index count)
    → Tries now b c (Names trunk (u32_at bytes (8 + 4 * index)) ∷ []) (the_ok (Unit {0}) tt)
    → Leads pages a (map (Names trunk) (leaves_in bytes count)) c (leaves_from trunk bytes (index + 1) count)
leaves_more count pages now a b c trunk bytes index less same led tried =
    let P : List Mark → Type 0 = λ left. Leads pages a (map (Names trunk) (leaves_in bytes count)) b left in
    let Q : ℕ → Type 0 = λ n. Tries n b c (Names trunk (u32_at bytes (8 + 4 * index)) ∷ []) (the_ok (Unit {0}) tt) in
    leads_try (Unit {0}) pages a b c (map (Names trunk) (leaves_in bytes count)) (Names trunk (u32_at bytes (8 + 4 * index)) ∷ []) (leaves_from trunk bytes (index + 1) count) tt
    (subst P (leaves_step trunk bytes index count less) led) (subst Q same tried)

pub leaves_halt : (count pages now : ℕ) (a b c : ℕ → Bool) (trunk : ℕ) (bytes : List ℕ) (index : ℕ) (halt : Halt) → index < count → now ≡ pages
    → Leads pages a (map (Names trunk) (leaves_in bytes count)) b (leaves_from trunk bytes index count)
    → Tries now b c (Names trunk (u32_at bytes (8 + 4 * index)) ∷ []) (the_err (Unit {0}) halt)
    → Tries pages a c (map (Names trunk) (leaves_in bytes count)) (the_err (Unit {0}) halt)
leaves_halt count pages now a b c trunk bytes index halt less same led tried =
    let P : List Mark → Type 0 = λ left. Leads pages a (map (Names trunk) (leaves_in bytes count)) b left in
    let Q : ℕ → Type 0 = λ n. Tries n b c (Names trunk (u32_at bytes (8 + 4 * index)) ∷ []) (the_err (Unit {0}) halt) in
    leads_halt (Unit {0}) (Unit {0}) pages a b c c (map (Names trunk) (leaves_in bytes count)) (Names trunk (u32_at bytes (8 + 4 * index)) ∷ []) (leaves_from trunk bytes (index + 1) count) halt
    (subst P (leaves_step trunk bytes index count less) led) (subst Q same tried)

pub leaves_end : (count pages : ℕ) (a b : ℕ → Bool) (trunk : ℕ) (bytes : List ℕ)
    → Leads pages a (map (Names trunk) (leaves_in bytes count)) b (leaves_from trunk bytes count count)
    → Tries pages a b (map (Names trunk) (leaves_in bytes count)) (the_ok (Unit {0}) tt)
leaves_end count pages a b trunk bytes led =
    let none : count - count ≡ 0 = omega arith in
    let P : ℕ → Type 0 = λ n. Leads pages a (map (Names trunk) (leaves_in bytes count)) b (map (Names trunk) (map (λ i. u32_at bytes (8 + 4 * i)) (numbers_from count n))) in
    subst P none led

-- the rule of a trunk's room, and then its leaves
pub room_halt : (count : ℕ) (a : ℕ → Bool) (trunk usable : ℕ) (bytes : List ℕ) (room : Bool) (halt : Halt) → room ≡ nat_le (u32_at bytes 4) (usable / 4 - 2)
    → Tries count a a (Keeps trunk 10 room ∷ []) (the_err (Unit {0}) halt) → Tries count a a (room_marks usable trunk bytes) (the_err Trunk halt)
room_halt count a trunk usable bytes room halt is tried =
    let P : Bool → Type 0 = λ b. Tries count a a (Keeps trunk 10 b ∷ []) (the_err (Unit {0}) halt) in
    tries_halt (Unit {0}) Trunk count a a a (Keeps trunk 10 (nat_le (u32_at bytes 4) (usable / 4 - 2)) ∷ []) (map (Names trunk) (leaves_in bytes (u32_at bytes 4))) halt (subst P is tried)

pub room_then : (count : ℕ) (a b : ℕ → Bool) (trunk usable leaves : ℕ) (bytes : List ℕ) (room : Bool) (r : Result Trunk Halt) → room ≡ nat_le leaves (usable / 4 - 2) → leaves ≡ u32_at bytes 4
    → Tries count a a (Keeps trunk 10 room ∷ []) (the_ok (Unit {0}) tt) → Tries count a b (map (Names trunk) (leaves_in bytes leaves)) r
    → Tries count a b (room_marks usable trunk bytes) r
room_then count a b trunk usable leaves bytes room r is same tried next =
    let P : Bool → Type 0 = λ x. Tries count a a (Keeps trunk 10 x ∷ []) (the_ok (Unit {0}) tt) in
    let Q : ℕ → Type 0 = λ n. Tries count a b (Keeps trunk 10 (nat_le n (usable / 4 - 2)) ∷ map (Names trunk) (leaves_in bytes n)) r in
    subst Q same (tries_then {X = Unit {0}} {Y = Trunk} count a a b (Keeps trunk 10 (nat_le leaves (usable / 4 - 2)) ∷ []) (map (Names trunk) (leaves_in bytes leaves)) tt r (subst P is tried) next)

-- a trunk is met, and then its bytes are tried
pub trunk_last : (before now later : Met) (usable size : ℕ) (pages : Paging) (holder trunk : ℕ) (bytes : List ℕ) (r : Result Trunk Halt)
    → now.pages ≡ before.pages → size ≡ usable → bytes ≡ pages trunk
    → Tries before.pages (has_met before) (has_met now) (Names holder trunk ∷ []) (the_ok (Unit {0}) tt) → TriesTrunkBytes now later trunk size bytes r
    → Tries before.pages (has_met before) (has_met later) (trunk_and_leaves usable pages holder trunk) r × IfOk r (IsTrunkOf (pages trunk))
trunk_last before now later usable size pages holder trunk bytes r same size_is is met tried =
    let P : ℕ → Type 0 = λ n. Tries n (has_met now) (has_met later) (room_marks usable trunk (pages trunk)) r in
    let Q : ℕ → Type 0 = λ n. TriesTrunkBytes now later trunk n bytes r in
    let R : List ℕ → Type 0 = λ b. TriesTrunkBytes now later trunk usable b r in
    let here = subst R is (subst Q size_is tried) in (
      tries_then {X = Unit {0}} {Y = Trunk} before.pages (has_met before) (has_met now) (has_met later) (Names holder trunk ∷ []) (room_marks usable trunk (pages trunk)) tt r met
          (subst P same here.0),
      here.1,
    )

length_leaves : (f : ℕ → ℕ) (from count : ℕ) → length (map f (numbers_from from count)) ≡ count
length_leaves f from zero = refl
length_leaves f from (suc count) = ap (λ n. suc n) (length_leaves f (from + 1) count)

not_zero : (trunk : ℕ) → trunk ≢ 0 → (trunk == 0) ≡ false
not_zero trunk other = grind (arith, other)

-- a trunk more
marks_step : (usable : ℕ) (pages : Paging) (most at trunk : ℕ) → trunk ≢ 0 → 0 < most
    → trunk_marks usable pages most at trunk ≡ trunk_and_leaves usable pages at trunk ++ trunk_marks usable pages (most - 1) trunk (next_trunk pages trunk)
marks_step usable pages zero at trunk other some = absurd (omega (arith, some))
marks_step usable pages (suc m) at trunk other some =
    let less : m ≡ suc m - 1 = omega arith in
    let P : ℕ → Type 0 = λ n. trunk_marks usable pages (suc m) at trunk ≡ trunk_and_leaves usable pages at trunk ++ trunk_marks usable pages n trunk (next_trunk pages trunk) in
    subst P less (rw (not_zero trunk other) refl)

walk_step : (pages : Paging) (most trunk : ℕ) → trunk ≢ 0 → 0 < most
    → length (walk_trunks pages most trunk) ≡ 1 + leaf_count pages trunk + length (walk_trunks pages (most - 1) (next_trunk pages trunk))
walk_step pages zero trunk other some = absurd (omega (arith, some))
walk_step pages (suc m) trunk other some =
    let less : m ≡ suc m - 1 = omega arith in
    let P : ℕ → Type 0 = λ n. length (walk_trunks pages (suc m) trunk) ≡ 1 + leaf_count pages trunk + length (walk_trunks pages n (next_trunk pages trunk)) in
    let cut : length (walk_trunks pages (suc m) trunk) ≡ length ((trunk ∷ leaves_of pages trunk) ++ walk_trunks pages m (next_trunk pages trunk)) = rw (not_zero trunk other) refl in
    let both = length-append (trunk ∷ leaves_of pages trunk) (walk_trunks pages m (next_trunk pages trunk)) in
    let leaves = length_leaves (λ i. u32_at (pages trunk) (8 + 4 * i)) 0 (leaf_count pages trunk) in
    subst P less (cut ∙ both ∙ ap (λ n. suc n + length (walk_trunks pages m (next_trunk pages trunk))) leaves ∙ ap (λ n. n + length (walk_trunks pages m (next_trunk pages trunk))) (one_more (leaf_count pages trunk)))
  where
    one_more : (n : ℕ) → suc n ≡ 1 + n
    one_more n = omega arith

pub among_first : (usable : ℕ) (pages : Paging) (met : Met) (holder first : ℕ) → IsAmong usable pages met met holder first 0 met.pages holder first
among_first usable pages met holder first = record { tried = λ more. refl; counted = omega arith }

pub among_next : (usable : ℕ) (pages : Paging) (before now later : Met) (holder first free most at trunk : ℕ) (found : Trunk) → trunk ≢ 0 → 0 < most → now.pages ≡ before.pages
    → IsAmong usable pages before now holder first free most at trunk
    → Tries now.pages (has_met now) (has_met later) (trunk_and_leaves usable pages at trunk) (the_ok Trunk found) → IsTrunkOf (pages trunk) found
    → IsAmong usable pages before later holder first (free + (1 + found.leaves)) (most - 1) trunk found.next
among_next usable pages before now later holder first free most at trunk found other some same among tried is =
    let P : List Mark → Type 0 = λ left. Leads before.pages (has_met before) (trunk_marks usable pages before.pages holder first) (has_met now) left in
    let Q : ℕ → Type 0 = λ n. Tries n (has_met now) (has_met later) (trunk_and_leaves usable pages at trunk) (the_ok Trunk found) in
    let led = leads_try Trunk before.pages (has_met before) (has_met now) (has_met later) (trunk_marks usable pages before.pages holder first) (trunk_and_leaves usable pages at trunk)
    (trunk_marks usable pages (most - 1) trunk (next_trunk pages trunk)) found (subst P (marks_step usable pages most at trunk other some) among.tried) (subst Q same tried) in
    let counted : (free + (1 + found.leaves)) + length (walk_trunks pages (most - 1) (next_trunk pages trunk)) ≡ length (walk_trunks pages before.pages first) =
    omega (arith, among.counted, walk_step pages most trunk other some, is.1) in
    let R : ℕ → Type 0 = λ n. IsAmong usable pages before later holder first (free + (1 + found.leaves)) (most - 1) trunk n in
    subst R (sym is.0) (record { tried = led; counted = counted })

pub among_halt : (usable : ℕ) (pages : Paging) (before now later : Met) (holder first free most at trunk : ℕ) (halt : Halt) → trunk ≢ 0 → 0 < most → now.pages ≡ before.pages
    → IsAmong usable pages before now holder first free most at trunk
    → Tries now.pages (has_met now) (has_met later) (trunk_and_leaves usable pages at trunk) (the_err Trunk halt)
    → Tries before.pages (has_met before) (has_met later) (trunk_marks usable pages before.pages holder first) (the_err ℕ halt)
among_halt usable pages before now later holder first free most at trunk halt other some same among tried =
    let P : List Mark → Type 0 = λ left. Leads before.pages (has_met before) (trunk_marks usable pages before.pages holder first) (has_met now) left in
    let Q : ℕ → Type 0 = λ n. Tries n (has_met now) (has_met later) (trunk_and_leaves usable pages at trunk) (the_err Trunk halt) in
    leads_halt Trunk ℕ before.pages (has_met before) (has_met now) (has_met later) (has_met later) (trunk_marks usable pages before.pages holder first) (trunk_and_leaves usable pages at trunk)
    (trunk_marks usable pages (most - 1) trunk (next_trunk pages trunk)) halt (subst P (marks_step usable pages most at trunk other some) among.tried) (subst Q same tried)

-- the chain has ended
pub among_end : (usable : ℕ) (pages : Paging) (before now : Met) (holder first free most at trunk : ℕ) → trunk ≡ 0 → IsAmong usable pages before now holder first free most at trunk
    → Tries before.pages (has_met before) (has_met now) (trunk_marks usable pages before.pages holder first) (the_ok ℕ free) × (free ≡ length (walk_trunks pages before.pages first))
among_end usable pages before now holder first free most at trunk none among =
    let T : ℕ → Type 0 = λ t. Leads before.pages (has_met before) (trunk_marks usable pages before.pages holder first) (has_met now) (trunk_marks usable pages most at t) in
    let C : ℕ → Type 0 = λ t. free + length (walk_trunks pages most t) ≡ length (walk_trunks pages before.pages first) in
    go most (subst T none among.tried) (subst C none among.counted)
  where
    go : (n : ℕ) → Leads before.pages (has_met before) (trunk_marks usable pages before.pages holder first) (has_met now) (trunk_marks usable pages n at 0)
        → free + length (walk_trunks pages n 0) ≡ length (walk_trunks pages before.pages first)
        → Tries before.pages (has_met before) (has_met now) (trunk_marks usable pages before.pages holder first) (the_ok ℕ free) × (free ≡ length (walk_trunks pages before.pages first))
    go zero led counted = (led, omega (arith, counted))
    go (suc n) led counted = (led, omega (arith, counted))

-- as many trunks as pages were met, and one more is named
pub among_full : (usable : ℕ) (pages : Paging) (before now later : Met) (holder first free at trunk : ℕ) (r : Result ℕ Halt) → trunk ≢ 0 → now.pages ≡ before.pages
    → IsAmong usable pages before now holder first free 0 at trunk → Tries now.pages (has_met now) (has_met later) (Names at trunk ∷ []) r
    → Tries before.pages (has_met before) (has_met later) (trunk_marks usable pages before.pages holder first) r × (free ≡ length (walk_trunks pages before.pages first))
among_full usable pages before now later holder first free at trunk r other same among tried =
    let P : Bool → Type 0 = λ b. Leads before.pages (has_met before) (trunk_marks usable pages before.pages holder first) (has_met now) (if b then [] else Names at trunk ∷ []) in
    let Q : ℕ → Type 0 = λ n. Tries n (has_met now) (has_met later) (Names at trunk ∷ []) r in (
      leads_last before.pages (has_met before) (has_met now) (has_met later) (trunk_marks usable pages before.pages holder first) (Names at trunk ∷ []) r
          (subst P (not_zero trunk other) among.tried) (subst Q same tried),
      omega (arith, among.counted),
    )
