-- Walking along chains of trunks.
use Rattle.std.specs.Prelude.{◌≡◌, ℕ, ◌+◌, ◌-◌, ◌*◌, ◌/◌, nat_le, List, [], ◌∷◌, map, length, Result, OnOk, IfOk}
use Rattle.spe_model.specs.Big.{u32_at}
use Rattle.spe_model.specs.Journal.{numbers_from}
use Rattle.spe_model.specs.Paging.{Paging}
use Rattle.spe_model.specs.Walk.{Mark, Names, Keeps, trunk_marks, walk_trunks}
use Rattle.spe_space.specs.declared.pages.Pages.{Ghosts}
use Rattle.spe_check.specs.declared.met.Met.{Met}
use Rattle.spe_check.specs.declared.halt.Halt.{Halt}
use Rattle.spe_check.specs.declared.trunk.Trunk.{Trunk}
use Rattle.spe_check.specs.MetPages.{has_met}
use Rattle.spe_check.specs.Shown.{Each}
use Rattle.spe_check.specs.Tries.{Leads, Tries}

-- so many free pages, as the bytes of a trunk list them
abbrev pub leaves_in : List ℕ → (count : ℕ) → List ℕ
leaves_in bytes count = map (λ i. u32_at bytes (8 + 4 * i)) (numbers_from 0 count)

-- what is tried of a trunk once it is met
abbrev pub room_marks : (usable trunk : ℕ) → List ℕ → List Mark
room_marks usable trunk bytes =
    Keeps trunk 10 (nat_le (u32_at bytes 4) (usable / 4 - 2)) ∷ map (Names trunk) (leaves_in bytes (u32_at bytes 4))

abbrev pub IsTrunkOf : List ℕ → Trunk → Type 0
IsTrunkOf bytes found = (found.next ≡ u32_at bytes 0) × (found.leaves ≡ u32_at bytes 4)

abbrev pub TriesTrunkBytes : (before after : Met) (trunk usable : ℕ) → List ℕ → Result Trunk Halt → Type 0
TriesTrunkBytes before after trunk usable bytes result =
    Tries before.pages (has_met before) (has_met after) (room_marks usable trunk bytes) result × IfOk result (IsTrunkOf bytes)

-- a page is met and given
abbrev pub GetsMet : {P X : Type 0} (g : Ghosts P) (late : P) (before after : Met) (holder page : ℕ) → List ℕ → Result X Halt → Type 0
GetsMet g late before after holder page bytes result =
    Each g late (λ usable pages. Tries before.pages (has_met before) (has_met after) (Names holder page ∷ []) result × OnOk result (bytes ≡ pages page))

abbrev pub trunk_and_leaves : (usable : ℕ) (pages : Paging) (holder trunk : ℕ) → List Mark
trunk_and_leaves usable pages holder trunk = Names holder trunk ∷ room_marks usable trunk (pages trunk)

abbrev pub TriesTrunk : {P : Type 0} (g : Ghosts P) (late : P) (before after : Met) (holder trunk : ℕ) → Result Trunk Halt → Type 0
TriesTrunk g late before after holder trunk result =
    Each g late (λ usable pages. Tries before.pages (has_met before) (has_met after) (trunk_and_leaves usable pages holder trunk) result
    × IfOk result (IsTrunkOf (pages trunk)))

abbrev pub TriesTrunks : {P : Type 0} (g : Ghosts P) (late : P) (before after : Met) (holder first : ℕ) → Result ℕ Halt → Type 0
TriesTrunks g late before after holder first result =
    Each g late (λ usable pages. Tries before.pages (has_met before) (has_met after) (trunk_marks usable pages before.pages holder first) result
    × IfOk result (λ free. free ≡ length (walk_trunks pages before.pages first)))

-- in the loop: what was tried and counted, and what is left
pub record IsAmong (usable : ℕ) (pages : Paging) (before now : Met) (holder first free most at trunk : ℕ) : Type 0 where
  pub tried : Leads before.pages (has_met before) (trunk_marks usable pages before.pages holder first) (has_met now) (trunk_marks usable pages most at trunk)
  pub counted : free + length (walk_trunks pages most trunk) ≡ length (walk_trunks pages before.pages first)
