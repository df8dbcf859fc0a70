-- Free pages. In stock form ("The Freelist" in SQLite's Database File Format) a chain of trunks names them; in server
-- form, which is this project's own, a node page names up to sixteen first trunks.
use Rattle.std.specs.Prelude.{◌≡◌, ℕ, zero, suc, ◌+◌, ◌-◌, ◌*◌, ◌/◌, ◌<◌, ◌≤◌, Bool, not, ◌&&◌, ◌==◌, nat_le, List, [], ◌∷◌, ◌++◌, map}
use Rattle.spe_model.specs.Big.{u32_at}
use Rattle.spe_model.specs.Journal.{numbers_from}
use Rattle.spe_model.specs.Paging.{Paging}

-- a trunk's next trunk, 0 where it is the last
abbrev pub next_trunk : Paging → ℕ → ℕ
next_trunk pages trunk = u32_at (pages trunk) 0

abbrev pub leaf_count : Paging → ℕ → ℕ
leaf_count pages trunk = u32_at (pages trunk) 4

-- the free pages that a trunk lists
abbrev pub leaves_of : Paging → ℕ → List ℕ
leaves_of pages trunk = map (λ i. u32_at (pages trunk) (8 + 4 * i)) (numbers_from 0 (leaf_count pages trunk))

-- a trunk has room for its leaves
abbrev pub has_room : (usable : ℕ) → Paging → ℕ → Bool
has_room usable pages trunk = nat_le (leaf_count pages trunk) (usable / 4 - 2)

-- so many trunks from this one on, the last of which names page 0
abbrev pub AreTrunks : (usable : ℕ) → Paging → (count trunk : ℕ) → Type 0
AreTrunks usable pages zero trunk = trunk ≡ 0
AreTrunks usable pages (suc count) trunk =
    (0 < trunk) × (leaf_count pages trunk ≤ usable / 4 - 2) × AreTrunks usable pages count (next_trunk pages trunk)

-- the trunks, each with its leaves
abbrev pub trunk_pages : Paging → (count trunk : ℕ) → List ℕ
trunk_pages pages zero trunk = []
trunk_pages pages (suc count) trunk = trunk ∷ leaves_of pages trunk ++ trunk_pages pages count (next_trunk pages trunk)

-- page 1 names a node page: offset 32 is not 0, and offset 36 is 0
abbrev pub names_node : List ℕ → Bool
names_node page = not (u32_at page 32 == 0) && (u32_at page 36 == 0)

-- the first trunks that a node page names
abbrev pub first_trunks : Paging → ℕ → List ℕ
first_trunks pages node = map (λ i. u32_at (pages node) (4 + 4 * i)) (numbers_from 0 (u32_at (pages node) 0))

abbrev pub is_list_count : ℕ → Bool
is_list_count n = nat_le 1 n && nat_le n 16
