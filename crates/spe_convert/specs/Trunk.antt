-- Trunks of free lists as they are to be written ("The Freelist" in SQLite's Database File Format).
use Rattle.std.specs.Prelude.{ℕ, ◌-◌, ◌/◌, ◌*◌, nat_lt, List, [], ◌∷◌, ◌++◌, length, drop, if◌then◌else◌}
use Rattle.std.specs.List.{flat_map}
use Rattle.byteorder.specs.Endian.{big_bytes}
use Rattle.spe_model.specs.Content.{zeros}

-- What a trunk is to say: its next trunk, 0 where it is the last, and the free pages that it lists.
pub record Trunk : Type 0 where
  pub page : ℕ
  pub next : ℕ
  pub leaves : List ℕ

-- a trunk that lists no page, and has none behind it
abbrev pub bare : ℕ → Trunk
bare page = record { page = page; next = 0; leaves = [] }

-- how many leaves are written to a trunk at most
unfoldable pub room : (usable : ℕ) → ℕ
room usable = usable / 4 - 8

-- the free pages of a trunk, itself among them
abbrev pub pages_of : Trunk → List ℕ
pages_of t = t.page ∷ t.leaves

-- numbers of four bytes each
abbrev pub number_bytes : List ℕ → List ℕ
number_bytes numbers = flat_map (big_bytes 4) numbers

-- numbers at the front of a page, and zeros behind them; its reserved bytes stay
abbrev pub page_of : (usable : ℕ) → (numbers old : List ℕ) → List ℕ
page_of usable numbers old = number_bytes numbers ++ zeros (usable - 4 * length numbers) ++ drop usable old

abbrev pub trunk_numbers : Trunk → List ℕ
trunk_numbers t = t.next ∷ length t.leaves ∷ t.leaves

-- the bytes of a trunk
abbrev pub trunk_bytes : (usable : ℕ) → Trunk → (old : List ℕ) → List ℕ
trunk_bytes usable t old = page_of usable (trunk_numbers t) old

-- a page is freed: it becomes the last leaf of the list's first trunk
abbrev pub with_leaf : ℕ → Trunk → Trunk
with_leaf page t = record { page = t.page; next = t.next; leaves = t.leaves ++ page ∷ [] }

-- or it becomes the trunk after it, with its next trunk and all its leaves
abbrev pub taking : ℕ → Trunk → Trunk
taking page t = record { page = page; next = t.next; leaves = t.leaves }

-- of which the first trunk keeps none
abbrev pub emptied : ℕ → Trunk → Trunk
emptied page t = record { page = t.page; next = page; leaves = [] }

-- the first trunk of a list once a page is freed into it, and the trunk that this makes
abbrev pub freed : (most : ℕ) → (page : ℕ) → Trunk → Trunk
freed most page t = if nat_lt (length t.leaves) most then with_leaf page t else emptied page t

abbrev pub made : (most : ℕ) → (page : ℕ) → Trunk → List Trunk
made most page t = if nat_lt (length t.leaves) most then [] else taking page t ∷ []
