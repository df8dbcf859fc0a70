-- Changes as they are made.
use Rattle.std.specs.Prelude.{◌≡◌, ◌≤◌, ℕ, List, ◌∷◌, ◌++◌, All, drop, length, map, take}
use Rattle.spe_model.specs.Paging.{Paging}
use Rattle.spe_rewrite.specs.declared.change.Change.{Change}
use Rattle.spe_convert.specs.Changes.{other_trunks_of}
use Rattle.spe_convert.specs.Dealt.{first_of}
use Rattle.spe_convert.specs.Trunk.{Trunk, page_of}

-- a trunk with this next one and these leaves
abbrev pub trunk_of : (page next : ℕ) → List ℕ → Trunk
trunk_of page next leaves = record { page = page; next = next; leaves = leaves }

-- each change has the bytes of a page
abbrev pub HaveSize : (size : ℕ) → List Change → Type 0
HaveSize size changes = All (λ (c : Change). length c.bytes ≡ size) changes

-- the pages of some changes
abbrev pub changed_pages : List Change → List ℕ
changed_pages changes = map (λ (c : Change). c.page) changes

-- the pages of trunks themselves
abbrev pub heads : List Trunk → List ℕ
heads trunks = map (λ (t : Trunk). t.page) trunks

-- a trunk that may be written: it has a page, and lists no more than so many
pub record IsWritable (most : ℕ) (t : Trunk) : Type 0 where
  pub page : 1 ≤ t.page
  pub few : length t.leaves ≤ most

-- the node page, the first trunks of so many lists, and the other trunks, by their pages
abbrev pub dealt_pages : (most lists : ℕ) → List ℕ → List ℕ
dealt_pages most lists pages = first_of pages ∷ (take lists (drop 1 pages) ++ heads (other_trunks_of most lists pages))

-- a node page that names these first trunks
abbrev pub named_by : (usable page : ℕ) → (firsts : List ℕ) → (old : Paging) → Change
named_by usable page firsts old = record { page = page; bytes = page_of usable (length firsts ∷ firsts) (old page) }

-- a page with these bytes
abbrev pub change_with : (page : ℕ) → (bytes : List ℕ) → Change
change_with page bytes = record { page = page; bytes = bytes }
