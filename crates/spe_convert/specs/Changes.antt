-- The pages that change where free lists are put in another form, ascending, each with its bytes.
use Rattle.std.specs.Prelude.{ℕ, ◌+◌, ◌-◌, ◌%◌, ◌^◌, nat_le, List, [], ◌∷◌, ◌++◌, length, take, drop, map, if◌then◌else◌}
use Rattle.byteorder.specs.Endian.{big_bytes}
use Rattle.spe_model.specs.Big.{u32_at}
use Rattle.spe_model.specs.Content.{zeros}
use Rattle.spe_model.specs.Journal.{numbers_from}
use Rattle.spe_model.specs.Paging.{Paging}
use Rattle.spe_rewrite.specs.declared.change.Change.{Change}
use Rattle.spe_convert.specs.Trunk.{Trunk, bare, page_of, room, trunk_bytes}
use Rattle.spe_convert.specs.Dealt.{chained, dealt, first_of, made_of}

-- a page as it was; a new one has zeros
abbrev pub before : (size count : ℕ) → Paging → Paging
before size count pages n = if nat_le n count then pages n else zeros size

-- page 1 with its change counter raised by one and copied, this page count, this first trunk or node page, and this
-- number of free pages
abbrev pub raised : List ℕ → List ℕ
raised page = big_bytes 4 ((u32_at page 24 + 1) % 2 ^ 32)

unfoldable pub front_page : (count first free : ℕ) → List ℕ → List ℕ
front_page count first free page =
    take 24 page ++ raised page ++ big_bytes 4 count ++ big_bytes 4 first ++ big_bytes 4 free ++ take 52 (drop 40 page) ++ raised page ++ drop 96 page

-- page 1 with a page count that counts: the change counter is copied
unfoldable pub counted_page : (count : ℕ) → List ℕ → List ℕ
counted_page count page = take 28 page ++ big_bytes 4 count ++ take 60 (drop 32 page) ++ take 4 (drop 24 page) ++ drop 96 page

-- the free pages, and new ones at the end until there is one for the node page and one for each list
abbrev pub added : (count lists : ℕ) → (free : List ℕ) → ℕ
added count lists free = lists + 1 - length free

abbrev pub supply : (count lists : ℕ) → (free : List ℕ) → List ℕ
supply count lists free = free ++ numbers_from (count + 1) (added count lists free)

abbrev pub change_of : (usable : ℕ) → (old : Paging) → Trunk → Change
change_of usable old t = record { page = t.page; bytes = trunk_bytes usable t (old t.page) }

-- the first trunks and the others where pages stand for a node page, the first trunks of some lists, and their free pages
abbrev pub first_trunks_of : (most lists : ℕ) → (pages : List ℕ) → List Trunk
first_trunks_of most lists pages = dealt most lists 0 (map bare (take lists (drop 1 pages))) (drop (lists + 1) pages)

abbrev pub other_trunks_of : (most lists : ℕ) → (pages : List ℕ) → List Trunk
other_trunks_of most lists pages = made_of most lists 0 (map bare (take lists (drop 1 pages))) (drop (lists + 1) pages)

abbrev pub trunks_dealt : (most lists : ℕ) → (pages : List ℕ) → List Trunk
trunks_dealt most lists pages = first_trunks_of most lists pages ++ other_trunks_of most lists pages

abbrev pub node_change : (usable lists : ℕ) → (old : Paging) → (pages : List ℕ) → Change
node_change usable lists old pages = record {
  page = first_of pages;
  bytes = page_of usable (lists ∷ take lists (drop 1 pages)) (old (first_of pages));
}

abbrev pub server_changes : (usable lists : ℕ) → (old : Paging) → (pages : List ℕ) → List Change
server_changes usable lists old pages = node_change usable lists old pages ∷ map (change_of usable old) (trunks_dealt (room usable) lists pages)

-- what changes where free pages are put in server form, in so many lists
abbrev pub prepared_changes : (size usable count lists : ℕ) → (free : List ℕ) → Paging → List Change
prepared_changes size usable count lists free pages =
    (record { page = 1; bytes = front_page (count + added count lists free) (first_of (supply count lists free)) 0 (pages 1) })
    ∷ server_changes usable lists (before size count pages) (supply count lists free)

-- page 1 where they are put in stock form
abbrev pub front_change : (count : ℕ) → (free : List ℕ) → Paging → Change
front_change count free pages = record { page = 1; bytes = front_page count (first_of free) (length free) (pages 1) }

-- what changes then
abbrev pub released_changes : (usable count : ℕ) → (free : List ℕ) → Paging → List Change
released_changes usable count free pages = front_change count free pages ∷ map (change_of usable pages) (chained (room usable) (length free) free)

-- what changes where the page count is to count
abbrev pub counted_changes : (count : ℕ) → Paging → List Change
counted_changes count pages = (record { page = 1; bytes = counted_page count (pages 1) }) ∷ []
