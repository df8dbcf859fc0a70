-- Free pages in server form: they are dealt out to some lists in turn. In stock form: they make one list.
use Rattle.std.specs.Prelude.{ℕ, zero, suc, ◌+◌, ◌%◌, List, [], ◌∷◌, ◌++◌, take, drop}
use Rattle.spe_convert.specs.Trunk.{Trunk, freed, made}

-- the first trunks once a page is freed into list k
abbrev pub freed_at : (most k page : ℕ) → List Trunk → List Trunk
freed_at most k page [] = []
freed_at most zero page (t ∷ ts) = freed most page t ∷ ts
freed_at most (suc k) page (t ∷ ts) = t ∷ freed_at most k page ts

-- the trunk that this makes, where it makes one
abbrev pub made_at : (most k page : ℕ) → List Trunk → List Trunk
made_at most k page [] = []
made_at most zero page (t ∷ ts) = made most page t
made_at most (suc k) page (t ∷ ts) = made_at most k page ts

-- the first trunks of so many lists once pages, from the j-th on, are freed into list j modulo their number
abbrev pub dealt : (most lists j : ℕ) → List Trunk → (pages : List ℕ) → List Trunk
dealt most lists j firsts [] = firsts
dealt most lists j firsts (p ∷ ps) = dealt most lists (j + 1) (freed_at most (j % lists) p firsts) ps

-- the other trunks, in the order in which they are made
abbrev pub made_of : (most lists j : ℕ) → List Trunk → (pages : List ℕ) → List Trunk
made_of most lists j firsts [] = []
made_of most lists j firsts (p ∷ ps) = made_at most (j % lists) p firsts ++ made_of most lists (j + 1) (freed_at most (j % lists) p firsts) ps

-- the first of some pages, 0 where there is none
abbrev pub first_of : List ℕ → ℕ
first_of [] = 0
first_of (p ∷ ps) = p

-- One list of pages: the first becomes a trunk with up to so many next ones as leaves, and so on. `count` is enough where
-- it is their number.
abbrev pub chained : (most count : ℕ) → List ℕ → List Trunk
chained most zero pages = []
chained most (suc count) [] = []
chained most (suc count) (p ∷ ps) =
    (record { page = p; next = first_of (drop most ps); leaves = take most ps }) ∷ chained most count (drop most ps)
