-- Journals of other programs ("The Rollback Journal" in SQLite's Database File Format).
use Rattle.std.specs.Prelude.{ℕ, List, Bool, ◌||◌, nat_eq, length, replicate}
use Rattle.std.specs.List.{starts_with}

-- a journal takes nothing back: it has no bytes, or the first 28, which are all of its head that is read, are zero
unfoldable pub is_cold : List ℕ → Bool
is_cold journal = nat_eq (length journal) 0 || starts_with nat_eq journal (replicate 28 0)
