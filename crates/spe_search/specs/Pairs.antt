use Rattle.std.specs.Prelude.{ℕ, ℤ, List}
use Rattle.spe_search.specs.declared.pairs.Pair.{Pair}

-- a row as a rowid and a payload
abbrev pub pair_seen : Pair → ℤ × List ℕ
pair_seen p = (p.rowid, p.payload)
