-- The printed text of values and rows. It is this project's own.
use Rattle.std.specs.Prelude.{ℕ, List, [], ◌∷◌, ◌++◌, codes, decimal, length, ◌==◌, if◌then◌else◌}
use Rattle.std.specs.Fmt.{signed_decimal}
use Rattle.hex.specs.Hex.{encode_lower}
use Rattle.spe_model.specs.declared.value.Value.{Value}
use Rattle.spe_model.specs.declared.value.Value.TheVariants.{Null, Int, Text, Blob, Real8}
use Rattle.spe_model.specs.Database.{Row}

-- a line feed behind a text
abbrev pub line : List ℕ → List ℕ
line text = text ++ 10 ∷ []

-- a byte of a text: a quote is doubled
abbrev pub quoted_byte : ℕ → List ℕ
quoted_byte byte = if byte == 39 then 39 ∷ 39 ∷ [] else byte ∷ []

-- the text with each quote doubled
abbrev pub quoted : List ℕ → List ℕ
quoted [] = []
quoted (b ∷ bs) = quoted_byte b ++ quoted bs

abbrev pub value_text : Value → List ℕ
value_text Null = codes "NULL"
value_text (Int n) = signed_decimal n
value_text (Text t) = 39 ∷ (quoted t ++ 39 ∷ [])
value_text (Blob b) = codes "x'" ++ encode_lower b ++ 39 ∷ []
value_text (Real8 r) = codes "r'" ++ encode_lower r ++ 39 ∷ []

-- a value behind a bar
abbrev pub barred_value : Value → List ℕ
barred_value value = 124 ∷ value_text value

-- the values, each behind a bar
abbrev pub barred : List Value → List ℕ
barred [] = []
barred (v ∷ vs) = barred_value v ++ barred vs

-- the values with bars between them
abbrev pub joined : List Value → List ℕ
joined [] = []
joined (v ∷ vs) = value_text v ++ barred vs

-- the line of a row of a table: its rowid, then its values
abbrev pub row_text : Row → List ℕ
row_text r = line (signed_decimal r.0 ++ barred r.1)

abbrev pub rows_text : List Row → List ℕ
rows_text [] = []
rows_text (r ∷ rs) = row_text r ++ rows_text rs

-- the lines of a table
abbrev pub table_text : List Row → List ℕ
table_text rows = rows_text rows ++ line (codes "rows " ++ decimal (length rows))
