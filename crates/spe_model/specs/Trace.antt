-- What is done to the files of a database, and what a stop leaves of it.
use Rattle.std.specs.Prelude.{◌≡◌, ℕ, ◌+◌, ◌-◌, ◌⊎◌, List, [], ◌∷◌, ◌++◌, take, drop, length}
use Rattle.spe_model.specs.declared.file.FileNo.{FileNo}
use Rattle.spe_model.specs.Content.{Content, bytes_of, with_file, zeros}

-- one operation on one file
pub data Operation : Type 0 where
  Write : FileNo → (at : ℕ) → (bytes : List ℕ) → Operation
  Cut : FileNo → (size : ℕ) → Operation

-- bytes laid over old ones from a place on, with zeros in a gap before them
abbrev pub laid_over : List ℕ → ℕ → List ℕ → List ℕ
laid_over old at bytes = take at (old ++ zeros (at - length old)) ++ bytes ++ drop (at + length bytes) old

-- what an operation makes of a content; writing no bytes changes nothing
abbrev pub made_by : Operation → Content → Content
made_by (Write file at []) content = content
made_by (Write file at (b ∷ bs)) content = with_file content file (laid_over (bytes_of content file) at (b ∷ bs))
made_by (Cut file size) content = with_file content file (take size (bytes_of content file))

-- what a list of operations makes of a content, the first of them first
abbrev pub after : Content → List Operation → Content
after content [] = content
after content (o ∷ os) = after (made_by o content) os

-- the second is the first with only some first bytes of what it writes
abbrev pub IsTorn : Operation → Operation → Type 0
IsTorn (Write file at bytes) (Write other place front) = (file ≡ other) × (at ≡ place) × ((rest : List ℕ) × (bytes ≡ front ++ rest))
IsTorn (Write file at bytes) (Cut other size) = ⊥
IsTorn (Cut file size) torn = ⊥

-- What a stop leaves of a trace: some first operations, and of the next, where it is a write, some first bytes.
abbrev pub IsCut : List Operation → List Operation → Type 0
IsCut trace [] = Unit {0}
IsCut [] (c ∷ cs) = ⊥
IsCut (o ∷ os) (c ∷ cs) = ((c ≡ o) × IsCut os cs) ⊎ (IsTorn o c × (cs ≡ []))

-- the content when a disk was attached, and what was done to it since
pub record History : Type 0 where
  pub first : Content
  pub trace : List Operation

-- the content as it is now
abbrev pub present : History → Content
present h = after h.first h.trace
