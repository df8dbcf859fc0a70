-- What was added to the trace of a disk, where the disk tells it.
use Rattle.std.specs.Prelude.{◌≡◌, List, Option, Some, None}
use Rattle.spe_model.specs.Content.{Content}
use Rattle.spe_model.specs.Trace.{History, IsCut, Operation, present}
use Rattle.spe_disk.specs.Told.{Adds}

-- P of the present content, where the disk tells it
abbrev pub IfTold : Option History → (Content → Type 0) → Type 0
IfTold None P = Unit {0}
IfTold (Some h) P = P (present h)

-- P of the contents before and now, where the disk tells both
abbrev pub IfBothTold : (old new : Option History) → (Content → Content → Type 0) → Type 0
IfBothTold old new P = IfTold old (λ content. IfTold new (P content))

-- Some operations were added, and P holds of them.
pub record AddsSome (old new : Option History) (P : List Operation → Type 0) : Type 0 where
  pub made : List Operation
  pub adds : Adds old new made
  pub holds : P made

-- P of the content before and of the operations that were added since
abbrev pub WhereAdded : (old new : Option History) → (Content → List Operation → Type 0) → Type 0
WhereAdded old new P = IfTold old (λ content. AddsSome old new (P content))

-- what a stop within these operations leaves was added
abbrev pub AddsCut : (old new : Option History) → List Operation → Type 0
AddsCut old new ops = AddsSome old new (IsCut ops)

-- the same of operations that the content before asks for
abbrev pub MakesCut : (old new : Option History) → (Content → List Operation) → Type 0
MakesCut old new ops = WhereAdded old new (λ content. IsCut (ops content))

-- all operations were added that the content before asks for
abbrev pub Makes : (old new : Option History) → (Content → List Operation) → Type 0
Makes None new ops = new ≡ None
Makes (Some h) new ops = Adds (Some h) new (ops (present h))
