-- What recovery does, where the disk tells it.
use Rattle.std.specs.Prelude.{◌≡◌, ℕ, List, length, Option, Some, None}
use Rattle.spe_model.specs.Content.{Content}
use Rattle.spe_model.specs.Trace.{Operation, History, present}
use Rattle.spe_disk.specs.Told.{Adds}

-- The operations were made, and there were so many.
abbrev pub Does : Option History → Option History → (Content → List Operation) → ℕ → Type 0
Does None new ops made = new ≡ None
Does (Some h) new ops made = Adds (Some h) new (ops (present h)) × (made ≡ length (ops (present h)))
