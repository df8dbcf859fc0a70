-- What was read of a database once, before all transactions, and what its disk was then.
use Rattle.std.specs.Prelude.{ℕ, List, Option}
use Rattle.spe_model.specs.declared.recovery.Recovered.{Recovered}
use Rattle.spe_model.specs.Content.{Content}
use Rattle.spe_model.specs.Justified.{Opening}

pub record Opened : Type 0 where
  pub read : Opening
  pub found : Recovered
  -- what the files held at attaching, where the disk tells it, and the pages that are recovered from that
  pub first : Option Content
  pub pages : List (List ℕ)
  -- how often reading calls and operations had failed
  pub reads : ℕ
  pub faults : ℕ
