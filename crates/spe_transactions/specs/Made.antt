-- What one operation of a transaction at work does.
use Rattle.std.specs.Prelude.{List, ℕ}
use Rattle.spe_model.specs.Content.{Content}
use Rattle.spe_model.specs.Covered.{IsCovered, Recovers}
use Rattle.spe_model.specs.Trace.{IsTorn, Operation, made_by}
use Rattle.spe_transactions.specs.Work.{AtWork, Works}

-- The operation may be torn anywhere, and leaves the pages as they were then; whole it leaves these new pages at work.
pub record Makes (content : Content) (o : Operation) (pages new : List (List ℕ)) (journalled written : Works) : Type 0 where
  pub covered : IsCovered content o
  pub torn : (part : Operation) → IsTorn o part → Recovers (made_by part content) pages
  pub made : AtWork (made_by o content) new journalled written
