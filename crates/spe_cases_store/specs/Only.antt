-- What one transaction has done in a store in which nothing was done before.
use Rattle.std.specs.Prelude.{◌≡◌, ℕ, List, [], ◌∷◌}
use Rattle.spe_store.specs.Event.Event.{Begun, Journalled, Opened, Written}
use Rattle.spe_store.specs.Store.{Store}

-- it has begun
pub record HasBegun (s : Store) (id : ℕ) : Type 0 where
  pub events : s.events ≡ Begun id ∷ []
  pub sized : s.page_size ≡ 512
  pub counted : s.count ≡ 3

-- it has opened its journal, saved page 2 and written it
pub record HasChanged (s : Store) (id : ℕ) : Type 0 where
  pub old : List ℕ
  pub new : List ℕ
  pub events : s.events ≡ Written id 2 new ∷ Journalled id 2 old ∷ Opened id ∷ Begun id ∷ []
