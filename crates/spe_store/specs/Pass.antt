-- What a pass is seen as: an id, and what its transaction did.
use Rattle.std.specs.Prelude.{◌≡◌, ◌≢◌, ℕ, List}
use Rattle.spe_store.specs.Event.{Event, journalled_in, lives_in, open_in, seen_in, written_in}

pub record Pass : Type 0 where
  pub id : ℕ
  -- what the transaction did since it began, the newest first
  pub done : List Event

-- Of one transaction two lists of events say the same.
pub record AreAlike (one other : List Event) (id : ℕ) : Type 0 where
  pub begun : open_in one id ≡ open_in other id
  pub lives : lives_in one id ≡ lives_in other id
  pub journalled : journalled_in one id ≡ journalled_in other id
  pub written : written_in one id ≡ written_in other id
  pub seen : seen_in one id ≡ seen_in other id

-- of each transaction but one they do
abbrev pub OthersStay : (one other : List Event) → ℕ → Type 0
OthersStay one other id = (i : ℕ) → i ≢ id → AreAlike one other i
