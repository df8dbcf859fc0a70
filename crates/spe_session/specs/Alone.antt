-- What is so of the transactions of a store with one client.
use Rattle.std.specs.Prelude.{◌≡◌, ◌≢◌, ℕ, List, [], ◌∷◌, None, true, false}
use Rattle.spe_store.specs.Event.{Event, journalled_in, lives_in, open_in, out_in, seen_in, written_in}
use Rattle.spe_store.specs.Event.Event.{Begun}
use Rattle.spe_session.specs.Below.{IsUnwritten}

-- there is no transaction of this id
pub record IsAbsent (events : List Event) (i : ℕ) : Type 0 where
  pub closed : open_in events i ≡ false
  pub back : out_in events i ≡ false
  pub ended : lives_in events i ≡ false
  pub unsaved : (p : ℕ) → journalled_in events i p ≡ None
  pub unwritten : (p : ℕ) → written_in events i p ≡ None
  pub unseen : (p : ℕ) → seen_in events i p ≡ []

-- no transaction is at work
abbrev pub IsIdle : List Event → Type 0
IsIdle events = (i : ℕ) → IsAbsent events i

-- no other transaction is at work
abbrev pub IsAlone : List Event → ℕ → Type 0
IsAlone events id = (i : ℕ) → i ≢ id → IsAbsent events i

-- a transaction that may commit, and has done nothing yet but read
pub record IsReading (events : List Event) (id : ℕ) : Type 0 where
  pub closed : open_in events id ≡ false
  pub lives : lives_in events id ≡ true
  pub unsaved : (p : ℕ) → journalled_in events id p ≡ None

-- where no transaction is at work, one that begins is alone, may commit, and has done nothing
abbrev pub BeginsAlone : Type 0
BeginsAlone = (events : List Event) (id : ℕ) → IsIdle events → IsAlone (Begun id ∷ events) id × IsReading (Begun id ∷ events) id × IsUnwritten (Begun id ∷ events)
