-- What contracts see of a table of lock words and of the seat of an id.
use Rattle.std.specs.Prelude.{◌≡◌, ℕ, ◌<◌, ◌≤◌, [], IsTrue}
use Rattle.std.specs.Int.{is_power_of_two}
use Rattle.atomic_table.specs.Table.{Me}
use Rattle.atomic_table.specs.Seated.{TableId}
use Rattle.spe_slotrule.specs.declared.parts.IdPart.{IdPart}
use Rattle.spe_slotrule.specs.declared.parts.MakerPart.{MakerPart}
use Rattle.spe_slotrule.specs.declared.parts.SessionPart.{SessionPart}
use Rattle.spe_slotrule.specs.declared.parts.StorePart.{StorePart}
use Rattle.spe_slotrule.specs.declared.parts.View.{View}
use Rattle.spe_slotrule.specs.Views.{id_part, id_view, store_part, store_view, session_part, session_view, maker_part, maker_view}

-- how many lock words a table may have
abbrev pub IsLockCount : ℕ → Type 0
IsLockCount n = (16 ≤ n) × (n ≤ 262144) × IsTrue (is_power_of_two n)

-- a table: which one it is, and how many lock words it has
pub record LockTable : Type 0 where
  pub table : TableId
  pub count : ℕ

-- the seat of an id: of which table it is, and what it knows
pub record SeatedId : Type 0 where
  pub table : TableId
  pub part : IdPart

-- the seat has the part of that id alone
abbrev pub IsIdSeat : {E : Type 0} → Me (Unit {0}) (View E) → ℕ → Type 0
IsIdSeat me id = (me ≡ (id_view (id_part me.0), [])) × ((id_part me.0).id ≡ id) × (id < 16)

-- the seats of the store, of a session and of the maker
pub record SeatedStore (E : Type 0) : Type 0 where
  pub table : TableId
  pub part : StorePart E

pub record SeatedSession (E : Type 0) : Type 0 where
  pub table : TableId
  pub part : SessionPart E

pub record SeatedMaker : Type 0 where
  pub table : TableId
  pub part : MakerPart

module _ {E : Type 0} where
  -- the seat has the store's part alone
  abbrev pub IsStoreSeat : Me (Unit {0}) (View E) → Type 0
  IsStoreSeat me = me ≡ (store_view (store_part me.0), [])

  -- and the store has taken no session in yet
  abbrev pub IsOpenStore : Me (Unit {0}) (View E) → Type 0
  IsOpenStore me = IsStoreSeat me × ((store_part me.0).closed ≡ [])

  -- the seat has a session's part alone
  abbrev pub IsSession : Me (Unit {0}) (View E) → Type 0
  IsSession me = me ≡ (session_view (session_part me.0), [])

  -- and the session was told that number
  abbrev pub IsSessionSeat : Me (Unit {0}) (View E) → ℕ → Type 0
  IsSessionSeat me told = IsSession me × (told ≡ (session_part me.0).told)

  -- the seat has the maker's part alone
  abbrev pub IsMaker : Me (Unit {0}) (View E) → Type 0
  IsMaker me = me ≡ (maker_view (maker_part me.0), [])
