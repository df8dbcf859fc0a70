-- What ids, sessions and notes have of what the store has.
use Rattle.std.specs.Prelude.{◌≡◌, ℕ, ◌+◌, ◌≤◌, Bool, true, false, List, [], ◌∷◌, ◌==◌, ◌||◌, if◌then◌else◌, length, slice_index_or, Option, Some, None}
use Rattle.std.specs.List.{filter, sum_by}
use mathlib.Core.List.{IsPrefix}
use Rattle.spe_slotrule.specs.declared.parts.CommitEntry.{CommitEntry}
use Rattle.spe_slotrule.specs.declared.parts.IdOut.{IdOut}
use Rattle.spe_slotrule.specs.declared.parts.IdPart.{IdPart}
use Rattle.spe_slotrule.specs.declared.parts.NotePart.{NotePart}
use Rattle.spe_slotrule.specs.declared.parts.SessionPart.{SessionPart}
use Rattle.spe_slotrule.specs.declared.parts.StoppedCommit.{StoppedCommit}
use Rattle.spe_slotrule.specs.declared.parts.StorePart.{StorePart}
use Rattle.spe_slotrule.specs.declared.parts.StoreStop.{StoreStop}
use Rattle.spe_slotrule.specs.Pairs.{has_pair}
use Rattle.spe_slotrule.specs.Views.{no_record, new_id, new_session}

abbrev pub out_id : IdOut → ℕ
out_id x = x.id

abbrev pub out_session : IdOut → ℕ
out_session x = x.session

-- the id is out with some session
abbrev pub is_given_out : ℕ → List IdOut → Bool
is_given_out id [] = false
is_given_out id (x ∷ xs) = id == x.id || is_given_out id xs

-- the id is out with the session
abbrev pub is_out : ℕ → ℕ → List IdOut → Bool
is_out id session out = has_pair out_id out_session id session out

-- an id is out with one session at most
abbrev pub IdsAreOutOnce : List IdOut → Type 0
IdsAreOutOnce out = (id i j : ℕ) → is_out id i out ≡ true → is_out id j out ≡ true → i ≡ j

abbrev pub has_out : ℕ → Option ℕ → Bool
has_out id None = false
has_out id (Some other) = id == other

abbrev pub id_failed : IdPart → ℕ
id_failed p = p.failed_reads

-- the id with that number, which is a new one where it wasn't drawn
abbrev pub id_at : List IdPart → ℕ → IdPart
id_at ids i = slice_index_or ids i (new_id i)

module _ {E : Type 0} where
  abbrev pub session_failed : SessionPart E → ℕ
  session_failed p = p.failed_reads

  abbrev pub session_at : List (SessionPart E) → ℕ → SessionPart E
  session_at sessions i = slice_index_or sessions i (new_session i)

  -- the entries of one session
  abbrev pub by_session : ℕ → List (CommitEntry E) → List (CommitEntry E)
  by_session i commits = filter (λ (e : CommitEntry E). e.session == i) commits

  -- the operation that failed
  abbrev pub op_of : Option (StoreStop E) → Option ℕ
  op_of None = None
  op_of (Some stop) = Some stop.op

  -- the commit of that session at whose cut the store stopped
  abbrev pub only_by : ℕ → Option (StoppedCommit E) → Option (StoppedCommit E)
  only_by i None = None
  only_by i (Some e) = if e.session == i then Some e else None

  abbrev pub stopped_of : ℕ → Option (StoreStop E) → Option (StoppedCommit E)
  stopped_of i None = None
  stopped_of i (Some stop) = only_by i stop.commit

  -- a stop that is known is the store's
  abbrev pub IsStop : Option ℕ → Option (StoreStop E) → Type 0
  IsStop None stop = Unit {0}
  IsStop (Some op) stop = op_of stop ≡ Some op

  -- a list seen, the number told, a count of faults and a stop, as sessions and notes have them
  pub record Heard (s : StorePart E) (seen : List (CommitEntry E)) (told faults : ℕ) (stop : Option ℕ) : Type 0 where
    pub begins : IsPrefix seen s.commits
    pub least : length seen ≤ told
    pub most : told ≤ length s.commits
    pub counted : faults ≤ s.faults
    pub same_stop : IsStop stop s.stop

  -- the id of number i, beside the store
  pub record IdFits (s : StorePart E) (i : ℕ) (p : IdPart) : Type 0 where
    pub pages : slice_index_or s.records i no_record ≡ p.pages
    pub faults : p.faults ≤ s.faults
    pub stop : IsStop p.stop s.stop

  -- the session of number i, beside the store
  pub record SessionFits (s : StorePart E) (i : ℕ) (p : SessionPart E) : Type 0 where
    pub heard : Heard s p.seen p.told p.faults p.stop
    pub own : p.own ≡ by_session i s.commits
    pub stopped : p.stopped ≡ stopped_of i s.stop
    pub out : (id : ℕ) → is_out id i s.out ≡ has_out id p.out

  pub record NoteFits (s : StorePart E) (a : NotePart E) : Type 0 where
    pub heard : Heard s a.seen a.told a.faults a.stop

  -- the failed reads of all ids and sessions are faults of the store
  abbrev pub FailedAreFaults : StorePart E → List IdPart → List (SessionPart E) → Type 0
  FailedAreFaults s ids sessions = sum_by id_failed ids + sum_by session_failed sessions ≤ s.faults
