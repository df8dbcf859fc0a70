-- What the store tells ids and sessions, by a load of the number of commits.
use Rattle.std.specs.Prelude.{◌≡◌, ◌≢◌, ℕ, ◌+◌, ◌≤◌, max, nat_lt, Bool, List, [], ◌∷◌, ◌++◌, if◌then◌else◌, length, slice_set, slice_index_or, Option, Some, None}
use mathlib.Core.Option.{some}
use lib.ListN.{get_elem?}
use Rattle.std.specs.List.{sum_by}
use Rattle.atomic_table.specs.Table.{Me, Step}
use Rattle.spe_slotrule.specs.declared.parts.CommitEntry.{CommitEntry}
use Rattle.spe_slotrule.specs.declared.parts.IdOut.{IdOut}
use Rattle.spe_slotrule.specs.declared.parts.IdPart.{IdPart}
use Rattle.spe_slotrule.specs.declared.parts.MakerPart.{MakerPart}
use Rattle.spe_slotrule.specs.declared.parts.PageBytes.{PageBytes}
use Rattle.spe_slotrule.specs.declared.parts.PassRecord.{PassRecord}
use Rattle.spe_slotrule.specs.declared.parts.NotePart.{NotePart}
use Rattle.spe_slotrule.specs.declared.parts.SessionPart.{SessionPart}
use Rattle.spe_slotrule.specs.declared.parts.StoppedCommit.{StoppedCommit}
use Rattle.spe_slotrule.specs.declared.parts.StorePart.{StorePart}
use Rattle.spe_slotrule.specs.declared.parts.View.{View}
use Rattle.spe_slotrule.specs.Views.{no_look, no_record, with_id, with_session, with_note, with_maker, store_view, session_view, id_view}
use Rattle.spe_slotrule.specs.Pairs.{without_pair}
use Rattle.spe_slotrule.specs.Known.{out_id, out_session, op_of, by_session, session_failed, SessionFits}
use Rattle.spe_slotrule.specs.Laid.{owned, Sits}

-- one failed read more where this says so
abbrev pub counted : Bool → ℕ → ℕ
counted failed n = n + (if failed then 1 else 0)

abbrev pub without_out : ℕ → ℕ → List IdOut → List IdOut
without_out id session out = without_pair out_id out_session id session out

abbrev pub with_pages : PassRecord → IdPart → IdPart
with_pages pages p = record p { pages = pages }

-- the pages written in the record of an id, where there is one
abbrev pub written_under : List PassRecord → Option ℕ → List PageBytes
written_under records None = []
written_under records (Some id) = (slice_index_or records id no_record).written

module _ {E : Type 0} where
  -- the pages that the pass of the session's id wrote, as the store has them
  abbrev pub written_by : StorePart E → SessionPart E → List PageBytes
  written_by s p = written_under s.records p.out

  -- a seat with the store's part and a session's, or an id's, and one with an id's and a session's
  abbrev pub store_session : StorePart E → SessionPart E → View E
  store_session s p = with_session (store_view s) p

  abbrev pub store_id : StorePart E → IdPart → View E
  store_id s p = with_id (store_view s) p

  abbrev pub id_session : IdPart → SessionPart E → View E
  id_session p q = with_session (id_view p) q

  -- the view becomes w, and its parts were those of a table that meets the rule, with so many commits
  abbrev pub told : View E → Step (Unit {0}) → Me (Unit {0}) (View E) → ℕ → Me (Unit {0}) (View E) → Type 0
  told w st m found m' = (m' ≡ (w, m.1)) × ((t : Sits m.0) × (found ≡ length (owned m.0 t.parts).store.commits))

  abbrev pub with_faults : ℕ → StorePart E → StorePart E
  with_faults faults s = record s { faults = faults }

  -- the session has the store's list, count of faults, floor and stop
  abbrev pub told_all : Bool → StorePart E → SessionPart E → SessionPart E
  told_all failed s p = record p { seen = s.commits; told = length s.commits; floor = s.floor; faults = s.faults; stop = op_of s.stop; failed_reads = counted failed p.failed_reads }

  abbrev pub told_faults : Bool → StorePart E → IdPart → IdPart
  told_faults failed s p = record p { faults = s.faults; stop = op_of s.stop; failed_reads = counted failed p.failed_reads }

  -- the store has the id's record
  abbrev pub recording : IdPart → StorePart E → StorePart E
  recording p s = record s { records = slice_set s.records p.id p.pages }

  abbrev pub giving_out : ℕ → ℕ → StorePart E → StorePart E
  giving_out id session s = record s { out = record { id = id; session = session } ∷ s.out }

  -- the id that the session has out comes home
  abbrev pub taking_home : Option ℕ → ℕ → StorePart E → StorePart E
  taking_home None session s = s
  taking_home (Some id) session s = record s { out = without_out id session s.out }

  abbrev pub with_out : Option ℕ → SessionPart E → SessionPart E
  with_out out p = record p { out = out }

  abbrev pub stopping : ℕ → Option (StoppedCommit E) → StorePart E → StorePart E
  stopping op commit s = record s { stop = Some record { op = op; commit = commit } }

  abbrev pub stopped_at : ℕ → StoppedCommit E → SessionPart E → SessionPart E
  stopped_at op e p = record p { stop = Some op; stopped = Some e }

  -- the entry is the last commit now
  abbrev pub longer : CommitEntry E → StorePart E → StorePart E
  longer e s = record s { commits = s.commits ++ e ∷ [] }

  abbrev pub committing : CommitEntry E → StorePart E → SessionPart E → SessionPart E
  committing e s p = record p { seen = s.commits ++ e ∷ []; own = p.own ++ e ∷ []; told = length s.commits + 1 }

  -- the session has the last look of the id, and its counts, and the id has none
  abbrev pub with_looks_of : IdPart → SessionPart E → SessionPart E
  with_looks_of a p = record p { looks = p.looks + a.looks; last = a.last; conflicts = p.conflicts + a.conflicts; failed_reads = p.failed_reads + a.failed_reads }

abbrev pub without_looks : IdPart → IdPart
without_looks a = record a { looks = 0; last = no_look; conflicts = 0; failed_reads = 0 }

-- the longer of two lists, the first where none is
abbrev pub longest : {A : Type 0} → List A → List A → List A
longest xs ys = if nat_lt (length xs) (length ys) then ys else xs

module _ {E : Type 0} where
  abbrev pub session_note : SessionPart E → NotePart E → View E
  session_note p a = with_note (session_view p) a

  -- the session has seen what the note has, and was told as much
  abbrev pub met : NotePart E → SessionPart E → SessionPart E
  met a p = record p { seen = longest p.seen a.seen; told = max p.told a.told }

  -- the store takes the session in
  abbrev pub taking_in : SessionPart E → StorePart E → StorePart E
  taking_in p s = record s { closed = p ∷ s.closed }

module _ {E : Type 0} where
  abbrev pub store_maker : StorePart E → MakerPart → View E
  store_maker s m = with_maker (store_view s) m

  -- what the store knows once it has taken all sessions in: each fits it, no entry has another number, and the failed reads are faults
  pub record IsClosed (s : StorePart E) : Type 0 where
    pub fits : (i : ℕ) (p : SessionPart E) → get_elem? s.closed i ≡ some p → SessionFits s p.number p
    pub no_other : (number : ℕ) → ((i : ℕ) (p : SessionPart E) → get_elem? s.closed i ≡ some p → p.number ≢ number) → by_session number s.commits ≡ []
    pub failed : sum_by session_failed s.closed ≤ s.faults
