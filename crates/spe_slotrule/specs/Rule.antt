-- The rule of the table. Word 0 is the number of commits, word 1 the floor, words 2 and 3 the next id and the next session number, and then come the lock words.
use Rattle.std.specs.Prelude.{◌≡◌, ℕ, zero, ◌<◌, Bool, true, false, List, [], ◌∷◌, ◌++◌, map, length, slice_index, slice_index_or, ◌==◌, ◌||◌, replicate, Option, Some}
use mathlib.Core.Option.{some}
use lib.ListN.{get_elem?}
use Rattle.atomic_table.specs.Table.{State}
use Rattle.spe_slotrule.specs.declared.parts.IdPart.{IdPart}
use Rattle.spe_slotrule.specs.declared.parts.StorePart.{StorePart}
use Rattle.spe_slotrule.specs.declared.parts.SessionPart.{SessionPart}
use Rattle.spe_slotrule.specs.declared.parts.MakerPart.{MakerPart}
use Rattle.spe_slotrule.specs.declared.parts.NotePart.{NotePart}
use Rattle.spe_slotrule.specs.declared.parts.Pin.{Pin}
use Rattle.spe_slotrule.specs.declared.parts.View.{View}
use Rattle.spe_slotrule.specs.Word.{has_reader, has_writer, holds_lock, has_read_pin, has_write_pin, IsAlone}
use Rattle.spe_slotrule.specs.Views.{id_key, session_key, only_key, reads_of, writes_of, id_of, store_of, session_of, maker_of, note_of}
use Rattle.spe_slotrule.specs.Pairs.{has_pair}
use Rattle.spe_slotrule.specs.Known.{id_at, session_at, IdsAreOutOnce, IdFits, SessionFits, NoteFits, FailedAreFaults}
use Rattle.spe_slotrule.specs.Stands.{Stands}

abbrev pub is_listed : ℕ → List ℕ → Bool
is_listed k [] = false
is_listed k (x ∷ xs) = k == x || is_listed k xs

-- the test holds of an id and a lock word exactly where that id lists the word
abbrev pub AreListed : (ℕ → ℕ → Bool) → List ℕ → List (List ℕ) → Type 0
AreListed test locks lists = (i k : ℕ) → i < 16 → test i (slice_index locks k) ≡ is_listed k (slice_index_or lists i [])

-- a reader bit is set exactly where its id lists the word among its reads
abbrev pub ReadersAreListed : List ℕ → List (List ℕ) → Type 0
ReadersAreListed locks reads = AreListed has_reader locks reads

-- an id is the writer of a word exactly where it lists the word among its writes
abbrev pub WritersAreListed : List ℕ → List (List ℕ) → Type 0
WritersAreListed locks writes = AreListed has_writer locks writes

-- where a word has a writer, nobody else reads
abbrev pub WritersAreAlone : List ℕ → Type 0
WritersAreAlone locks = (k : ℕ) → IsAlone (slice_index locks k)

abbrev pub pin_id : Pin → ℕ
pin_id x = x.id

abbrev pub pin_lock : Pin → ℕ
pin_lock x = x.lock

-- the list has a pin of the id at the lock word k
abbrev pub is_pinned : ℕ → ℕ → List Pin → Bool
is_pinned i k pins = has_pair pin_id pin_lock i k pins

-- the list has a pin of any id at the lock word k
abbrev pub is_pinned_word : ℕ → List Pin → Bool
is_pinned_word k [] = false
is_pinned_word k (x ∷ xs) = k == x.lock || is_pinned_word k xs

-- a pin is set exactly where the store lists it
abbrev pub ReadPinsAreListed : List ℕ → List Pin → Type 0
ReadPinsAreListed locks pins = (i k : ℕ) → i < 16 → has_read_pin i (slice_index locks k) ≡ is_pinned i k pins

abbrev pub WritePinsAreListed : List ℕ → List Pin → Type 0
WritePinsAreListed locks pins = (k : ℕ) → has_write_pin (slice_index locks k) ≡ is_pinned_word k pins

-- a pin stands under a lock of its id, a write pin under its write lock
abbrev pub ReadPinsHaveLocks : List ℕ → List Pin → Type 0
ReadPinsHaveLocks locks pins = (i k : ℕ) → is_pinned i k pins ≡ true → (i < 16) × (holds_lock i (slice_index locks k) ≡ true)

abbrev pub WritePinsHaveLocks : List ℕ → List Pin → Type 0
WritePinsHaveLocks locks pins = (i k : ℕ) → is_pinned i k pins ≡ true → (i < 16) × (has_writer i (slice_index locks k) ≡ true)

-- no id has a pin at a word where another has a write pin
abbrev pub PinsAreApart : List Pin → List Pin → Type 0
PinsAreApart reads writes = (i j k : ℕ) → is_pinned i k writes ≡ true → (is_pinned j k reads || is_pinned j k writes) ≡ true → j ≡ i

-- the maker knows how many numbers were drawn
abbrev pub AreDrawn : MakerPart → ℕ → ℕ → Type 0
AreDrawn maker ids sessions = (maker.ids ≡ ids) × (maker.sessions ≡ sessions)

abbrev pub no_locks : ℕ → List ℕ
no_locks n = replicate n zero

-- the words of a new table
abbrev pub new_words : ℕ → List ℕ
new_words n = 0 ∷ 0 ∷ 0 ∷ 0 ∷ no_locks n

-- what the views and the lock words have, put in order
pub record Parts (E : Type 0) : Type 0 where
  pub ids : List IdPart
  pub sessions : List (SessionPart E)
  pub store : StorePart E
  pub maker : MakerPart
  pub locks : List ℕ

module _ {E : Type 0} where
  abbrev pub words_of : Parts E → List ℕ
  words_of p = length p.store.commits ∷ p.store.floor ∷ length p.ids ∷ length p.sessions ∷ p.locks

  -- the sessions that the store took in at the close, and those of the views
  abbrev pub sessions_in : StorePart E → List (View E) → List (Option (SessionPart E))
  sessions_in s views = map (λ (p : SessionPart E). Some p) s.closed ++ map session_of views

  -- each part stands in one view
  pub record AllStand (p : Parts E) (views : List (View E)) : Type 0 where
    pub ids : Stands id_key p.ids (map id_of views)
    pub sessions : Stands session_key p.sessions (sessions_in p.store views)
    pub store : Stands only_key (p.store ∷ []) (map store_of views)
    pub maker : Stands only_key (p.maker ∷ []) (map maker_of views)

  -- what the lock words have is listed, writers are alone, and pins have locks
  pub record LocksAreRight (locks : List ℕ) (ids : List IdPart) (s : StorePart E) : Type 0 where
    pub readers : ReadersAreListed locks (map reads_of ids)
    pub writers : WritersAreListed locks (map writes_of ids)
    pub alone : WritersAreAlone locks
    pub read_pins : ReadPinsAreListed locks s.read_pins
    pub write_pins : WritePinsAreListed locks s.write_pins
    pub read_locks : ReadPinsHaveLocks locks s.read_pins
    pub write_locks : WritePinsHaveLocks locks s.write_pins

  abbrev pub IdsFit : StorePart E → List IdPart → Type 0
  IdsFit s ids = (i : ℕ) → i < 16 → IdFits s i (id_at ids i)

  abbrev pub SessionsFit : StorePart E → List (SessionPart E) → Type 0
  SessionsFit s sessions = (i : ℕ) → SessionFits s i (session_at sessions i)

  abbrev pub NotesFit : StorePart E → List (Option (NotePart E)) → Type 0
  NotesFit s notes = (i : ℕ) (a : NotePart E) → get_elem? notes i ≡ some (Some a) → NoteFits s a

  -- what holds between the parts
  pub record AreRight (p : Parts E) : Type 0 where
    pub locks : LocksAreRight p.locks p.ids p.store
    pub drawn : AreDrawn p.maker (length p.ids) (length p.sessions)
    pub sixteen : length p.store.records ≡ 16
    pub ids : IdsFit p.store p.ids
    pub sessions : SessionsFit p.store p.sessions
    pub out : IdsAreOutOnce p.store.out
    pub failed : FailedAreFaults p.store p.ids p.sessions

  -- the rule of a table with n lock words
  pub record KeepsRule (n : ℕ) (s : State (Unit {0}) (View E)) : Type 0 where
    pub parts : Parts E
    pub words : s.words ≡ words_of parts
    pub count : length parts.locks ≡ n
    pub stand : AllStand parts s.views
    pub notes : NotesFit parts.store (map note_of s.views)
    pub right : AreRight parts
