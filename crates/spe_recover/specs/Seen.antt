-- What is kept of the hot records that were read.
use Rattle.std.specs.Prelude.{◌≡◌, ℕ, ◌<◌, ◌≤◌, ◌==◌, List, [], ◌∷◌, ◌++◌, length, take, drop, map, Option, Some, None, Bool, true, false, nat_lt, if◌then◌else◌}
use Rattle.std.specs.List.{list_any, flat_map}
use Rattle.std.specs.Ordering.{nat_cmp}
use Rattle.std.specs.BTreeMap.{get}
use Rattle.spe_model.specs.Content.{Content}
use Rattle.spe_model.specs.Journal.{Saved, hot_records, numbers_from}
use Rattle.spe_model.specs.Recovery.{first_two, journal_of}
use Rattle.spe_journal.specs.Saved.{SavesFirst, SavesNone}
use Rattle.spe_recover.specs.declared.seen.Clash.{Clash}
use Rattle.spe_recover.specs.declared.seen.Seen.{Seen}

-- a hot record with the number of its journal
abbrev pub Entry : Type 0
Entry = ℕ × Saved

abbrev pub entries_of : ℕ → List Saved → List Entry
entries_of id saved = map (λ s. (id, s)) saved

-- the journals that hold a page
abbrev pub Held : Type 0
Held = ℕ → List ℕ

abbrev pub joined : ℕ → List ℕ → List ℕ
joined id ids = if list_any (λ i. i == id) ids then ids else ids ++ id ∷ []

-- this journal holds the page too
abbrev pub with_holder : Held → ℕ → ℕ → Held
with_holder held id page p = if page == p then joined id (held p) else held p

-- the journals that hold a page once these records were read
abbrev pub held_after : Held → List Entry → Held
held_after held [] = held
held_after held (e ∷ es) = held_after (with_holder held e.0 e.1.page) es

abbrev pub first_of : List ℕ → Option ℕ
first_of [] = None
first_of (x ∷ xs) = Some x

-- the least page that two journals hold, and the first two of them
pub record IsLeast (held : Held) (clash : Clash) : Type 0 where
  pub two : first_two (held clash.page) ≡ (clash.first, clash.second)
  pub shared : 2 ≤ length (held clash.page)
  pub least : (p : ℕ) → p < clash.page → length (held p) ≤ 1

abbrev pub IsClash : Held → Option Clash → Type 0
IsClash held None = (p : ℕ) → length (held p) ≤ 1
IsClash held (Some clash) = IsLeast held clash

-- the page is below the one that is known to clash, or none is known
abbrev pub is_lower : ℕ → Option Clash → Bool
is_lower page None = true
is_lower page (Some clash) = nat_lt page clash.page

-- what is kept says which journals hold which page
pub record IsSeen (held : Held) (seen : Seen) : Type 0 where
  pub holders : (p : ℕ) → get nat_cmp seen.holders p ≡ first_of (held p)
  pub clash : IsClash held seen.clash

-- the rest of the header where the record is of page 1
abbrev pub rest_in : Saved → Option (List ℕ)
rest_in s = if s.page == 1 then Some (take 76 (drop 24 s.content)) else None

abbrev pub or_else : {X : Type 0} → Option X → Option X → Option X
or_else None other = other
or_else (Some x) other = Some x

-- the first rest of the header once these records were read
abbrev pub rest_after : Option (List ℕ) → List Entry → Option (List ℕ)
rest_after rest [] = rest
rest_after rest (e ∷ es) = rest_after (or_else rest (rest_in e.1)) es

-- what is kept is brought up to date with these records
pub record Notes (es : List Entry) (old new : Seen) : Type 0 where
  pub held : (held : Held) → IsSeen held old → IsSeen (held_after held es) new
  pub rest : new.rest ≡ rest_after old.rest es

-- What a piece of a journal says is kept, where it is a record; else nothing is, and no piece behind it counts.
abbrev pub NotesPiece : (id nonce page_size : ℕ) → List ℕ → Seen → Seen → Bool → Type 0
NotesPiece id nonce page_size piece old new true =
    (saved : Saved) × SavesFirst nonce page_size piece saved × Notes ((id, saved) ∷ []) old new
NotesPiece id nonce page_size piece old new false = SavesNone nonce page_size piece × (new ≡ old)

-- the hot records of some journals, with pages of this size
unfoldable pub entries_from : Content → (page_size id count : ℕ) → List Entry
entries_from content page_size id count =
    flat_map (λ i. entries_of i (hot_records page_size (journal_of content i))) (numbers_from id count)

-- what is kept says what all journals hold
abbrev pub IsScanned : Content → ℕ → Seen → Type 0
IsScanned content page_size seen =
    IsSeen (held_after (λ p. []) (entries_from content page_size 0 16)) seen
    × (seen.rest ≡ rest_after None (entries_from content page_size 0 16))
