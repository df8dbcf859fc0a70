-- What holds of a core at every moment.
use Rattle.std.specs.Prelude.{◌≡◌, ℕ, ◌+◌, ◌<◌, ◌≤◌, ◌==◌, ◌&&◌, ◌||◌, Bool, true, false, List, [], ◌∷◌, length, Some, Ok, slice_get, if◌then◌else◌}
use Rattle.std.specs.List.{list_all}
use Rattle.spe_model.specs.Content.{Content}
use Rattle.spe_model.specs.Recovery.{file_page, holders, recovered}
use Rattle.spe_transactions.specs.Pages.{laid_pages, page_at}
use Rattle.spe_core.specs.declared.event.Event.{Event}
use Rattle.spe_core.specs.declared.event.Event.TheOpen.{Event-F}
use Rattle.spe_stored.specs.Sheets.{sheet_at, has_sheet, pages_at}
use Rattle.spe_core.specs.State.{State, Live, Committed, live_of, is_ended}
use Rattle.spe_core.specs.Laid.{laid}
use Rattle.spe_core.specs.Locks.{has_lock}
use Rattle.spe_core.specs.Enabled.{enabled, holds, holds_none, is_serving, is_step_enabled, where_working}
use Rattle.spe_core.specs.Changed.{changed}

-- an event that is not enabled changes nothing
abbrev pub next : State → Event → State
next s e = if enabled s e then changed s e else s

-- the state after some events
abbrev pub after_events : State → List Event → State
after_events s [] = s
after_events s (e ∷ es) = after_events (next s e) es

-- the transaction read these pages
abbrev pub ReadFrom : List (List ℕ) → Committed → Type 0
ReadFrom pages c = (p : ℕ) → (bytes : List ℕ) → sheet_at p c.seen ≡ Some bytes → page_at pages p ≡ Some bytes

-- what a transaction that has not ended has done: it read some of these pages, and the file has each page that it wrote as
-- it wrote it
pub record IsAtWorkOn (content : Content) (pages : List (List ℕ)) (t : Live) : Type 0 where
  pub reads : ReadFrom pages (record { seen = t.seen; written = t.written })
  pub written : (p : ℕ) (bytes : List ℕ) → sheet_at p t.written ≡ Some bytes → file_page content p ≡ bytes

-- each transaction of another id has ended and holds no lock
abbrev pub others_gone : State → ℕ → Bool
others_gone s id = list_all (λ (t : ℕ × Live). (t.0 == id) || (is_ended t.1 && holds_none t.1)) s.live

-- no transaction that has not ended wrote the page
abbrev pub NobodyWrote : State → ℕ → Type 0
NobodyWrote s p = (id : ℕ) (t : Live) → live_of s id ≡ Some t → is_ended t ≡ false → has_sheet p t.written ≡ false

-- a lock that a transaction writes under no other holds
abbrev pub WritesAlone : State → Type 0
WritesAlone s = (lock id other : ℕ) (t u : Live) → live_of s id ≡ Some t → live_of s other ≡ Some u → has_lock lock t.writes ≡ true → holds lock u ≡ true → id ≡ other

-- a working transaction is given a lock that it asks for
pub record IsGranted (s : State) (id lock : ℕ) : Type 0 where
  pub read : is_step_enabled s (Event-F.GrantRead id lock) ≡ true
  pub write : is_step_enabled s (Event-F.GrantWrite id lock) ≡ true

-- What a transaction read before it committed is what the earlier commits left, and what it leaves is that with what it
-- wrote. What recovery gives is what all commits left. Hot journals have no page in common. A transaction that goes on
-- works on what all commits left, and the file has every page of that which no such transaction wrote.
pub record IsSerial (s : State) : Type 0 where
  pub reads : (n : ℕ) (c : Committed) → slice_get s.commits n ≡ Some c → ReadFrom (laid s n) c
  pub leaves : (n : ℕ) (c : Committed) → slice_get s.commits n ≡ Some c → laid s (n + 1) ≡ laid_pages (laid s n) (pages_at c.written)
  pub recovered : recovered s.content ≡ Ok (laid s (length s.commits))
  pub apart : (p : ℕ) → length (holders s.content p) ≤ 1
  pub working : (id : ℕ) (t : Live) → live_of s id ≡ Some t → is_ended t ≡ false → IsAtWorkOn s.content (laid s (length s.commits)) t
  pub unwritten : is_serving s ≡ true → (p : ℕ) → NobodyWrote s p → (bytes : List ℕ) → page_at (laid s (length s.commits)) p ≡ Some bytes → file_page s.content p ≡ bytes
  pub alone : WritesAlone s
  pub granted : (id lock : ℕ) → where_working s id (λ t. true) ≡ true → lock < s.slots → others_gone s id ≡ true → IsGranted s id lock
