-- What becomes of what a store holds of a transaction.
use Rattle.std.specs.Prelude.{◌≡◌, ◌+◌, ℕ, ◌==◌, ◌&&◌, not, suc, true, false, if◌then◌else◌, List, [], ◌∷◌, length, All, Option, Some, None}
use Rattle.std.specs.Option.{option_map}
use Rattle.spe_transactions.specs.Pages.{named_count}
use Rattle.spe_store.specs.declared.work.Work.{Work}
use Rattle.spe_store.specs.Saved.{Adds, Marks, no_pages}

-- there is no transaction
pub record IsIdle (w : Work) : Type 0 where
  pub end : w.end ≡ 0
  pub own : w.own ≡ None
  pub saved : w.saved ≡ no_pages
  pub due : w.due ≡ false
  pub out : w.out ≡ false

-- the transaction has ended, and its id is still out or not
pub record HasEnded (old new : Work) : Type 0 where
  pub end : new.end ≡ 0
  pub own : new.own ≡ None
  pub saved : new.saved ≡ no_pages
  pub due : new.due ≡ false
  pub out : new.out ≡ old.out

-- a transaction begins with an id that has none
pub record HasBegun (old new : Work) : Type 0 where
  pub end : new.end ≡ 0
  pub own : new.own ≡ None
  pub saved : new.saved ≡ no_pages
  pub due : new.due ≡ true
  pub out : new.out ≡ true

-- sixteen ids of which none has a transaction
pub record AreIdle (works : List Work) : Type 0 where
  pub all : length works ≡ 16
  pub each : All IsIdle works

-- the size in pages that a transaction has written into its page 1, after it has written a page
abbrev pub own_after : (page : ℕ) → List ℕ → Option ℕ → Option ℕ
own_after page bytes own = if page == 1 then Some (named_count bytes) else own

abbrev pub own_without : (page : ℕ) → Option ℕ → Option ℕ
own_without page own = if page == 1 then None else own

-- what a transaction is once it has journalled a page
pub record IsSavedIn (page_size page : ℕ) (bytes : List ℕ) (old new : Work) : Type 0 where
  pub nonce : new.nonce ≡ old.nonce
  pub end : new.end ≡ old.end + page_size + 8
  pub own : new.own ≡ old.own
  pub due : new.due ≡ old.due
  pub out : new.out ≡ old.out
  pub saved : Adds page bytes old.saved new.saved

-- what a transaction is once it has written a page, or has its old bytes back
pub record HasWritten (page : ℕ) (bytes : List ℕ) (old new : Work) : Type 0 where
  pub nonce : new.nonce ≡ old.nonce
  pub end : new.end ≡ old.end
  pub own : new.own ≡ own_after page bytes old.own
  pub due : new.due ≡ old.due
  pub out : new.out ≡ old.out
  pub saved : Marks page true old.saved new.saved

pub record HasUndone (page : ℕ) (old new : Work) : Type 0 where
  pub nonce : new.nonce ≡ old.nonce
  pub end : new.end ≡ old.end
  pub own : new.own ≡ own_without page old.own
  pub due : new.due ≡ old.due
  pub out : new.out ≡ old.out
  pub saved : Marks page false old.saved new.saved

-- the first id that is not out, and whose journal is not open
abbrev pub free_place : List Work → Option ℕ
free_place [] = None
free_place (w ∷ ws) = if not w.out && (w.end == 0) then Some 0 else option_map suc (free_place ws)
