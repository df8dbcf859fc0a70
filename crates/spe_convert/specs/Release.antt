-- Free lists that are put back in stock form: what is done, and what the files hold then.
use Rattle.std.specs.Prelude.{◌≡◌, ◌⊎◌, ℕ, ◌%◌, ◌^◌, true, false, List, ◌++◌, length, Option}
use Rattle.spe_model.specs.declared.header.Header.{Header}
use Rattle.spe_model.specs.declared.recovery.Recovered.{Recovered}
use Rattle.spe_model.specs.Content.{Content}
use Rattle.spe_model.specs.Covered.{Covered, Recovers}
use Rattle.spe_model.specs.Database.{Database}
use Rattle.spe_model.specs.FreeList.{names_node}
use Rattle.spe_model.specs.Recovery.{file_page}
use Rattle.spe_model.specs.Served.{HasHeader, usable_in}
use Rattle.spe_model.specs.Settled.{IsFound, header_in, page_in}
use Rattle.spe_model.specs.Standing.{StandsFor}
use Rattle.spe_model.specs.Trace.{History, IsCut, Operation, after}
use Rattle.spe_disk.specs.Told.{Adds, absent_journals, makings}
use Rattle.spe_frame.specs.Times.{AreSame}
use Rattle.spe_transactions.specs.Pages.{laid_pages}
use Rattle.spe_rewrite.specs.declared.change.Change.{Change}
use Rattle.spe_rewrite.specs.Changes.{changed}
use Rattle.spe_rewrite.specs.Idle.{AreIdle}
use Rattle.spe_rewrite.specs.Rewrite.{rewrite_of}
use Rattle.spe_disk.specs.Added.{IfTold}
use Rattle.spe_rewrite.specs.Told.{counted}
use Rattle.spe_convert.specs.Changes.{released_changes}
use Rattle.spe_convert.specs.Reading.{WhereHeld, are_ascending, usable_of}

-- the files are those that recovery found
pub record AreFound (found : Recovered) (content : Content) : Type 0 where
  pub pages : List (List ℕ)
  pub is : IsFound found content pages

-- P of the pages that recovery found, where the disk tells its files
abbrev pub WhereFound : Option History → Recovered → (Content → List (List ℕ) → Type 0) → Type 0
WhereFound told found P = IfTold told (λ content. (pages : List (List ℕ)) → IsFound found content pages → P content pages)

-- the pages stand for a database, and these are their free pages, in one list in stock form
pub record IsStockFor (found : Recovered) (free : List ℕ) (pages : List (List ℕ)) (db : Database) : Type 0 where
  pub number : length pages ≡ found.pages
  pub header : Header
  pub front : HasHeader found.pages (page_in pages) header
  pub size : header.page_size ≡ found.page_size
  pub used : usable_in header ≡ usable_of found
  pub stock : names_node (page_in pages 1) ≡ false
  pub stands : StandsFor (usable_of found) found.pages (page_in pages) db
  pub free_are : AreSame free stands.listed

-- the pages once these free ones are in stock form
abbrev pub released : Recovered → List (List ℕ) → (free : List ℕ) → List (List ℕ)
released found pages free = laid_pages pages (changed (released_changes (usable_of found) found.pages free (page_in pages)))

-- Numbers that ascend, and are all free pages where the pages stand, the node page among them. With these in stock form
-- the pages stand for the same database.
pub record AreReleased (found : Recovered) (pages : List (List ℕ)) (free : List ℕ) : Type 0 where
  pub ascending : are_ascending 1 found.pages free ≡ true
  pub all : (db : Database) (stands : StandsFor (usable_of found) found.pages (page_in pages) db) → AreSame free stands.listed
  pub keep : (db : Database) → StandsFor (usable_of found) found.pages (page_in pages) db → IsStockFor found free (released found pages free) db

-- the operations of the one transaction, where so many were made before it
abbrev pub releasing : Recovered → (made : ℕ) → Content → List (List ℕ) → (free : List ℕ) → List Operation
releasing found made content pages free =
    rewrite_of (file_page content) found.page_size found.pages (made % 2 ^ 32) (released_changes (usable_of found) found.pages free (page_in pages))

-- the absent journals are made before it
abbrev pub making_first : Recovered → Content → List (List ℕ) → (free : List ℕ) → List Operation
making_first found content pages free =
    makings (absent_journals content) ++ releasing found (counted found.ops (length (absent_journals content))) content pages free

-- All operations were made, for all free pages, of which there are so many. The files are then idle over the new pages.
pub record IsWhole (found : Recovered) (pages : List (List ℕ)) (ops : List ℕ → List Operation) (old new : Option History) (count : ℕ) : Type 0 where
  pub free : List ℕ
  pub released_are : AreReleased found pages free
  pub counted_is : count ≡ length free
  pub made : Adds old new (ops free)
  pub idle : IfTold new (λ now. AreIdle found.page_size now (released found pages free))

-- the recovered pages are those before, or those with all free pages in stock form
abbrev pub IsOldOrNew : Recovered → (pages : List (List ℕ)) → (free : List ℕ) → Content → Type 0
IsOldOrNew found pages free now = Recovers now pages ⊎ (AreReleased found pages free × Recovers now (released found pages free))

-- what was made of the operations for some free pages is a beginning of them, and wherever a stop cuts it the recovered
-- pages are the old or the new ones
pub record IsPart (found : Recovered) (content : Content) (pages : List (List ℕ)) (ops : List ℕ → List Operation) (made : List Operation) : Type 0 where
  pub free : List ℕ
  pub front : IsCut (ops free) made
  pub covered : Covered content made
  pub stops : (cut : List Operation) → IsCut made cut → IsOldOrNew found pages free (after content cut)

-- no transaction is at work over the pages that were found
pub record AreResting (found : Recovered) (content : Content) (pages : List (List ℕ)) : Type 0 where
  pub idle : AreIdle found.page_size content pages
  pub counted_are : length pages ≡ found.pages
  pub reserved : (header_in pages).reserved ≡ found.reserved

pub record Rests (found : Recovered) (content : Content) : Type 0 where
  pub pages : List (List ℕ)
  pub are : AreResting found content pages

abbrev pub WhereResting : Option History → Recovered → (Content → List (List ℕ) → Type 0) → Type 0
WhereResting told found P = IfTold told (λ content. (pages : List (List ℕ)) → AreResting found content pages → P content pages)

-- changes that put all free pages in stock form, of which there are so many
pub record Plans (found : Recovered) (told : Option History) (count : ℕ) (changes : List Change) : Type 0 where
  pub free : List ℕ
  pub ascending : are_ascending 1 found.pages free ≡ true
  pub counted_is : count ≡ length free
  pub changes_are : WhereHeld told found (λ pages. changes ≡ released_changes (usable_of found) found.pages free pages)
  pub all : WhereHeld told found (λ pages. (db : Database) (stands : StandsFor (usable_of found) found.pages pages db) → AreSame free stands.listed)
