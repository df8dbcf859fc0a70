-- Free lists that are put in server form: what is done, and what the files hold then.
use Rattle.std.specs.Prelude.{◌≡◌, ◌⊎◌, ℕ, ◌+◌, ◌*◌, ◌%◌, ◌^◌, nat_lt, ◌&&◌, Bool, true, false, List, [], ◌++◌, length, take, Option, Result, Ok, Err, if◌then◌else◌}
use Rattle.spe_model.specs.declared.header.Header.{Header}
use Rattle.spe_model.specs.declared.recovery.Recovered.{Recovered}
use Rattle.spe_model.specs.Big.{u32_at}
use Rattle.spe_model.specs.Content.{Content}
use Rattle.spe_model.specs.Covered.{Covered, Recovers}
use Rattle.spe_model.specs.Database.{Database}
use Rattle.spe_model.specs.FreeList.{is_list_count, names_node}
use Rattle.spe_model.specs.Header.{fields, is_size_valid}
use Rattle.spe_model.specs.Paging.{Paging}
use Rattle.spe_model.specs.Served.{HasHeader, IsPrepared, usable_in}
use Rattle.spe_model.specs.Settled.{page_in}
use Rattle.spe_model.specs.Standing.{StandsFor}
use Rattle.spe_model.specs.Trace.{History, IsCut, Operation, after}
use Rattle.spe_model.specs.Walk.{is_one_of}
use Rattle.spe_disk.specs.Told.{Adds, absent_journals, makings}
use Rattle.spe_frame.specs.Times.{AreSame}
use Rattle.spe_transactions.specs.Pages.{laid_pages}
use Rattle.spe_rewrite.specs.declared.change.Change.{Change}
use Rattle.spe_rewrite.specs.Changes.{changed}
use Rattle.spe_rewrite.specs.Idle.{AreIdle}
use Rattle.spe_rewrite.specs.Rewrite.{rewrite_of}
use Rattle.spe_disk.specs.Added.{IfTold}
use Rattle.spe_rewrite.specs.Told.{counted}
use Rattle.spe_convert.specs.declared.fault.ConvertFault.{ConvertFault}
use Rattle.spe_convert.specs.declared.fault.ConvertFault.TheVariants.{Corrupt, Full, Prepared}
use Rattle.spe_convert.specs.Changes.{added, counted_changes, prepared_changes, supply}
use Rattle.spe_convert.specs.Free.{IsDamage}
use Rattle.spe_convert.specs.Reading.{WhereHeld, are_ascending, usable_of}

-- the page count that page 1 names counts
abbrev pub is_counted : Paging → Bool
is_counted pages = is_size_valid (fields (take 100 (pages 1)))

-- what changes so that it counts: page 1, and nothing where it counts
abbrev pub count_changes : (count : ℕ) → Paging → List Change
count_changes count pages = if is_counted pages then [] else counted_changes count pages

-- the pages then
abbrev pub with_count : Recovered → List (List ℕ) → List (List ℕ)
with_count found pages = laid_pages pages (changed (count_changes found.pages (page_in pages)))

-- what changes where these free pages are put in server form, in so many lists
abbrev pub server_form : Recovered → (lists : ℕ) → List (List ℕ) → (free : List ℕ) → List Change
server_form found lists pages free = prepared_changes found.page_size (usable_of found) found.pages lists free (page_in pages)

-- the pages then
abbrev pub prepared : Recovered → (lists : ℕ) → List (List ℕ) → (free : List ℕ) → List (List ℕ)
prepared found lists pages free = laid_pages pages (changed (server_form found lists pages free))

-- how many pages there are then
abbrev pub prepared_count : Recovered → (lists : ℕ) → (free : List ℕ) → ℕ
prepared_count found lists free = found.pages + added found.pages lists free

-- they would take the file past its limit
abbrev pub is_over : Recovered → (lists : ℕ) → (free : List ℕ) → Bool
is_over found lists free = nat_lt (2 ^ 30) (prepared_count found lists free * found.page_size)

-- So many pages stand for a database, and page 1 names their number.
pub record IsCountedFor (found : Recovered) (count : ℕ) (pages : List (List ℕ)) (db : Database) : Type 0 where
  pub number : length pages ≡ count
  pub header : Header
  pub front : HasHeader count (page_in pages) header
  pub size : header.page_size ≡ found.page_size
  pub used : usable_in header ≡ usable_of found
  pub stands : StandsFor (usable_of found) count (page_in pages) db

-- they are prepared, in so many lists, and these are their free pages, the new ones among them
pub record IsServerFor (found : Recovered) (lists : ℕ) (free : List ℕ) (pages : List (List ℕ)) (db : Database) : Type 0 where
  pub is : IsCountedFor found (prepared_count found lists free) pages db
  pub prepared_are : IsPrepared (page_in pages)
  pub lists_are : u32_at (page_in pages (u32_at (page_in pages 1) 32)) 0 ≡ lists
  pub free_are : AreSame (supply found.pages lists free) is.stands.listed

-- Pages in stock form, and numbers that ascend and are all free pages where the pages stand. There is room for the pages that are
-- added. With these free pages in server form the pages stand for the same database.
pub record ArePrepared (found : Recovered) (lists : ℕ) (pages : List (List ℕ)) (free : List ℕ) : Type 0 where
  pub ascending : are_ascending 1 found.pages free ≡ true
  pub stock : names_node (page_in pages 1) ≡ false
  pub fits : is_over found lists free ≡ false
  pub all : (db : Database) (stands : StandsFor (usable_of found) found.pages (page_in pages) db) → AreSame free stands.listed
  pub keep : (db : Database) → StandsFor (usable_of found) found.pages (page_in pages) db → IsServerFor found lists free (prepared found lists pages free) db

-- with a page count that counts they stand for it too
abbrev pub CountKept : Recovered → (pages : List (List ℕ)) → Type 0
CountKept found pages = (db : Database) → StandsFor (usable_of found) found.pages (page_in pages) db → IsCountedFor found found.pages (with_count found pages) db

-- the operations of the first transaction, where so many were made before it; none where the page count counts
abbrev pub counting : Recovered → (made : ℕ) → List (List ℕ) → List Operation
counting found made pages = rewrite_of (page_in pages) found.page_size found.pages (made % 2 ^ 32) (count_changes found.pages (page_in pages))

-- those of the second
abbrev pub serving : Recovered → (lists made : ℕ) → List (List ℕ) → (free : List ℕ) → List Operation
serving found lists made pages free = rewrite_of (page_in (with_count found pages)) found.page_size found.pages (made % 2 ^ 32) (server_form found lists pages free)

-- those of both
abbrev pub preparing : Recovered → (lists made : ℕ) → List (List ℕ) → (free : List ℕ) → List Operation
preparing found lists made pages free =
    counting found made pages ++ serving found lists (counted made (length (counting found made pages))) pages free

-- the absent journals are made before them
abbrev pub making_and_preparing : Recovered → (lists : ℕ) → Content → List (List ℕ) → (free : List ℕ) → List Operation
making_and_preparing found lists content pages free =
    makings (absent_journals content) ++ preparing found lists (counted found.ops (length (absent_journals content))) pages free

-- All operations were made, for all free pages. The files are then idle over the new pages, of which there are so many.
pub record IsAllPrepared (found : Recovered) (lists : ℕ) (pages : List (List ℕ)) (ops : List ℕ → List Operation) (old new : Option History) (count : ℕ) : Type 0 where
  pub free : List ℕ
  pub prepared_are : ArePrepared found lists pages free
  pub counted_is : count ≡ prepared_count found lists free
  pub made : Adds old new (ops free)
  pub idle : IfTold new (λ now. AreIdle found.page_size now (prepared found lists pages free))

-- the recovered pages are those before, those with a page count that counts, or those with these free pages in server form
abbrev pub IsOneOfThree : Recovered → (lists : ℕ) → (pages : List (List ℕ)) → (free : List ℕ) → Content → Type 0
IsOneOfThree found lists pages free now =
    Recovers now pages ⊎ Recovers now (with_count found pages) ⊎ Recovers now (prepared found lists pages free)

-- what was made is a beginning of the operations for all free pages, and wherever a stop cuts it the recovered pages are one
-- of the three
pub record IsPartPrepared (found : Recovered) (lists : ℕ) (content : Content) (pages : List (List ℕ)) (ops : List ℕ → List Operation) (made : List Operation) : Type 0 where
  pub free : List ℕ
  pub prepared_are : ArePrepared found lists pages free
  pub count_kept : CountKept found pages
  pub front : IsCut (ops free) made
  pub covered : Covered content made
  pub stops : (cut : List Operation) → IsCut made cut → IsOneOfThree found lists pages free (after content cut)

-- nothing was made, or such a part
abbrev pub IsNoneOrPart : Recovered → (lists : ℕ) → Content → List (List ℕ) → (ops : List ℕ → List Operation) → (made : List Operation) → Type 0
IsNoneOrPart found lists content pages ops made = (made ≡ []) ⊎ IsPartPrepared found lists content pages ops made

-- changes that put all free pages of pages in stock form in server form, after which there are so many pages
pub record PlansServer (found : Recovered) (lists : ℕ) (told : Option History) (count : ℕ) (first second : List Change) : Type 0 where
  pub free : List ℕ
  pub ascending : are_ascending 1 found.pages free ≡ true
  pub fits : is_over found lists free ≡ false
  pub counted_is : count ≡ prepared_count found lists free
  pub first_are : WhereHeld told found (λ pages. first ≡ count_changes found.pages pages)
  pub second_are : WhereHeld told found (λ pages. second ≡ prepared_changes found.page_size (usable_of found) found.pages lists free pages)
  pub all : WhereHeld told found (λ pages. (db : Database) (stands : StandsFor (usable_of found) found.pages pages db) → AreSame free stands.listed)
  pub stock : WhereHeld told found (λ pages. names_node (pages 1) ≡ false)

-- the pages are too many exactly where the pages to be added take the file past its limit; nothing is said where the disk
-- failed, and so on
abbrev pub IsFullExactly : Recovered → (lists : ℕ) → (free : List ℕ) → Result ℕ ConvertFault → Type 0
IsFullExactly found lists free (Ok count) = is_over found lists free ≡ false
IsFullExactly found lists free (Err (Full pages)) = (pages ≡ found.pages) × (is_over found lists free ≡ true)
IsFullExactly found lists free (Err fault) = Unit {0}

-- where pages stand
abbrev pub IsFullWhere : Recovered → (lists : ℕ) → Result ℕ ConvertFault → Paging → Type 0
IsFullWhere found lists result pages = (db : Database) (stands : StandsFor (usable_of found) found.pages pages db) → IsFullExactly found lists stands.listed result

-- the free lists are in server form exactly where the pages are prepared; nothing is said where the disk failed, or there
-- was no memory
abbrev pub IsPreparedExactly : Result ℕ ConvertFault → Paging → Type 0
IsPreparedExactly (Ok count) pages = IsPrepared pages → ⊥
IsPreparedExactly (Err Prepared) pages = IsPrepared pages
IsPreparedExactly (Err (Full n)) pages = IsPrepared pages → ⊥
IsPreparedExactly (Err (Corrupt n)) pages = IsPrepared pages → ⊥
IsPreparedExactly (Err fault) pages = Unit {0}

-- page 1 names a page that names 1 to 16 lists
abbrev pub is_server : (count : ℕ) → Paging → Bool
is_server count pages = is_one_of count (u32_at (pages 1) 32) && is_list_count (u32_at (pages (u32_at (pages 1) 32)) 0)

-- Why free lists are refused before anything is done, and what is so where they are not.
abbrev pub Refuses : {T : Type 0} → Recovered → (lists : ℕ) → Result T ConvertFault → Paging → Type 0
Refuses found lists (Ok x) pages = names_node (pages 1) ≡ false
Refuses found lists (Err Prepared) pages = (names_node (pages 1) ≡ true) × (is_server found.pages pages ≡ true)
Refuses found lists (Err (Corrupt n)) pages = ((names_node (pages 1) ≡ false) ⊎ (is_server found.pages pages ≡ false)) × IsDamage (usable_of found) found.pages (Corrupt n) pages
Refuses found lists (Err (Full n)) pages =
    (names_node (pages 1) ≡ false) × (n ≡ found.pages)
    × ((db : Database) (stands : StandsFor (usable_of found) found.pages pages db) → is_over found lists stands.listed ≡ true)
Refuses found lists (Err fault) pages = Unit {0}

-- how many pages are to be added, or too many
abbrev pub HasRoomFor : Recovered → (lists : ℕ) → (free : List ℕ) → Result ℕ ConvertFault → Type 0
HasRoomFor found lists free (Ok more) = (more ≡ added found.pages lists free) × (is_over found lists free ≡ false)
HasRoomFor found lists free (Err (Full n)) = (n ≡ found.pages) × (is_over found lists free ≡ true)
HasRoomFor found lists free (Err fault) = ⊥
