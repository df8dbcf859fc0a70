-- What is answered over the pages of a space, whatever they are below it, as long as they agree with all that was given.
use Rattle.std.specs.Prelude.{◌≡◌, ◌⊎◌, ◌==◌, ◌&&◌, ℕ, ◌<◌, ◌^◌, Bool, true, List, [], take, All, Option, None, Result, Ok, Err, IfErr, IfSome, is_some}
use Rattle.std.specs.List.{find}
use Rattle.spe_model.specs.declared.catalog.Entry.{Entry}
use Rattle.spe_model.specs.declared.header.Header.{Header}
use Rattle.spe_model.specs.Agree.{agree}
use Rattle.spe_model.specs.Database.{Database, Row}
use Rattle.spe_model.specs.Header.{header_of}
use Rattle.spe_model.specs.Paging.{Paging, Agrees}
use Rattle.spe_model.specs.Served.{usable_in}
use Rattle.spe_model.specs.Standing.{AreTableRows, StandsFor, Whether, all_pages}
use Rattle.spe_model.specs.Tree.{IsTableTree, tree_rows}
use Rattle.spe_space.specs.Calls.{sight}
use Rattle.spe_space.specs.Found.{OnMissing}
use Rattle.spe_space.specs.Outcome.{IsInside}
use Rattle.spe_space.specs.declared.fault.TreeFault.{TreeFault}
use Rattle.spe_space.specs.declared.fault.TreeFault.TheVariants.{Space, Corrupt}
use Rattle.spe_space.specs.declared.pages.Pages.{Ghosts}
use Rattle.spe_search.specs.declared.pairs.Pair.{Pair}
use Rattle.spe_search.specs.Found.{HasDamage}
use Rattle.spe_search.specs.Leaves.{IsRead}
use Rattle.spe_search.specs.Pairs.{pair_seen}
use Rattle.spe_catalog.specs.Reader.{HasSchemaCause}
use Rattle.spe_words.specs.declared.command.Command.{Command}
use Rattle.spe_words.specs.declared.command.Command.TheVariants as commands
use Rattle.spe_serve.specs.declared.reply.Reply.{Reply}
use Rattle.spe_serve.specs.declared.reply.Reply.TheVariants as replies
use Rattle.spe_serve.specs.Answer.{IsOverPages, reply_of_rows}
use Rattle.spe_serve.specs.Row.{row_of}

-- the answer is such, or the space refused; nothing is corrupt
abbrev pub Undamaged : {X : Type 0} → (X → Type 0) → Result X TreeFault → Type 0
Undamaged P (Ok x) = P x
Undamaged P (Err (Space f)) = Unit {0}
Undamaged P (Err (Corrupt page)) = ⊥

-- damage is named of page 1 alone
abbrev pub IsOfFront : TreeFault → Type 0
IsOfFront (Space f) = Unit {0}
IsOfFront (Corrupt page) = page ≡ 1

-- `check` names damage of page 1 alone, and asks for no page but one of so many
abbrev pub IsFaultAbout : Command → (count : ℕ) → TreeFault → Type 0
IsFaultAbout (commands.Check db) count fault = IsOfFront fault × OnMissing (IsInside count) fault
IsFaultAbout _ count fault = Unit {0}

-- page 1 has a legal header, which names pages of this size and of so many used bytes
pub record HasFront (size used : ℕ) (pages : Paging) : Type 0 where
  pub header : Header
  pub legal : header_of (take 100 (pages 1)) ≡ Ok header
  pub size_is : header.page_size ≡ size
  pub used_is : usable_in header ≡ used

-- a header says so
abbrev pub names_front : Header → (size used : ℕ) → Bool
names_front header size used = (header.page_size == size) && (usable_in header == used)

-- the header is that of page 1, where there is a legal one
abbrev pub GivesFront : {P : Type 0} (g : Ghosts P) (early late : P) → Result Header TreeFault → Type 0
GivesFront g early late result =
    (pages : Paging) → Agrees pages (g.seen late) → (header : Header) → header_of (take 100 (sight g early pages 1)) ≡ Ok header
    → Undamaged (λ found. found ≡ header) result

-- over pages with such a front
abbrev pub GivesOver : {P X : Type 0} (g : Ghosts P) (early late : P) → (Paging → X → Type 0) → Result X TreeFault → Type 0
GivesOver g early late What result =
    (pages : Paging) → Agrees pages (g.seen late) → HasFront (g.size early) (g.used early) (sight g early pages) → Undamaged (What (sight g early pages)) result

-- over pages that stand for a database
abbrev pub GivesStanding : {P X : Type 0} (g : Ghosts P) (early late : P) → (Database → X → Type 0) → Result X TreeFault → Type 0
GivesStanding g early late What result =
    (pages : Paging) → Agrees pages (g.seen late) → (count : ℕ) (db : Database) → count < 2 ^ 32 → StandsFor (g.used early) count (sight g early pages) db
    → Undamaged (What db) result

abbrev pub is_named : List ℕ → Entry → Bool
is_named name entry = agree entry.table.name name

-- the first table of a name
abbrev pub entry_named : List ℕ → List Entry → Option Entry
entry_named name entries = find (is_named name) entries

-- the rows of a table, as its tree has them
pub record AreRowsOf (usable : ℕ) (pages : Paging) (entry : Entry) (rows : List Row) : Type 0 where
  pub height : ℕ
  pub tree : IsTableTree usable pages height entry.root
  pub rows_are : AreTableRows entry.table (tree_rows usable pages height entry.root) rows

-- a closed table has none that count
abbrev pub HoldsRows : (usable : ℕ) (pages : Paging) (entry : Entry) (rows : List Row) → Type 0
HoldsRows usable pages entry rows = Whether (is_some entry.table.closed) (rows ≡ []) (AreRowsOf usable pages entry rows)

-- over the rows of an open table
abbrev pub GivesRows : {P : Type 0} (g : Ghosts P) (early late : P) (entry : Entry) (result : Result Reply TreeFault) → Type 0
GivesRows g early late entry result =
    (pages : Paging) → Agrees pages (g.seen late) → (rows : List Row) → AreRowsOf (g.used early) (sight g early pages) entry rows
    → Undamaged (λ reply. reply ≡ replies.Rows rows) result

-- a row of a table, as the leaf of this number shows it, is damaged or has too many fields
pub record HasBadRecord (usable : ℕ) (pages : Paging) (entry : Entry) (at : ℕ) : Type 0 where
  pub row : Pair
  pub leaf_is : row.leaf ≡ at
  pub read : IsRead usable pages 20 entry.root row
  pub bad : row_of entry.table (pair_seen row) ≡ None

abbrev pub HasRowsCause : {X : Type 0} (usable : ℕ) (pages : Paging) (entry : Entry) → Result X TreeFault → Type 0
HasRowsCause usable pages entry (Ok x) = Unit {0}
HasRowsCause usable pages entry (Err (Space f)) = Unit {0}
HasRowsCause {X} usable pages entry (Err (Corrupt at)) = HasBadRecord usable pages entry at ⊎ HasDamage {X = X} usable pages entry.root 20 (Err (Corrupt at))

-- Corrupt comes only for the leaf of such a row, or as of a walk over the table's tree
abbrev pub NamesRows : {P X : Type 0} (g : Ghosts P) (early late : P) (entry : Entry) (result : Result X TreeFault) → Type 0
NamesRows g early late entry result = (pages : Paging) → Agrees pages (g.seen late) → HasRowsCause (g.used early) (sight g early pages) entry result

abbrev pub HasTableCause : {X : Type 0} (usable : ℕ) (pages : Paging) (name : List ℕ) → Result X TreeFault → Type 0
HasTableCause usable pages name (Ok x) = Unit {0}
HasTableCause usable pages name (Err (Space f)) = Unit {0}
HasTableCause {X} usable pages name (Err (Corrupt at)) =
    HasSchemaCause {X = X} usable pages (Err (Corrupt at)) ⊎ ((entry : Entry) × (is_named name entry ≡ true) × HasRowsCause {X = X} usable pages entry (Err (Corrupt at)))

-- the same, or as of the catalog
abbrev pub NamesTable : {P X : Type 0} (g : Ghosts P) (early late : P) (name : List ℕ) (result : Result X TreeFault) → Type 0
NamesTable g early late name result = (pages : Paging) → Agrees pages (g.seen late) → HasTableCause (g.used early) (sight g early pages) name result

-- over a table, open or closed
abbrev pub GivesTable : {P : Type 0} (g : Ghosts P) (early late : P) (entry : Entry) (result : Result Reply TreeFault) → Type 0
GivesTable g early late entry result =
    (pages : Paging) → Agrees pages (g.seen late) → (rows : List Row) → HoldsRows (g.used early) (sight g early pages) entry rows
    → Undamaged (λ reply. reply ≡ reply_of_rows rows entry.table.closed) result

-- a page that is asked for and is none of the space's is one of so many
abbrev pub AsksInside : {X : Type 0} → (count : ℕ) → Result X TreeFault → Type 0
AsksInside count result = IfErr result (OnMissing (IsInside count))

-- the tree of a table, all pages of which are among so many
pub record GrowsInside (usable count : ℕ) (pages : Paging) (root : ℕ) : Type 0 where
  pub height : ℕ
  pub tree : IsTableTree usable pages height root
  pub within : All (IsInside count) (all_pages usable pages height root)

-- over the tree of an open table
abbrev pub AsksOfRows : {P : Type 0} (g : Ghosts P) (early late : P) (entry : Entry) (result : Result Reply TreeFault) → Type 0
AsksOfRows g early late entry result =
    (pages : Paging) → Agrees pages (g.seen late) → (count : ℕ) → GrowsInside (g.used early) count (sight g early pages) entry.root → AsksInside count result

-- over a table, which need have a tree only where it is open
abbrev pub AsksOfTable : {P : Type 0} (g : Ghosts P) (early late : P) (entry : Entry) (result : Result Reply TreeFault) → Type 0
AsksOfTable g early late entry result =
    (pages : Paging) → Agrees pages (g.seen late)
    → (count : ℕ) → Whether (is_some entry.table.closed) (Unit {0}) (GrowsInside (g.used early) count (sight g early pages) entry.root) → AsksInside count result

-- over pages that stand for a database
abbrev pub AsksStanding : {P : Type 0} (g : Ghosts P) (early late : P) (result : Result Reply TreeFault) → Type 0
AsksStanding g early late result =
    (pages : Paging) → Agrees pages (g.seen late) → (count : ℕ) (db : Database) → StandsFor (g.used early) count (sight g early pages) db → AsksInside count result

-- over pages with the front that was found
abbrev pub AsksOver : {P : Type 0} (g : Ghosts P) (early late : P) (count : ℕ) (result : Result Reply TreeFault) → Type 0
AsksOver g early late count result =
    (pages : Paging) → Agrees pages (g.seen late) → HasFront (g.size early) (g.used early) (sight g early pages) → AsksInside count result

-- over the pages that a space tells
abbrev pub AsksTold : {P : Type 0} (g : Ghosts P) (early : P) (count : ℕ) (result : Result Reply TreeFault) → Type 0
AsksTold g early count result = IfSome (g.told early) (λ pages. HasFront (g.size early) (g.used early) (sight g early pages) → AsksInside count result)

-- the answer to a command over the pages that a space tells
abbrev pub AnswersTold : {P : Type 0} (g : Ghosts P) (early : P) (c : Command) (count : ℕ) (result : Result Reply TreeFault) → Type 0
AnswersTold g early c count result =
    IfSome (g.told early)
    (λ pages. HasFront (g.size early) (g.used early) (sight g early pages) → Undamaged (IsOverPages c (g.used early) count (sight g early pages)) result)
