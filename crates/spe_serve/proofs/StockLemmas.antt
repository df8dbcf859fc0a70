-- Free lists in stock form, whatever else recovery found.
use Rattle.std.proofs.Common.{◌≡◌, ℕ, ◌-◌, ◌%◌, ◌^◌, List, ◌++◌, length, take, true, false, Option, Some, None, Ok, refl, sym, ap, subst, ◌∙◌}
use Rattle.spe_model.specs.declared.header.Header.{Header}
use Rattle.spe_model.specs.declared.header.HeaderFault.{HeaderFault}
use Rattle.spe_model.specs.declared.recovery.Recovered.{Recovered}
use Rattle.spe_model.specs.Content.{Content}
use Rattle.spe_model.specs.Database.{Database}
use Rattle.spe_model.specs.FreeList.{names_node}
use Rattle.spe_model.specs.Header.{fields, header_of, unless}
use Rattle.spe_model.specs.Served.{HasHeader, usable_in}
use Rattle.spe_model.specs.Settled.{IsFound, header_in, page_in}
use Rattle.spe_model.specs.Standing.{StandsFor}
use Rattle.spe_model.specs.Trace.{Operation}
use Rattle.spe_crash.specs.Pages.{QuietIsWhole, RecoveredAreHeaded}
use Rattle.spe_frame.specs.Times.{AreSame}
use Rattle.spe_transactions.specs.Pages.{laid_pages}
use Rattle.spe_rewrite.specs.Changes.{changed}
use Rattle.spe_rewrite.specs.Idle.{AreIdle}
use Rattle.spe_rewrite.specs.Rewrite.{rewrite_of}
use Rattle.spe_rewrite.specs.Told.{counted}
use Rattle.spe_disk.specs.Told.{absent_journals, makings}
use Rattle.spe_model.specs.Recovery.{file_page}
use Rattle.spe_convert.specs.Changes.{released_changes}
use Rattle.spe_convert.specs.Reading.{are_ascending, usable_of}
use Rattle.spe_convert.specs.Release.{AreReleased, IsStockFor, making_first, released}
use Rattle.spe_serve.specs.Own.{StandForSame, StandOver, found_in}

-- what was found has the numbers that these pages name
pub record Names (found : Recovered) (pages : List (List ℕ)) : Type 0 where
  pub size : found.page_size ≡ (header_in pages).page_size
  pub rest : found.reserved ≡ (header_in pages).reserved
  pub count : found.pages ≡ length pages

pub found_names : (found : Recovered) (content : Content) (pages : List (List ℕ)) → IsFound found content pages → Names found pages
found_names found content pages is = record { size = sym is.page_size; rest = sym is.reserved; count = is.counted }

pub used_names : (found : Recovered) (pages : List (List ℕ)) → Names found pages → usable_of found ≡ usable_in (header_in pages)
used_names found pages names = rw (names.size, names.rest) refl

-- the same facts by numbers
abbrev released_by : (pages : List (List ℕ)) (free : List ℕ) (size rest count : ℕ) → List (List ℕ)
released_by pages free size rest count = laid_pages pages (changed (released_changes (size - rest) count free (page_in pages)))

pub record StockBy (free : List ℕ) (size rest count : ℕ) (later : List (List ℕ)) (db : Database) : Type 0 where
  pub number : length later ≡ count
  pub header : Header
  pub front : HasHeader count (page_in later) header
  pub size_is : header.page_size ≡ size
  pub used : usable_in header ≡ size - rest
  pub stock : names_node (page_in later 1) ≡ false
  pub stands : StandsFor (size - rest) count (page_in later) db
  pub free_are : AreSame free stands.listed

pub record ReleasedBy (pages : List (List ℕ)) (free : List ℕ) (size rest count : ℕ) : Type 0 where
  pub ascending : are_ascending 1 count free ≡ true
  pub all : (db : Database) (stands : StandsFor (size - rest) count (page_in pages) db) → AreSame free stands.listed
  pub keep : (db : Database) → StandsFor (size - rest) count (page_in pages) db → StockBy free size rest count (released_by pages free size rest count) db

abbrev pub ReleasedAs : (pages : List (List ℕ)) (free : List ℕ) → Recovered → Type 0
ReleasedAs pages free found = ReleasedBy pages free found.page_size found.reserved found.pages

out : (found : Recovered) (pages : List (List ℕ)) (free : List ℕ) → AreReleased found pages free → ReleasedAs pages free found
out found pages free are = record { ascending = are.ascending; all = are.all; keep = λ db stands. stock db (are.keep db stands) }
  where
    stock : (db : Database) → IsStockFor found free (released found pages free) db
        → StockBy free found.page_size found.reserved found.pages (released_by pages free found.page_size found.reserved found.pages) db
    stock db s = record {
      number = s.number;
      header = s.header;
      front = s.front;
      size_is = s.size;
      used = s.used;
      stock = s.stock;
      stands = s.stands;
      free_are = s.free_are;
    }

back : (found : Recovered) (pages : List (List ℕ)) (free : List ℕ) → ReleasedAs pages free found → AreReleased found pages free
back found pages free are = record { ascending = are.ascending; all = are.all; keep = λ db stands. stock db (are.keep db stands) }
  where
    stock : (db : Database) → StockBy free found.page_size found.reserved found.pages (released_by pages free found.page_size found.reserved found.pages) db
        → IsStockFor found free (released found pages free) db
    stock db s = record {
      number = s.number;
      header = s.header;
      front = s.front;
      size = s.size_is;
      used = s.used;
      stock = s.stock;
      stands = s.stands;
      free_are = s.free_are;
    }

-- what is said of the free pages rests on these numbers alone
pub moved : (a b : Recovered) (pages : List (List ℕ)) (free : List ℕ) → a.page_size ≡ b.page_size → a.reserved ≡ b.reserved → a.pages ≡ b.pages
    → AreReleased a pages free → AreReleased b pages free
moved a b pages free size rest count are =
    back b pages free
    (subst (λ (s : ℕ). ReleasedBy pages free s b.reserved b.pages) size
    (subst (λ (r : ℕ). ReleasedBy pages free a.page_size r b.pages) rest
    (subst (λ (n : ℕ). ReleasedBy pages free a.page_size a.reserved n) count (out a pages free are))))

pub released_as : (found : Recovered) (ops : ℕ) (pages : List (List ℕ)) (free : List ℕ) → Names found pages → released found pages free ≡ released (found_in ops pages) pages free
released_as found ops pages free names = rw (names.size, names.rest, names.count) refl

-- the operations by numbers
abbrev made_by : (size used count ops : ℕ) → Content → List (List ℕ) → List ℕ → List Operation
made_by size used count ops content pages free =
    makings (absent_journals content)
    ++ rewrite_of (file_page content) size count (counted ops (length (absent_journals content)) % 2 ^ 32) (released_changes used count free (page_in pages))

pub making_as : (found : Recovered) (ops : ℕ) (content : Content) (pages : List (List ℕ)) (free : List ℕ) → Names found pages → found.ops ≡ ops
    → making_first found content pages free ≡ making_first (found_in ops pages) content pages free
making_as found ops content pages free names same =
    ap (λ (s : ℕ). made_by s (usable_of found) found.pages found.ops content pages free) names.size
    ∙ ap (λ (u : ℕ). made_by (header_in pages).page_size u found.pages found.ops content pages free) (used_names found pages names)
    ∙ ap (λ (n : ℕ). made_by (header_in pages).page_size (usable_in (header_in pages)) n found.ops content pages free) names.count
    ∙ ap (λ (k : ℕ). made_by (header_in pages).page_size (usable_in (header_in pages)) (length pages) k content pages free) same

-- files that are idle over some pages hold these, and no journal has bytes
pub idle_found : (size : ℕ) (now : Content) (later : List (List ℕ)) → RecoveredAreHeaded → QuietIsWhole → AreIdle size now later → IsFound (found_in 0 later) now later
idle_found size now later headed whole idle =
    let head = headed now later idle.recovers in
    record {
      recovers = idle.recovers;
      counted = refl;
      sized = head.sized;
      legal = head.legal;
      page_size = refl;
      reserved = refl;
      node = refl;
      held = idle.held;
      whole = whole now later idle.recovers idle.quiet;
      quiet = idle.quiet;
    }

-- a header that is read is that of the fields
unless_is : (o : Option HeaderFault) (x h : Header) → unless o x ≡ Ok h → h ≡ x
unless_is None x h is = cc
unless_is (Some fault) x h is = absurd cc

pub header_is : (later : List (List ℕ)) (h : Header) → header_of (take 100 (page_in later 1)) ≡ Ok h → h ≡ header_in later
header_is later h is = unless_is _ (fields (take 100 (page_in later 1))) h is

-- the new pages stand for the database of the old ones
pub stand_same : (ops : ℕ) (pages later : List (List ℕ)) (free : List ℕ) (db : Database) → StandOver pages db
    → IsStockFor (found_in ops pages) free later db → StandForSame pages later
stand_same ops pages later free db before stock = record {
  db = db;
  before = before;
  now = subst (λ (n : ℕ). StandsFor (usable_in (header_in later)) n (page_in later) db) (sym stock.number)
      (subst (λ (u : ℕ). StandsFor u (length pages) (page_in later) db) (sym used ∙ ap usable_in (header_is later stock.header stock.front.legal)) stock.stands);
}
  where
    used : usable_in stock.header ≡ usable_in (header_in pages)
    used = stock.used
