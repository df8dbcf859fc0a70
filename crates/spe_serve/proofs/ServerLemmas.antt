-- Free lists in server form, whatever else recovery found.
use Rattle.std.proofs.Common.{◌≡◌, ℕ, ◌+◌, ◌-◌, ◌*◌, ◌%◌, ◌^◌, List, ◌++◌, length, true, false, sym, ap, subst, ◌∙◌}
use Rattle.std.specs.Prelude.{nat_lt}
use Rattle.spe_model.specs.declared.header.Header.{Header}
use Rattle.spe_model.specs.declared.recovery.Recovered.{Recovered}
use Rattle.spe_model.specs.Big.{u32_at}
use Rattle.spe_model.specs.Content.{Content}
use Rattle.spe_model.specs.Database.{Database}
use Rattle.spe_model.specs.FreeList.{names_node}
use Rattle.spe_model.specs.Served.{HasHeader, IsPrepared, usable_in}
use Rattle.spe_model.specs.Settled.{header_in, page_in}
use Rattle.spe_model.specs.Standing.{StandsFor}
use Rattle.spe_model.specs.Trace.{Operation}
use Rattle.spe_disk.specs.Told.{absent_journals, makings}
use Rattle.spe_frame.specs.Times.{AreSame}
use Rattle.spe_transactions.specs.Pages.{laid_pages}
use Rattle.spe_rewrite.specs.Changes.{changed}
use Rattle.spe_rewrite.specs.Rewrite.{rewrite_of}
use Rattle.spe_rewrite.specs.Told.{counted}
use Rattle.spe_convert.specs.Changes.{added, prepared_changes, supply}
use Rattle.spe_convert.specs.Prepare.{ArePrepared, IsCountedFor, IsServerFor, count_changes, making_and_preparing, prepared, with_count}
use Rattle.spe_convert.specs.Reading.{are_ascending, usable_of}
use Rattle.spe_serve.specs.Own.{StandForSame, StandOver, found_in}
use Rattle.spe_serve.proofs.StockLemmas.{Names, header_is, used_names}

-- the same facts by numbers
abbrev prepared_by : (pages : List (List ℕ)) (lists : ℕ) (free : List ℕ) (size used count : ℕ) → List (List ℕ)
prepared_by pages lists free size used count = laid_pages pages (changed (prepared_changes size used count lists free (page_in pages)))

pub record CountedBy (size rest number : ℕ) (later : List (List ℕ)) (db : Database) : Type 0 where
  pub number_is : length later ≡ number
  pub header : Header
  pub front : HasHeader number (page_in later) header
  pub size_is : header.page_size ≡ size
  pub used : usable_in header ≡ size - rest
  pub stands : StandsFor (size - rest) number (page_in later) db

pub record ServerBy (lists : ℕ) (free : List ℕ) (size rest count : ℕ) (later : List (List ℕ)) (db : Database) : Type 0 where
  pub is : CountedBy size rest (count + added count lists free) later db
  pub prepared_are : IsPrepared (page_in later)
  pub lists_are : u32_at (page_in later (u32_at (page_in later 1) 32)) 0 ≡ lists
  pub free_are : AreSame (supply count lists free) is.stands.listed

pub record PreparedBy (lists : ℕ) (pages : List (List ℕ)) (free : List ℕ) (size rest count : ℕ) : Type 0 where
  pub ascending : are_ascending 1 count free ≡ true
  pub stock : names_node (page_in pages 1) ≡ false
  pub fits : nat_lt (2 ^ 30) ((count + added count lists free) * size) ≡ false
  pub all : (db : Database) (stands : StandsFor (size - rest) count (page_in pages) db) → AreSame free stands.listed
  pub keep : (db : Database) → StandsFor (size - rest) count (page_in pages) db → ServerBy lists free size rest count (prepared_by pages lists free size (size - rest) count) db

abbrev pub PreparedAs : (lists : ℕ) (pages : List (List ℕ)) (free : List ℕ) → Recovered → Type 0
PreparedAs lists pages free found = PreparedBy lists pages free found.page_size found.reserved found.pages

out : (found : Recovered) (lists : ℕ) (pages : List (List ℕ)) (free : List ℕ) → ArePrepared found lists pages free → PreparedAs lists pages free found
out found lists pages free are = record { ascending = are.ascending; stock = are.stock; fits = are.fits; all = are.all; keep = λ db stands. server db (are.keep db stands) }
  where
    server : (db : Database) → IsServerFor found lists free (prepared found lists pages free) db
        → ServerBy lists free found.page_size found.reserved found.pages (prepared_by pages lists free found.page_size (found.page_size - found.reserved) found.pages) db
    server db s = record {
      is = record {
        number_is = s.is.number;
        header = s.is.header;
        front = s.is.front;
        size_is = s.is.size;
        used = s.is.used;
        stands = s.is.stands;
      };
      prepared_are = s.prepared_are;
      lists_are = s.lists_are;
      free_are = s.free_are;
    }

back : (found : Recovered) (lists : ℕ) (pages : List (List ℕ)) (free : List ℕ) → PreparedAs lists pages free found → ArePrepared found lists pages free
back found lists pages free are = record { ascending = are.ascending; stock = are.stock; fits = are.fits; all = are.all; keep = λ db stands. server db (are.keep db stands) }
  where
    server : (db : Database) → ServerBy lists free found.page_size found.reserved found.pages (prepared_by pages lists free found.page_size (found.page_size - found.reserved) found.pages) db
        → IsServerFor found lists free (prepared found lists pages free) db
    server db s = record {
      is = record {
        number = s.is.number_is;
        header = s.is.header;
        front = s.is.front;
        size = s.is.size_is;
        used = s.is.used;
        stands = s.is.stands;
      };
      prepared_are = s.prepared_are;
      lists_are = s.lists_are;
      free_are = s.free_are;
    }

-- what is said of the free pages rests on these numbers alone
pub moved : (a b : Recovered) (lists : ℕ) (pages : List (List ℕ)) (free : List ℕ) → a.page_size ≡ b.page_size → a.reserved ≡ b.reserved → a.pages ≡ b.pages
    → ArePrepared a lists pages free → ArePrepared b lists pages free
moved a b lists pages free size rest count are =
    back b lists pages free
    (subst (λ (s : ℕ). PreparedBy lists pages free s b.reserved b.pages) size
    (subst (λ (r : ℕ). PreparedBy lists pages free a.page_size r b.pages) rest
    (subst (λ (n : ℕ). PreparedBy lists pages free a.page_size a.reserved n) count (out a lists pages free are))))

pub in_found : (found : Recovered) (lists : ℕ) (pages : List (List ℕ)) (free : List ℕ) → Names found pages → ArePrepared found lists pages free → ArePrepared (found_in 0 pages) lists pages free
in_found found lists pages free names are = moved found (found_in 0 pages) lists pages free names.size names.rest names.count are

pub prepared_as : (found : Recovered) (lists : ℕ) (pages : List (List ℕ)) (free : List ℕ) → Names found pages
    → prepared found lists pages free ≡ prepared (found_in 0 pages) lists pages free
prepared_as found lists pages free names =
    ap (λ (s : ℕ). prepared_by pages lists free s (usable_of found) found.pages) names.size
    ∙ ap (λ (u : ℕ). prepared_by pages lists free (header_in pages).page_size u found.pages) (used_names found pages names)
    ∙ ap (λ (n : ℕ). prepared_by pages lists free (header_in pages).page_size (usable_in (header_in pages)) n) names.count

pub counted_as : (found : Recovered) (pages : List (List ℕ)) → Names found pages → with_count found pages ≡ with_count (found_in 0 pages) pages
counted_as found pages names = ap (λ (n : ℕ). laid_pages pages (changed (count_changes n (page_in pages)))) names.count

-- the operations by numbers
abbrev counting_by : (size count made : ℕ) → List (List ℕ) → List Operation
counting_by size count made pages = rewrite_of (page_in pages) size count (made % 2 ^ 32) (count_changes count (page_in pages))

abbrev serving_by : (size used count lists made : ℕ) → List (List ℕ) → List ℕ → List Operation
serving_by size used count lists made pages free =
    rewrite_of (page_in (laid_pages pages (changed (count_changes count (page_in pages))))) size count (made % 2 ^ 32) (prepared_changes size used count lists free (page_in pages))

abbrev both_by : (size used count lists made : ℕ) → List (List ℕ) → List ℕ → List Operation
both_by size used count lists made pages free =
    counting_by size count made pages ++ serving_by size used count lists (counted made (length (counting_by size count made pages))) pages free

abbrev making_by : (size used count ops lists : ℕ) → Content → List (List ℕ) → List ℕ → List Operation
making_by size used count ops lists content pages free =
    makings (absent_journals content) ++ both_by size used count lists (counted ops (length (absent_journals content))) pages free

pub making_as : (found : Recovered) (ops lists : ℕ) (content : Content) (pages : List (List ℕ)) (free : List ℕ) → Names found pages → found.ops ≡ ops
    → making_and_preparing found lists content pages free ≡ making_and_preparing (found_in ops pages) lists content pages free
making_as found ops lists content pages free names same =
    ap (λ (s : ℕ). making_by s (usable_of found) found.pages found.ops lists content pages free) names.size
    ∙ ap (λ (u : ℕ). making_by (header_in pages).page_size u found.pages found.ops lists content pages free) (used_names found pages names)
    ∙ ap (λ (n : ℕ). making_by (header_in pages).page_size (usable_in (header_in pages)) n found.ops lists content pages free) names.count
    ∙ ap (λ (k : ℕ). making_by (header_in pages).page_size (usable_in (header_in pages)) (length pages) k lists content pages free) same

-- the new pages stand for the database of the old ones
pub counted_same : (found : Recovered) (count : ℕ) (pages later : List (List ℕ)) (db : Database) → StandOver pages db → IsCountedFor found count later db → StandForSame pages later
counted_same found count pages later db before is = record {
  db = db;
  before = before;
  now = subst (λ (n : ℕ). StandsFor (usable_in (header_in later)) n (page_in later) db) (sym is.number)
      (subst (λ (u : ℕ). StandsFor u count (page_in later) db) (sym is.used ∙ ap usable_in (header_is later is.header is.front.legal)) is.stands);
}
