-- Files on which no transaction is at work, and pages that may be rewritten.
use Rattle.std.specs.Prelude.{◌≡◌, ℕ, ◌<◌, true, List, [], length, map, take, is_some, Some}
use Rattle.spe_model.specs.Content.{Content}
use Rattle.spe_model.specs.Covered.{Recovers}
use Rattle.spe_model.specs.Header.{is_size_valid}
use Rattle.spe_model.specs.Paging.{PageMap}
use Rattle.spe_model.specs.Recovery.{file_page, file_page_size, journal_of, pages_to}
use Rattle.spe_model.specs.Settled.{header_in, page_in}
use Rattle.spe_transactions.specs.Pages.{MayCommit}
use Rattle.spe_rewrite.specs.declared.change.Change.{Change}
use Rattle.spe_rewrite.specs.Changes.{changed}

-- the files are a database and sixteen journals; these pages are recovered from them; no journal has bytes
pub record AreIdle (page_size : ℕ) (content : Content) (pages : List (List ℕ)) : Type 0 where
  pub files : length content ≡ 17
  pub recovers : Recovers content pages
  pub sized : file_page_size content ≡ page_size
  pub held : map (file_page content) (pages_to (length pages)) ≡ pages
  pub quiet : (id : ℕ) → id < 16 → journal_of content id ≡ []

-- Pages may be laid over these: page 1 keeps its first 24 bytes; above the count a page is laid only where page 1 is too
-- and names the count; and page 1 then names no fewer pages, each of them one of these or laid.
pub record MayLay (page_size : ℕ) (pages : List (List ℕ)) (laid : PageMap) : Type 0 where
  pub front : (bytes : List ℕ) → laid 1 ≡ Some bytes → take 24 bytes ≡ take 24 (page_in pages 1)
  pub first : (p : ℕ) → length pages < p → is_some (laid p) ≡ true → is_some (laid 1) ≡ true
  pub counted : (p : ℕ) → length pages < p → is_some (laid p) ≡ true → is_size_valid (header_in pages) ≡ true
  pub commit : MayCommit pages laid page_size

-- the files are idle over so many pages, which may be changed so
pub record MayRewrite (page_size count : ℕ) (changes : List Change) (content : Content) : Type 0 where
  pub pages : List (List ℕ)
  pub idle : AreIdle page_size content pages
  pub count_is : length pages ≡ count
  pub lay : MayLay page_size pages (changed changes)
