-- Free pages of a database file that is only read.
use Rattle.std.specs.Prelude.{◌≡◌, ℕ, List, All, IsTrue}
use Rattle.spe_model.specs.Paging.{Paging}
use Rattle.spe_model.specs.Standing.{FreeChain, AreFree, AreDistinct, IsOneOf}
use Rattle.spe_model.specs.Verdict.{free_pages}
use Rattle.spe_model.specs.Walk.{is_met}
use Rattle.spe_space.specs.Free.{IsLaterPage}
use Rattle.spe_space.specs.Front.{number_in}

-- page 1 names the number of pages; the free lists are whole and have no page twice, and all free pages lie behind page 1
pub record AreListed (usable count : ℕ) (pages : Paging) : Type 0 where
  pub number : number_in pages ≡ count
  pub lists : List FreeChain
  pub listed : List ℕ
  pub free : AreFree usable pages lists listed
  pub distinct : AreDistinct listed
  pub within : All (IsOneOf count) listed
  pub later : (n : ℕ) → IsTrue (is_met (free_pages count pages) n) → IsLaterPage (number_in pages) n
