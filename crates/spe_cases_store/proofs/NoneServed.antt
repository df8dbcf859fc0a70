-- No pages are served where no free list was read.
use Rattle.std.proofs.Common.{◌≡◌, ℕ, zero, suc, [], true}
use Rattle.std.specs.Prelude.{map}
use Rattle.spe_model.specs.Database.{Database}
use Rattle.spe_model.specs.FreeList.{is_list_count}
use Rattle.spe_model.specs.Journal.{numbers_from}
use Rattle.spe_model.specs.Justified.{Asked, Justified, Opening, ServedSince}
use Rattle.spe_model.specs.Paging.{Given, PageMap, Paging}

abbrev pub no_lists : Opening
no_lists = record { usable = 0; catalog = []; trunks = [] }

none_listed : (f : ℕ → ℕ) (n : ℕ) → is_list_count n ≡ true → map f (numbers_from 0 n) ≡ [] → ⊥
none_listed f zero some none = absurd cc
none_listed f (suc n) some none = absurd cc

none_served : (count : ℕ) (pages : Paging) (db : Database) → ServedSince no_lists count pages db → ⊥
none_served count pages db s = none_listed _ _ s.served.prepared.1 s.trunks

pub justified : (asked : Asked) (seen : Given) (written : PageMap) → Justified no_lists asked seen written
justified asked seen written = record {
  replied = λ count pages db s agrees. absurd (none_served count pages db s);
  left = λ count pages db s agrees. absurd (none_served count pages db s);
}
