-- The operations that roll back hot journals.
use Rattle.std.specs.Prelude.{ℕ, ◌-◌, ◌*◌, Bool, not, ◌&&◌, ◌==◌, nat_lt, nat_le, List, [], ◌∷◌, ◌++◌, length, drop, map, filter, if◌then◌else◌}
use Rattle.std.specs.List.{list_any}
use Rattle.spe_model.specs.declared.file.FileNo.TheVariants.{Database, Journal}
use Rattle.spe_model.specs.Content.{Content, bytes_of}
use Rattle.spe_model.specs.Journal.{Saved, numbers_from}
use Rattle.spe_model.specs.Recovery.{journal_of, file_page_size, all_hot}
use Rattle.spe_model.specs.Trace.{Operation}
use Rattle.spe_model.specs.Trace.Operation.{Write, Cut}

-- a page is written back; the first 24 bytes of page 1 are never written
abbrev pub write_of : ℕ → Saved → Operation
write_of page_size s = if s.page == 1 then Write Database 24 (drop 24 s.content) else Write Database ((s.page - 1) * page_size) s.content

-- these pages but one
abbrev pub without : (ℕ → Bool) → ℕ → ℕ → Bool
without due page p = due p && not (page == p)

-- the first record of each of these pages
abbrev pub firsts : (ℕ → Bool) → List Saved → List Saved
firsts due [] = []
firsts due (s ∷ ss) = if due s.page then s ∷ firsts (without due s.page) ss else firsts due ss

-- the writes of the first record of each of these pages
abbrev pub restores : ℕ → (ℕ → Bool) → List Saved → List Operation
restores page_size due saved = map (write_of page_size) (firsts due saved)

abbrev pub has_length : Content → ℕ → Bool
has_length content id = nat_lt 0 (length (journal_of content id))

abbrev pub cut_of : ℕ → Operation
cut_of id = Cut (Journal id) 0

-- a file of so many bytes is cut to its pages, where it is longer
abbrev pub file_cut : (size end : ℕ) → List Operation
file_cut size end = if nat_lt end size then Cut Database end ∷ [] else []

-- those of some journals that have bytes are cut
unfoldable pub cuts_from : Content → (id count : ℕ) → List Operation
cuts_from content id count = map cut_of (filter (has_length content) (numbers_from id count))

-- one of some journals has bytes
unfoldable pub any_length : Content → (id count : ℕ) → Bool
any_length content id count = list_any (has_length content) (numbers_from id count)

-- The operations that write so many recovered pages back: the first hot record of each of these pages, then the cut of
-- the file, then those of the journals; none where no journal has bytes.
unfoldable pub rule_of : Content → ℕ → List Operation
rule_of content pages =
    if any_length content 0 16
    then restores (file_page_size content) (λ p. nat_le p pages) (all_hot content)
    ++ file_cut (length (bytes_of content Database)) (pages * file_page_size content) ++ cuts_from content 0 16
    else []
