-- The pages that a database has once its hot journals are rolled back together. Nothing is written here.
use Rattle.std.specs.Prelude.{ℕ, ◌-◌, ◌*◌, ◌^◌, Bool, not, ◌&&◌, ◌||◌, ◌==◌, nat_lt, nat_le, min, List, [], ◌∷◌, ◌++◌, length, take, drop, map, filter, Option, Some, None, Result, Ok, Err, is_some, if◌then◌else◌}
use Rattle.std.specs.List.{find, list_any, list_all, flat_map}
use Rattle.std.specs.Option.{option_map_or}
use Rattle.spe_model.specs.declared.header.Header.{Header}
use Rattle.spe_model.specs.declared.header.HeaderFault.{HeaderFault}
use Rattle.spe_model.specs.declared.recovery.RecoverFault.{RecoverFault}
use Rattle.spe_model.specs.declared.recovery.RecoverFault.TheVariants as refusals
use Rattle.spe_model.specs.declared.file.FileNo.TheVariants.{Database, Journal}
use Rattle.spe_model.specs.Content.{Content, bytes_of}
use Rattle.spe_model.specs.Header.{front_fault_of, header_of, fields, page_size_at, page_count_of}
use Rattle.spe_model.specs.Journal.{Saved, has_head, head_page_size, hot_records, numbers_from}

-- the journals
abbrev pub ids : List ℕ
ids = numbers_from 0 16

abbrev pub journal_of : Content → ℕ → List ℕ
journal_of content id = bytes_of content (Journal id)

-- the page size that the file's page 1 names
abbrev pub file_page_size : Content → ℕ
file_page_size content = page_size_at (take 100 (bytes_of content Database))

-- the hot records of a journal
abbrev pub hot_of : Content → ℕ → List Saved
hot_of content id = hot_records (file_page_size content) (journal_of content id)

-- the hot records of all journals, the lowest journal's first
abbrev pub all_hot : Content → List Saved
all_hot content = flat_map (hot_of content) ids

abbrev pub is_of : ℕ → Saved → Bool
is_of page s = s.page == page

-- page p of the file, as far as the file has it
abbrev pub file_page : Content → ℕ → List ℕ
file_page content p = take (file_page_size content) (drop ((p - 1) * file_page_size content) (bytes_of content Database))

abbrev pub saved_or : List ℕ → Option Saved → List ℕ
saved_or page None = page
saved_or page (Some s) = s.content

-- the first 24 bytes of page 1 are always those of the file
abbrev pub with_front : Content → ℕ → List ℕ → List ℕ
with_front content p page = if p == 1 then take 24 (bytes_of content Database) ++ drop 24 page else page

-- the image of page p: that of its first hot record, or the file's page
unfoldable pub image_of : Content → ℕ → List ℕ
image_of content p = with_front content p (saved_or (file_page content p) (find (is_of p) (all_hot content)))

-- the header faults that keep the page size from being known, of the file's page 1
abbrev pub front_fault : Content → Option HeaderFault
front_fault content = front_fault_of (take 100 (bytes_of content Database))

abbrev pub has_other_size : Content → ℕ → Bool
has_other_size content id = has_head (journal_of content id) && not (head_page_size (journal_of content id) == file_page_size content)

-- the lowest journal whose head names another page size
abbrev pub other_size : Content → Option ℕ
other_size content = find (has_other_size content) ids

-- the hot journals that have a record of page p
abbrev pub holders : Content → ℕ → List ℕ
holders content p = filter (λ id. list_any (is_of p) (hot_of content id)) ids

abbrev pub is_shared : Content → Saved → Bool
is_shared content s = nat_le 2 (length (holders content s.page))

abbrev pub least : List Saved → Option ℕ
least [] = None
least (s ∷ ss) = Some (option_map_or (min s.page) (least ss) s.page)

-- the least page that is in two hot journals
abbrev pub shared_page : Content → Option ℕ
shared_page content = least (filter (is_shared content) (all_hot content))

abbrev pub first_two : List ℕ → ℕ × ℕ
first_two [] = (0, 0)
first_two (a ∷ []) = (a, 0)
first_two (a ∷ b ∷ rest) = (a, b)

-- page p is in a hot journal, or whole in the file
abbrev pub is_there : Content → ℕ → Bool
is_there content p =
    is_some (find (is_of p) (all_hot content)) || nat_le (p * file_page_size content) (length (bytes_of content Database))

abbrev pub pages_to : ℕ → List ℕ
pages_to count = numbers_from 1 count

abbrev pub recovered_to : Content → ℕ → Result (List (List ℕ)) RecoverFault
recovered_to content count =
    if nat_lt (2 ^ 30) (count * file_page_size content) then Err (refusals.TooLarge count)
    else (if list_all (is_there content) (pages_to count) then Ok (map (image_of content) (pages_to count))
    else Err (refusals.ShortFile count (length (bytes_of content Database))))

abbrev pub recovered_with : Content → Result Header HeaderFault → Result (List (List ℕ)) RecoverFault
recovered_with content (Err fault) = Err (refusals.Header fault)
recovered_with content (Ok h) = recovered_to content (page_count_of h (length (bytes_of content Database)))

abbrev pub recovered_hot : Content → Option ℕ → Result (List (List ℕ)) RecoverFault
recovered_hot content (Some page) =
    Err (refusals.Overlap page (first_two (holders content page)).0 (first_two (holders content page)).1)
recovered_hot content None = recovered_with content (header_of (take 100 (image_of content 1)))

abbrev pub recovered_sized : Content → Option ℕ → Result (List (List ℕ)) RecoverFault
recovered_sized content (Some id) = Err (refusals.JournalPage id (head_page_size (journal_of content id)))
recovered_sized content None = recovered_hot content (shared_page content)

abbrev pub recovered_front : Content → Option HeaderFault → Result (List (List ℕ)) RecoverFault
recovered_front content (Some fault) = Err (refusals.Header fault)
recovered_front content None = recovered_sized content (other_size content)

-- the recovered pages, or the first reason why there are none
unfoldable pub recovered : Content → Result (List (List ℕ)) RecoverFault
recovered content = recovered_front content (front_fault content)

-- what the header of the recovered page 1 names
unfoldable pub recovered_header : Content → Header
recovered_header content = fields (take 100 (image_of content 1))
