-- Rollback journals ("The Rollback Journal" in SQLite's Database File Format). That the number of records is not read,
-- and that a head takes 512 bytes, is this project's own.
use Rattle.std.specs.Prelude.{ℕ, zero, suc, ◌+◌, ◌-◌, ◌*◌, ◌/◌, ◌%◌, ◌^◌, Bool, not, ◌&&◌, ◌==◌, nat_lt, nat_le, nat_eq, List, [], ◌∷◌, ◌++◌, length, take, drop, map, sum, slice_index, replicate, take_while, if◌then◌else◌}
use Rattle.std.specs.List.{starts_with}
use Rattle.byteorder.specs.Endian.{big_bytes}
use Rattle.spe_model.specs.Big.{u32_at}

-- the first eight bytes of a journal
abbrev pub journal_magic : List ℕ
journal_magic = 0xd9 ∷ 0xd5 ∷ 0x05 ∷ 0xf9 ∷ 0x20 ∷ 0xa1 ∷ 0x63 ∷ 0xd7 ∷ []

-- the bytes of a head: the magic, the number of records as all ones, the nonce, the size of the database in pages, the
-- sector size, the page size, and zeros
unfoldable pub head_bytes : (nonce pages page_size : ℕ) → List ℕ
head_bytes nonce pages page_size =
    journal_magic ++ big_bytes 4 0xffffffff ++ big_bytes 4 nonce ++ big_bytes 4 pages ++ big_bytes 4 512 ++ big_bytes 4 page_size ++ replicate 484 0

-- the places at - 200, at - 400 and so on that are above 0; `steps` is enough where it is `at`
abbrev pub places_below : (steps at : ℕ) → List ℕ
places_below zero at = []
places_below (suc n) at = if nat_lt 200 at then (at - 200) ∷ places_below n (at - 200) else []

-- the checksum of a record: the nonce and every two hundredth byte of the page, counted from its end
unfoldable pub checksum_of : ℕ → List ℕ → ℕ
checksum_of nonce page = (nonce + sum (map (slice_index page) (places_below (length page) (length page)))) % 2 ^ 32

-- the bytes of a record: the page's number, its content and the checksum
unfoldable pub record_bytes : (nonce page : ℕ) → List ℕ → List ℕ
record_bytes nonce page content = big_bytes 4 page ++ content ++ big_bytes 4 (checksum_of nonce content)

-- a page and its content before the transaction
pub record Saved : Type 0 where
  pub page : ℕ
  pub content : List ℕ

-- what a record of pages of this size says
abbrev pub saved_of : ℕ → List ℕ → Saved
saved_of page_size bytes = record { page = u32_at bytes 0; content = take page_size (drop 4 bytes) }

-- a record names a page and has its checksum
abbrev pub is_right : (nonce page_size : ℕ) → List ℕ → Bool
is_right nonce page_size bytes =
    not (u32_at bytes 0 == 0) && (u32_at bytes (page_size + 4) == checksum_of nonce (take page_size (drop 4 bytes)))

-- the numbers from n on, of which there are so many
abbrev pub numbers_from : (n count : ℕ) → List ℕ
numbers_from n zero = []
numbers_from n (suc count) = n ∷ numbers_from (n + 1) count

-- the whole pieces of this size
abbrev pub pieces_of : ℕ → List ℕ → List (List ℕ)
pieces_of size bytes = map (λ i. take size (drop (i * size) bytes)) (numbers_from 0 (length bytes / size))

-- a journal has a head: its bytes are enough, and the first eight are the magic
unfoldable pub has_head : List ℕ → Bool
has_head journal = nat_le 512 (length journal) && starts_with nat_eq journal journal_magic

-- the page size that a head names
unfoldable pub head_page_size : List ℕ → ℕ
head_page_size journal = u32_at journal 24

-- a journal that can be rolled back into pages of this size
unfoldable pub is_hot : ℕ → List ℕ → Bool
is_hot page_size journal = has_head journal && (head_page_size journal == page_size)

-- the whole records of a head's journal, up to the first that names no page or has a wrong checksum
unfoldable pub saved_pages : ℕ → List ℕ → List Saved
saved_pages page_size journal =
    map (saved_of page_size) (take_while (is_right (u32_at journal 12) page_size) (pieces_of (page_size + 8) (drop 512 journal)))

-- the hot records of a journal
unfoldable pub hot_records : ℕ → List ℕ → List Saved
hot_records page_size journal = if is_hot page_size journal then saved_pages page_size journal else []
