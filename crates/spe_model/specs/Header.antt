-- The header of a database file ("The Database Header" in SQLite's Database File Format): what it names, and the faults
-- that it may have. The limits on page size, reserved bytes and encoding are this project's own.
use Rattle.std.specs.Prelude.{ℕ, ◌≡◌, ◌+◌, ◌/◌, ◌≤◌, max, List, [], ◌∷◌, ◌++◌, take, drop, length, slice_index, IsOk, Bool, not, ◌==◌, ◌&&◌, ◌||◌, nat_lt, nat_eq, if◌then◌else◌, Option, Some, None, Result, Ok, Err}
use Rattle.std.specs.List.{find, starts_with}
use Rattle.byteorder.specs.Endian.{big_bytes}
use Rattle.spe_model.specs.declared.header.Header.{Header}
use Rattle.spe_model.specs.declared.header.HeaderFault.{HeaderFault}
use Rattle.spe_model.specs.declared.header.HeaderFault.TheVariants.{Short, NotADatabase, Wal, BadPageSize, AutoVacuum, Encoding, Reserved, SchemaFormat}
use Rattle.spe_model.specs.Big.{u16_at, u32_at}
use Rattle.spe_model.specs.Magic.{magic}

-- the page size that the number at offset 16 stands for
abbrev pub page_size_of : ℕ → ℕ
page_size_of n = if n == 1 then 65536 else n

unfoldable pub page_size_at : List ℕ → ℕ
page_size_at bytes = page_size_of (u16_at bytes 16)

-- the powers of two from 512 to 65536
unfoldable pub is_page_size : ℕ → Bool
is_page_size n = (n == 512) || (n == 1024) || (n == 2048) || (n == 4096) || (n == 8192) || (n == 16384) || (n == 32768) || (n == 65536)

abbrev pub is_version : ℕ → Bool
is_version v = (v == 1) || (v == 2)

unfoldable pub is_database : List ℕ → Bool
is_database bytes =
    starts_with nat_eq bytes magic && is_version (slice_index bytes 18) && is_version (slice_index bytes 19)
    && (slice_index bytes 21 == 64) && (slice_index bytes 22 == 32) && (slice_index bytes 23 == 32)

unfoldable pub is_wal : List ℕ → Bool
is_wal bytes = (slice_index bytes 18 == 2) || (slice_index bytes 19 == 2)

-- whether the bytes have this fault, whatever others they have
abbrev pub has_fault : List ℕ → HeaderFault → Bool
has_fault bytes Short = nat_lt (length bytes) 100
has_fault bytes NotADatabase = not (is_database bytes)
has_fault bytes Wal = is_wal bytes
has_fault bytes BadPageSize = not (is_page_size (page_size_at bytes))
has_fault bytes AutoVacuum = not (u32_at bytes 52 == 0)
has_fault bytes Encoding = nat_lt 1 (u32_at bytes 56)
has_fault bytes Reserved = nat_lt (page_size_at bytes) (slice_index bytes 20 + 480)
has_fault bytes SchemaFormat = not ((u32_at bytes 44 == 0) || (u32_at bytes 44 == 4))

-- the faults by their numbers, the lowest first
abbrev pub faults : List HeaderFault
faults = Short ∷ NotADatabase ∷ Wal ∷ BadPageSize ∷ AutoVacuum ∷ Encoding ∷ Reserved ∷ SchemaFormat ∷ []

abbrev pub fields : List ℕ → Header
fields bytes = record {
  page_size = page_size_at bytes;
  reserved = slice_index bytes 20;
  change = u32_at bytes 24;
  pages = u32_at bytes 28;
  first_free = u32_at bytes 32;
  free_count = u32_at bytes 36;
  cookie = u32_at bytes 40;
  schema_format = u32_at bytes 44;
  encoding = 1;
  valid_for = u32_at bytes 92;
}

abbrev pub unless : {T E : Type 0} → Option E → T → Result T E
unless None x = Ok x
unless (Some e) x = Err e

-- the faults that keep the page size from being known
abbrev pub front_faults : List HeaderFault
front_faults = Short ∷ NotADatabase ∷ Wal ∷ BadPageSize ∷ []

-- the lowest of these that the bytes have
abbrev pub front_fault_of : List ℕ → Option HeaderFault
front_fault_of bytes = find (has_fault bytes) front_faults

-- the header, or the lowest fault
abbrev pub header_of : List ℕ → Result Header HeaderFault
header_of bytes = unless (find (has_fault bytes) faults) (fields bytes)

-- whether the size in pages counts
abbrev pub is_size_valid : Header → Bool
is_size_valid h = not (h.pages == 0) && (h.change == h.valid_for)

-- in server form, the page that names the free lists: offset 32 names it, and offset 36 is 0
abbrev pub node_of : Header → Option ℕ
node_of h = if not (h.first_free == 0) && (h.free_count == 0) then Some h.first_free else None

-- the number of pages of a file of so many bytes
abbrev pub page_count_of : Header → ℕ → ℕ
page_count_of h size = if is_size_valid h then h.pages else max 1 (size / h.page_size)

-- the sizes that a legal header has
pub record IsSized (h : Header) : Type 0 where
  pub low : 512 ≤ h.page_size
  pub high : h.page_size ≤ 65536
  pub usable : h.reserved + 480 ≤ h.page_size

-- the number at offset 16 that stands for a page size
abbrev pub size_number : ℕ → ℕ
size_number size = if size == 65536 then 1 else size

-- some bytes at a place
pub record Piece : Type 0 where
  pub at : ℕ
  pub bytes : List ℕ

-- where the numbers of a header stand, and how they are written
abbrev pub pieces_of : Header → List Piece
pieces_of h =
    record { at = 16; bytes = big_bytes 2 (size_number h.page_size) }
    ∷ record { at = 20; bytes = big_bytes 1 h.reserved }
    ∷ record { at = 24; bytes = big_bytes 4 h.change }
    ∷ record { at = 28; bytes = big_bytes 4 h.pages }
    ∷ record { at = 32; bytes = big_bytes 4 h.first_free }
    ∷ record { at = 36; bytes = big_bytes 4 h.free_count }
    ∷ record { at = 40; bytes = big_bytes 4 h.cookie }
    ∷ record { at = 44; bytes = big_bytes 4 h.schema_format }
    ∷ record { at = 56; bytes = big_bytes 4 h.encoding }
    ∷ record { at = 92; bytes = big_bytes 4 h.valid_for }
    ∷ []

-- a page with other bytes at a place, and with those of several pieces
abbrev pub with_bytes : (at : ℕ) → List ℕ → List ℕ → List ℕ
with_bytes at bytes page = take at page ++ bytes ++ drop (at + length bytes) page

abbrev pub with_pieces : List Piece → List ℕ → List ℕ
with_pieces [] page = page
with_pieces (piece ∷ pieces) page = with_pieces pieces (with_bytes piece.at piece.bytes page)

-- page 1 that names this header, and has all its other bytes as before
unfoldable pub with_header : Header → List ℕ → List ℕ
with_header h page = with_pieces (pieces_of h) page

-- where at least the first hundred bytes of page 1 have a legal header, it reads as this one
abbrev pub ReadsBack : Header → List ℕ → Type 0
ReadsBack h page = IsSized h → h.encoding ≡ 1 → (n : ℕ) → 100 ≤ n → IsOk (header_of (take n page)) → header_of (take n page) ≡ Ok h
