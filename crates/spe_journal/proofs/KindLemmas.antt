-- What the head of a journal says of the records behind it.
use Rattle.std.proofs.Common.{◌≡◌, ℕ, ◌+◌, ◌≤◌, ◌<◌, ◌^◌, List, [], ◌++◌, length, drop, refl, arith, ◌∙◌, true, false, Bool, cond, length-append}
use Rattle.std.specs.Prelude.{◌==◌, ◌&&◌, nat_le, nat_eq, replicate}
use Rattle.std.specs.List.{starts_with}
use Rattle.std.proofs.lemmas.List.{drop-append-le, drop_at, length-drop, take-append-le}
use Rattle.std.proofs.lemmas.Bool.Decides.{nat_tests}
use Rattle.byteorder.specs.Endian.{big_bytes}
use Rattle.byteorder.specs.Numbers.{big_from-append}
use Rattle.spe_model.specs.Big.{u32_at}
use Rattle.spe_model.specs.Journal.{journal_magic, head_bytes, has_head, head_page_size, is_hot, saved_pages, hot_records}
use Rattle.spe_journal.specs.Saved.{saved_in}
use Rattle.spe_journal.specs.Kind.{kind_named, kind_of, saved_under}
use Rattle.spe_journal.specs.declared.head.JournalKind.TheVariants.{Cold, OtherSize, Hot}
use Rattle.spe_journal.proofs.BytesLemmas.{u32_at-written}

-- the records under each answer of two tests
by_tests : (headed same : Bool) (page_size named nonce : ℕ) (bytes : List ℕ)
    → cond (headed && same) (saved_in nonce page_size bytes) [] ≡ saved_under (cond headed (cond same (Hot nonce) (OtherSize named)) Cold) page_size bytes
by_tests true true page_size named nonce bytes = refl
by_tests true false page_size named nonce bytes = refl
by_tests false same page_size named nonce bytes = refl

pub hot_records-kind : (page_size : ℕ) (journal : List ℕ) → hot_records page_size journal ≡ saved_under (kind_of page_size journal) page_size (drop 512 journal)
unfolding hot_records is_hot saved_pages saved_in kind_of
hot_records-kind page_size journal =
    by_tests (has_head journal) (head_page_size journal == page_size) page_size (head_page_size journal) (u32_at journal 12) (drop 512 journal)

-- fewer bytes than a head save nothing
pub hot_records-short : (page_size : ℕ) (journal : List ℕ) → length journal < 512 → hot_records page_size journal ≡ []
unfolding hot_records is_hot has_head
hot_records-short page_size journal short =
    let no_head : nat_le 512 (length journal) ≡ false = grind (arith, nat_tests) in
    rw no_head refl

-- bytes that are long enough start as they do with others behind them
starts_with-append : (xs ys needle : List ℕ) → length needle ≤ length xs → starts_with nat_eq (xs ++ ys) needle ≡ starts_with nat_eq xs needle
starts_with-append xs ys needle fits = rw (take-append-le (length needle) xs ys fits) refl

pub u32_at-append : (front behind : List ℕ) (at : ℕ) → at + 4 ≤ length front → u32_at (front ++ behind) at ≡ u32_at front at
unfolding u32_at
u32_at-append front behind at fits =
    rw (drop-append-le at front behind (omega arith)) (big_from-append 4 (drop at front) behind (omega (arith, length-drop at front)))

has_head-append : (front behind : List ℕ) → 512 ≤ length front → has_head (front ++ behind) ≡ has_head front
unfolding has_head
has_head-append front behind long =
    let one : nat_le 512 (length front) ≡ true = grind (arith, nat_tests) in
    let other : nat_le 512 (length (front ++ behind)) ≡ true = grind (arith, nat_tests, length-append front behind) in
    rw (one, other, starts_with-append front behind journal_magic (omega arith)) refl

-- the first 512 bytes of a journal say what it is
pub kind_of-append : (page_size : ℕ) (front behind : List ℕ) → 512 ≤ length front → kind_of page_size (front ++ behind) ≡ kind_of page_size front
unfolding kind_of head_page_size
kind_of-append page_size front behind long =
    rw (has_head-append front behind long, u32_at-append front behind 24 (omega arith), u32_at-append front behind 12 (omega arith)) refl

pub saves-append : (page_size : ℕ) (front behind : List ℕ) → 512 ≤ length front
    → hot_records page_size (front ++ behind) ≡ saved_under (kind_of page_size front) page_size (drop 512 front ++ behind)
saves-append page_size front behind long =
    hot_records-kind page_size (front ++ behind) ∙ rw (kind_of-append page_size front behind long, drop-append-le 512 front behind long) refl

-- only a head of 512 bytes can be hot
long_by_test : (long magic : Bool) (wanted named nonce found : ℕ) → cond (long && magic) (kind_named wanted named nonce) Cold ≡ Hot found → long ≡ true
long_by_test true magic wanted named nonce found hot = refl
long_by_test false magic wanted named nonce found hot = cc

pub kind_of-long : (page_size nonce : ℕ) (journal : List ℕ) → kind_of page_size journal ≡ Hot nonce → 512 ≤ length journal
unfolding kind_of has_head
kind_of-long page_size nonce journal hot =
    let long : nat_le 512 (length journal) ≡ true =
    long_by_test (nat_le 512 (length journal)) (starts_with nat_eq journal journal_magic) page_size (head_page_size journal) (u32_at journal 12) nonce hot in
    grind (arith, nat_tests)

-- a head that is written is a head
pub head_bytes-head : (nonce pages page_size : ℕ) → has_head (head_bytes nonce pages page_size) ≡ true
unfolding has_head head_bytes
head_bytes-head nonce pages page_size = refl

pub head_bytes-size : (nonce pages page_size : ℕ) → page_size < 2 ^ 32 → head_page_size (head_bytes nonce pages page_size) ≡ page_size
unfolding head_page_size head_bytes
head_bytes-size nonce pages page_size fits =
    u32_at-written (journal_magic ++ big_bytes 4 0xffffffff ++ big_bytes 4 nonce ++ big_bytes 4 pages ++ big_bytes 4 512) (replicate 484 0) 24 page_size refl fits

pub head_bytes-nonce : (nonce pages page_size : ℕ) → nonce < 2 ^ 32 → u32_at (head_bytes nonce pages page_size) 12 ≡ nonce
unfolding head_bytes
head_bytes-nonce nonce pages page_size fits =
    u32_at-written (journal_magic ++ big_bytes 4 0xffffffff) (big_bytes 4 pages ++ big_bytes 4 512 ++ big_bytes 4 page_size ++ replicate 484 0) 12 nonce refl fits

pub head_bytes-length : (nonce pages page_size : ℕ) → length (head_bytes nonce pages page_size) ≡ 512
unfolding head_bytes
head_bytes-length nonce pages page_size = refl

pub head_bytes-kind : (nonce pages page_size : ℕ) → nonce < 2 ^ 32 → page_size < 2 ^ 32
    → (behind : List ℕ) → kind_of page_size (head_bytes nonce pages page_size ++ behind) ≡ Hot nonce
unfolding kind_of
head_bytes-kind nonce pages page_size nonce_fits size_fits behind =
    let same : (page_size == page_size) ≡ true = grind (arith, nat_tests) in
    kind_of-append page_size (head_bytes nonce pages page_size) behind (omega (arith, head_bytes-length nonce pages page_size))
    ∙ rw (head_bytes-head nonce pages page_size, head_bytes-size nonce pages page_size size_fits, head_bytes-nonce nonce pages page_size nonce_fits, same) refl

pub head_bytes-saves : (nonce pages page_size : ℕ) → nonce < 2 ^ 32 → page_size < 2 ^ 32
    → (behind : List ℕ) → hot_records page_size (head_bytes nonce pages page_size ++ behind) ≡ saved_in nonce page_size behind
head_bytes-saves nonce pages page_size nonce_fits size_fits behind =
    let whole : drop 512 (head_bytes nonce pages page_size ++ behind) ≡ behind =
    drop_at (head_bytes nonce pages page_size) behind 512 (head_bytes-length nonce pages page_size) in
    hot_records-kind page_size (head_bytes nonce pages page_size ++ behind)
    ∙ rw (head_bytes-kind nonce pages page_size nonce_fits size_fits behind, whole) refl
