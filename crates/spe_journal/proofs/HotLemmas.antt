-- What a journal that was written says, and how one more record is written.
use Rattle.std.proofs.Common.{◌≡◌, ℕ, ◌+◌, ◌<◌, ◌≤◌, ◌^◌, List, [], ◌∷◌, ◌++◌, length, refl, sym, ap, ◌∙◌, arith, false}
use Rattle.std.specs.Prelude.{nat_le}
use Rattle.std.proofs.lemmas.Bool.Decides.{nat_tests}
use Rattle.std.proofs.lemmas.List.{append-nil, append_assoc, flat_map_more, length-append}
use Rattle.std.proofs.lemmas.List.Elements.{All-nil, All-push}
use Rattle.std.specs.List.{flat_map}
use Rattle.spe_model.specs.Big.{u32_at}
use Rattle.spe_model.specs.Journal.{Saved, has_head, head_bytes, head_page_size, hot_records, record_bytes}
use Rattle.spe_journal.specs.Written.{IsSavable, IsWritten, journal_bytes}
use Rattle.spe_journal.proofs.KindLemmas.{head_bytes-length, head_bytes-nonce, head_bytes-saves, head_bytes-size, hot_records-short, u32_at-append}
use Rattle.spe_journal.proofs.RecordLemmas.{record-length}
use Rattle.spe_journal.proofs.WrittenLemmas.{saved_in-written}

-- the bytes of all records behind a head, and what a stop left of one more
abbrev behind : (nonce : ℕ) → List Saved → List ℕ → List ℕ
behind nonce saved torn = flat_map (λ (s : Saved). record_bytes nonce s.page s.content) saved ++ torn

split : (page_size : ℕ) (saved : List Saved) (journal : List ℕ) (w : IsWritten page_size saved journal) → journal ≡ head_bytes w.nonce w.pages page_size ++ behind w.nonce saved w.torn
split page_size saved journal w =
    w.bytes ∙ append_assoc (head_bytes w.nonce w.pages page_size) (flat_map (λ (s : Saved). record_bytes w.nonce s.page s.content) saved) w.torn

-- a journal that was written has the records that were written
pub written_hot : (page_size : ℕ) (saved : List Saved) (journal : List ℕ) → page_size < 2 ^ 32 → IsWritten page_size saved journal → hot_records page_size journal ≡ saved
written_hot page_size saved journal fits w =
    ap (hot_records page_size) (split page_size saved journal w)
    ∙ head_bytes-saves w.nonce w.pages page_size w.nonce_fits fits (behind w.nonce saved w.torn)
    ∙ saved_in-written w.nonce page_size saved w.torn w.savable w.cut

pub written_head : (page_size : ℕ) (saved : List Saved) (journal : List ℕ) → page_size < 2 ^ 32 → IsWritten page_size saved journal → head_page_size journal ≡ page_size
unfolding head_page_size
written_head page_size saved journal fits w =
    let head = head_bytes w.nonce w.pages page_size in
    ap (λ (bytes : List ℕ). u32_at bytes 24) (split page_size saved journal w)
    ∙ u32_at-append head (behind w.nonce saved w.torn) 24 (omega (arith, head_bytes-length w.nonce w.pages page_size))
    ∙ head_bytes-size w.nonce w.pages page_size fits

pub written_nonce : (page_size : ℕ) (saved : List Saved) (journal : List ℕ) (w : IsWritten page_size saved journal) → u32_at journal 12 ≡ w.nonce
written_nonce page_size saved journal w =
    let head = head_bytes w.nonce w.pages page_size in
    ap (λ (bytes : List ℕ). u32_at bytes 12) (split page_size saved journal w)
    ∙ u32_at-append head (behind w.nonce saved w.torn) 12 (omega (arith, head_bytes-length w.nonce w.pages page_size))
    ∙ head_bytes-nonce w.nonce w.pages page_size w.nonce_fits

-- fewer bytes than a head are none
pub short_head : (journal : List ℕ) → length journal < 512 → has_head journal ≡ false
unfolding has_head
short_head journal short = let few : nat_le 512 (length journal) ≡ false = grind (arith, nat_tests) in rw few refl

pub short_hot : (page_size : ℕ) (journal : List ℕ) → length journal < 512 → hot_records page_size journal ≡ []
short_hot page_size journal short = hot_records-short page_size journal short

-- a head alone
pub head_written : (nonce pages page_size : ℕ) → nonce < 2 ^ 32 → IsWritten page_size [] (head_bytes nonce pages page_size)
head_written nonce pages page_size fits = record {
  nonce = nonce;
  pages = pages;
  torn = [];
  nonce_fits = fits;
  savable = All-nil (IsSavable page_size);
  cut = omega arith;
  bytes = sym (append-nil (head_bytes nonce pages page_size ++ []) ∙ append-nil (head_bytes nonce pages page_size));
}

pub head_long : (nonce pages page_size : ℕ) → length (head_bytes nonce pages page_size) ≡ 512
head_long nonce pages page_size = head_bytes-length nonce pages page_size

pub record_long : (nonce page : ℕ) (content : List ℕ) → length (record_bytes nonce page content) ≡ length content + 8
record_long nonce page content = record-length nonce page content

pub written_long : (page_size : ℕ) (saved : List Saved) (journal : List ℕ) → IsWritten page_size saved journal → 512 ≤ length journal
written_long page_size saved journal w =
    let head = head_bytes w.nonce w.pages page_size in
    omega (arith, ap length (split page_size saved journal w), length-append head (behind w.nonce saved w.torn), head_bytes-length w.nonce w.pages page_size)

-- some first bytes of one more record
pub torn_written : (page_size : ℕ) (saved : List Saved) (journal torn : List ℕ) (w : IsWritten page_size saved journal) → w.torn ≡ [] → length torn < page_size + 8
    → IsWritten page_size saved (journal ++ torn)
torn_written page_size saved journal torn w whole cut = record {
  nonce = w.nonce;
  pages = w.pages;
  torn = torn;
  nonce_fits = w.nonce_fits;
  savable = w.savable;
  cut = cut;
  bytes = ap (λ (bytes : List ℕ). bytes ++ torn) (w.bytes ∙ ap (λ (t : List ℕ). journal_bytes w.nonce w.pages page_size saved ++ t) whole ∙ append-nil (journal_bytes w.nonce w.pages page_size saved));
}

-- one whole record more
pub record_written : (page_size : ℕ) (saved : List Saved) (journal : List ℕ) (s : Saved) (w : IsWritten page_size saved journal) → w.torn ≡ [] → IsSavable page_size s
    → IsWritten page_size (saved ++ s ∷ []) (journal ++ record_bytes w.nonce s.page s.content)
record_written page_size saved journal s w whole savable =
    let head = head_bytes w.nonce w.pages page_size in
    let put = λ (x : Saved). record_bytes w.nonce x.page x.content in
    let before : journal ≡ head ++ flat_map put saved = w.bytes ∙ ap (λ (t : List ℕ). journal_bytes w.nonce w.pages page_size saved ++ t) whole ∙ append-nil (journal_bytes w.nonce w.pages page_size saved) in
    record {
      nonce = w.nonce;
      pages = w.pages;
      torn = [];
      nonce_fits = w.nonce_fits;
      savable = All-push (IsSavable page_size) saved s w.savable savable;
      cut = omega arith;
      bytes =
          ap (λ (bytes : List ℕ). bytes ++ put s) before
          ∙ flat_map_more put head saved s
          ∙ sym (append-nil (head ++ flat_map put (saved ++ s ∷ [])));
    }

-- neither leaves a torn record
pub head_whole : (nonce pages page_size : ℕ) (fits : nonce < 2 ^ 32) → (head_written nonce pages page_size fits).torn ≡ []
unfolding head_written
head_whole nonce pages page_size fits = refl

pub record_whole : (page_size : ℕ) (saved : List Saved) (journal : List ℕ) (s : Saved) (w : IsWritten page_size saved journal) (whole : w.torn ≡ []) (savable : IsSavable page_size s)
    → (record_written page_size saved journal s w whole savable).torn ≡ []
unfolding record_written
record_whole page_size saved journal s w whole savable = refl
