-- What is written reads back.
use Rattle.std.proofs.Common.{◌≡◌, ℕ, ◌+◌, ◌<◌, ◌^◌, List, [], ◌∷◌, ◌++◌, length, map, All, refl, ap, ◌∙◌}
use Rattle.std.proofs.lemmas.List.{append_assoc}
use Rattle.std.proofs.lemmas.List.Elements.{All-head, All-tail}
use Rattle.std.specs.List.{flat_map}
use Rattle.spe_model.specs.Journal.{Saved, head_bytes, record_bytes, hot_records}
use Rattle.spe_journal.specs.Saved.{saved_in}
use Rattle.spe_journal.specs.Kind.{kind_of}
use Rattle.spe_journal.specs.Text.{record_of, text_of}
use Rattle.spe_journal.specs.Written.{IsSavable, IsWritten}
use Rattle.spe_journal.specs.declared.head.JournalKind.TheVariants as kind
use Rattle.spe_journal.specs.declared.text.JournalText.TheVariants as text
use Rattle.spe_journal.proofs.PiecesLemmas.{saved_in-torn}
use Rattle.spe_journal.proofs.RecordLemmas.{record-first}
use Rattle.spe_journal.proofs.KindLemmas.{head_bytes-kind, head_bytes-saves}
use Rattle.spe_journal.proofs.TextLemmas.{text_of-kind}

pub saved_in-written : (nonce page_size : ℕ) (saved : List Saved) (torn : List ℕ) → All (IsSavable page_size) saved → length torn < page_size + 8
    → saved_in nonce page_size (flat_map (λ s. record_bytes nonce s.page s.content) saved ++ torn) ≡ saved
saved_in-written nonce page_size [] torn savable cut = saved_in-torn nonce page_size torn cut
saved_in-written nonce page_size (s ∷ more) torn savable cut =
    let first : IsSavable page_size s = All-head (IsSavable page_size) s more savable in
    let behind = flat_map (λ (s : Saved). record_bytes nonce s.page s.content) more ++ torn in
    let step : saved_in nonce page_size (record_bytes nonce s.page s.content ++ behind) ≡ s ∷ saved_in nonce page_size behind =
    rw first.sized at (record-first nonce s.page s.content behind first.fits first.named) in
    rw append_assoc (step ∙ ap (λ (rest : List Saved). s ∷ rest) (saved_in-written nonce page_size more torn (All-tail (IsSavable page_size) s more savable) cut))

pub text_of-written : (page_size : ℕ) (saved : List Saved) (journal : List ℕ) → page_size < 2 ^ 32 → IsWritten page_size saved journal
    → text_of page_size journal ≡ text.Hot (map record_of saved)
text_of-written page_size saved journal fits written =
    let head = head_bytes written.nonce written.pages page_size in
    let whole_records = flat_map (λ (s : Saved). record_bytes written.nonce s.page s.content) saved in
    let records = whole_records ++ written.torn in
    let whole : journal ≡ head ++ records = written.bytes ∙ append_assoc head whole_records written.torn in
    let kind : kind_of page_size journal ≡ kind.Hot written.nonce =
    ap (kind_of page_size) whole ∙ head_bytes-kind written.nonce written.pages page_size written.nonce_fits fits records in
    let saves : hot_records page_size journal ≡ saved =
    ap (hot_records page_size) whole ∙ head_bytes-saves written.nonce written.pages page_size written.nonce_fits fits records
    ∙ saved_in-written written.nonce page_size saved written.torn written.savable written.cut in
    text_of-kind page_size journal ∙ rw (kind, saves) refl
