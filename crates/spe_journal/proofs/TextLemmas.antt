-- What a whole journal reads as, given what its head says.
use Rattle.std.proofs.Common.{◌≡◌, ℕ, List, [], ◌∷◌, ◌++◌, take, drop, refl, ap, ◌∙◌, sym, true, false, Bool, cond, map}
use Rattle.std.proofs.lemmas.List.{append_assoc, take-append-drop}
use Rattle.std.specs.Prelude.{◌==◌}
use Rattle.spe_model.specs.Big.{u32_at}
use Rattle.spe_model.specs.Journal.{Saved, has_head, head_page_size, hot_records}
use Rattle.spe_journal.specs.Saved.{saved_in}
use Rattle.spe_journal.specs.Kind.{kind_of}
use Rattle.spe_journal.specs.declared.text.Record.{Record}
use Rattle.spe_journal.specs.Text.{record_of, text_of}
use Rattle.spe_journal.specs.declared.head.JournalKind.{JournalKind}
use Rattle.spe_journal.specs.declared.head.JournalKind.TheVariants as kind
use Rattle.spe_journal.specs.declared.text.JournalText.{JournalText}
use Rattle.spe_journal.specs.declared.text.JournalText.TheVariants as text

-- the text under a head that says this
abbrev pub text_under : JournalKind → List Saved → JournalText
text_under kind.Cold saved = text.Cold
text_under (kind.OtherSize size) saved = text.OtherSize size
text_under (kind.Hot nonce) saved = text.Hot (map record_of saved)

by_tests : (headed same : Bool) (named nonce : ℕ) (saved : List Saved)
    → cond headed (cond same (text.Hot (map record_of saved)) (text.OtherSize named)) text.Cold
    ≡ text_under (cond headed (cond same (kind.Hot nonce) (kind.OtherSize named)) kind.Cold) saved
by_tests true true named nonce saved = refl
by_tests true false named nonce saved = refl
by_tests false same named nonce saved = refl

pub text_of-kind : (page_size : ℕ) (journal : List ℕ) → text_of page_size journal ≡ text_under (kind_of page_size journal) (hot_records page_size journal)
unfolding text_of kind_of
text_of-kind page_size journal =
    by_tests (has_head journal) (head_page_size journal == page_size) (head_page_size journal) (u32_at journal 12) (hot_records page_size journal)

-- one record moves from what is left to what is found
pub found-more : (nonce page_size size : ℕ) (left piece rest : List ℕ) (saved : Saved) (found now all : List Record)
    → piece ≡ take size left → rest ≡ drop size left
    → saved_in nonce page_size (piece ++ rest) ≡ saved ∷ saved_in nonce page_size rest
    → now ≡ found ++ record_of saved ∷ []
    → found ++ map record_of (saved_in nonce page_size left) ≡ all
    → now ++ map record_of (saved_in nonce page_size rest) ≡ all
found-more nonce page_size size left piece rest saved found now all front back first pushed before =
    let joined : piece ++ rest ≡ left = rw (front, back) (take-append-drop size left) in
    let step : saved_in nonce page_size left ≡ saved ∷ saved_in nonce page_size rest = sym (ap (saved_in nonce page_size) joined) ∙ first in
    rw (pushed, append_assoc) (rw step at before)
