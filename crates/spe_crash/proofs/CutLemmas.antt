-- Journals are cut to nothing, one after the other.
use Rattle.std.proofs.Common.{◌≡◌, ◌≢◌, ℕ, zero, suc, ◌+◌, ◌<◌, ◌≤◌, List, [], ◌∷◌, length, map, refl, arith, ◌∙◌, true, false, Some, ⊎_elim, inl, inr}
use Rattle.std.specs.Prelude.{filter, nat_lt, slice_get, slice_set, unwrap_or}
use Rattle.std.specs.List.{list_any}
use Rattle.std.proofs.lemmas.Bool.{cases_Bool, cases_eq, ltb-false, or_parts}
use Rattle.std.proofs.lemmas.List.{nil_from_length}
use Rattle.spe_model.specs.declared.file.FileNo.TheVariants.{Database, Journal}
use Rattle.spe_model.specs.Content.{Content, bytes_of, flatten}
use Rattle.spe_model.specs.Covered.{Recovers, is_held}
use Rattle.spe_model.specs.Journal.{numbers_from}
use Rattle.spe_model.specs.Recovery.{journal_of}
use Rattle.spe_model.specs.Rollback.{cut_of, has_length}
use Rattle.spe_model.specs.Trace.{Operation, after, made_by}
use Rattle.spe_crash.proofs.FileLemmas.{file_stays, journal_leaves}
use Rattle.spe_crash.proofs.KeepLemmas.{keeps}
use Rattle.spe_crash.proofs.PagesLemmas.{opened}
use Rattle.spe_crash.proofs.RollLemmas.{Rolls}
use Rattle.spe_crash.proofs.ThinLemmas.{IsInPlace, IsThinned, thin_keeps}

get_cut : (content : Content) (n : ℕ) → unwrap_or (flatten (slice_get (slice_set content n (Some [])) n)) [] ≡ []
get_cut [] n = refl
get_cut (f ∷ fs) zero = refl
get_cut (f ∷ fs) (suc n) = get_cut fs n

-- a journal that was cut has no bytes, and the others stay
pub cut_empties : (content : Content) (id : ℕ) → journal_of (made_by (cut_of id) content) id ≡ []
cut_empties content id = get_cut content (id + 1)

pub cut_leaves : (content : Content) (id i : ℕ) → id ≢ i → journal_of (made_by (cut_of id) content) i ≡ journal_of content i
cut_leaves content id i apart = file_stays content (Journal id) (Journal i) _ (λ same. apart (omega arith))

pub cut_thins : (old now : Content) (id : ℕ) → IsThinned old now → IsThinned old (made_by (cut_of id) now)
cut_thins old now id thin i = ⊎_elim
    (λ (here : id ≡ i). inr (rw (← here) (cut_empties now id)))
    (λ (other : id ≢ i).
    ⊎_elim (λ (stays : journal_of now i ≡ journal_of old i). inl (cut_leaves now id i other ∙ stays)) (λ (gone : journal_of now i ≡ []). inr (cut_leaves now id i other ∙ gone)) (thin i))
    (cases_eq id i)

-- the cuts of those of some journals that had bytes
abbrev pub cuts_in : Content → (n count : ℕ) → List Operation
cuts_in base n count = map cut_of (filter (has_length base) (numbers_from n count))

pub cuts_leave_file : (base now : Content) (n count : ℕ) → bytes_of (after now (cuts_in base n count)) Database ≡ bytes_of now Database
cuts_leave_file base now n zero = refl
cuts_leave_file base now n (suc count) = ⊎_elim
    (λ (long : has_length base n ≡ true). rw long (cuts_leave_file base (made_by (cut_of n) now) (n + 1) count ∙ journal_leaves now n _))
    (λ (short : has_length base n ≡ false). rw short (cuts_leave_file base now (n + 1) count))
    (cases_Bool (has_length base n))

pub cuts_roll : (base old now : Content) (pages : List (List ℕ)) (n count : ℕ) → Recovers old pages → ((p : ℕ) → 1 ≤ p → p ≤ length pages → is_held old p ≡ true → IsInPlace old p)
    → bytes_of now Database ≡ bytes_of old Database → IsThinned old now → Rolls pages now (cuts_in base n count)
cuts_roll base old now pages n zero recovers place file thin = keeps old now pages (thin_keeps old now pages (opened old pages recovers) file thin place) recovers
cuts_roll base old now pages n (suc count) recovers place file thin = ⊎_elim
    (λ (long : has_length base n ≡ true).
    rw long (
      keeps old now pages (thin_keeps old now pages (opened old pages recovers) file thin place) recovers,
      refl,
      tt,
      cuts_roll base old (made_by (cut_of n) now) pages (n + 1) count recovers place (journal_leaves now n _ ∙ file) (cut_thins old now n thin),
    ))
    (λ (short : has_length base n ≡ false). rw short (cuts_roll base old now pages (n + 1) count recovers place file thin))
    (cases_Bool (has_length base n))

cuts_leave : (base now : Content) (n count i : ℕ) → i < n → journal_of (after now (cuts_in base n count)) i ≡ journal_of now i
cuts_leave base now n zero i below = refl
cuts_leave base now n (suc count) i below = ⊎_elim
    (λ (long : has_length base n ≡ true). rw long (cuts_leave base (made_by (cut_of n) now) (n + 1) count i (omega arith) ∙ cut_leaves now n i (λ same. omega arith)))
    (λ (short : has_length base n ≡ false). rw short (cuts_leave base now (n + 1) count i (omega arith)))
    (cases_Bool (has_length base n))

no_bytes : (journal : List ℕ) → nat_lt 0 (length journal) ≡ false → journal ≡ []
no_bytes journal short = nil_from_length journal (let none : length journal ≤ 0 = ltb-false 0 (length journal) short in omega arith)

pub cuts_empty : (base now : Content) (n count i : ℕ) → ((j : ℕ) → n ≤ j → journal_of now j ≡ journal_of base j) → n ≤ i → i < n + count
    → journal_of (after now (cuts_in base n count)) i ≡ []
cuts_empty base now n zero i same low high = absurd (omega arith)
cuts_empty base now n (suc count) i same low high = ⊎_elim
    (λ (long : has_length base n ≡ true).
    rw long
    (⊎_elim
    (λ (here : i ≡ n). rw here (cuts_leave base (made_by (cut_of n) now) (n + 1) count n (omega arith) ∙ cut_empties now n))
    (λ (other : i ≢ n).
    cuts_empty base (made_by (cut_of n) now) (n + 1) count i (λ j above. cut_leaves now n j (λ at. omega arith) ∙ same j (omega arith)) (omega arith) (omega arith))
    (cases_eq i n)))
    (λ (short : has_length base n ≡ false).
    rw short
    (⊎_elim
    (λ (here : i ≡ n).
    rw here (cuts_leave base now (n + 1) count n (omega arith) ∙ same n (omega arith) ∙ no_bytes (journal_of base n) short))
    (λ (other : i ≢ n). cuts_empty base now (n + 1) count i (λ j above. same j (omega arith)) (omega arith) (omega arith))
    (cases_eq i n)))
    (cases_Bool (has_length base n))

pub none_long : (content : Content) (n count i : ℕ) → list_any (has_length content) (numbers_from n count) ≡ false → n ≤ i → i < n + count → journal_of content i ≡ []
none_long content n zero i none low high = absurd (omega arith)
none_long content n (suc count) i none low high =
    let both = or_parts (has_length content n) (list_any (has_length content) (numbers_from (n + 1) count)) none in
    ⊎_elim
    (λ (here : i ≡ n). rw here (no_bytes (journal_of content n) both.0))
    (λ (other : i ≢ n). none_long content (n + 1) count i both.1 (omega arith) (omega arith))
    (cases_eq i n)
