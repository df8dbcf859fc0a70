-- Which journals are hot.
use Rattle.std.proofs.Common.{◌≡◌, ◌≢◌, ℕ, ◌+◌, ◌*◌, ◌^◌, ◌%◌, ◌<◌, ◌≤◌, List, refl, arith, sym, ap, ◌∙◌, Bool, true, false, cond, Option, Some, None, ⊎_elim, bit_or, w16}
use Rattle.std.specs.Prelude.{◌==◌, ◌&&◌}
use Rattle.std.specs.Int.{bit_at}
use Rattle.std.proofs.lemmas.Bool.{cases_eq}
use Rattle.std.proofs.lemmas.Nat.Bits.{bit_at-zero, bit_at_set_same, bit_at_set_other}
use Rattle.spe_model.specs.Big.{u32_at}
use Rattle.spe_model.specs.Content.{Content}
use Rattle.spe_model.specs.Journal.{has_head, head_page_size, is_hot}
use Rattle.spe_model.specs.Recovery.{journal_of}
use Rattle.spe_model.specs.Trace.{History, present}
use Rattle.spe_journal.specs.Kind.{kind_of}
use Rattle.spe_journal.specs.declared.head.JournalKind.{JournalKind}
use Rattle.spe_journal.specs.declared.head.JournalKind.TheVariants.{Cold, OtherSize, Hot}
use Rattle.spe_recover.specs.Heads.{says_hot}

hot_tests : (headed same : Bool) (named nonce : ℕ) → headed && same ≡ says_hot (cond headed (cond same (Hot nonce) (OtherSize named)) Cold)
hot_tests true true named nonce = refl
hot_tests true false named nonce = refl
hot_tests false same named nonce = refl

hot-kind : (page_size : ℕ) (journal : List ℕ) → is_hot page_size journal ≡ says_hot (kind_of page_size journal)
unfolding is_hot kind_of
hot-kind page_size journal = hot_tests (has_head journal) (head_page_size journal == page_size) (head_page_size journal) (u32_at journal 12)

pub hot_is : (content : Content) (page_size id : ℕ) (kind : JournalKind) → kind_of page_size (journal_of content id) ≡ kind → says_hot kind ≡ is_hot page_size (journal_of content id)
hot_is content page_size id kind is = sym (hot-kind page_size (journal_of content id) ∙ ap says_hot is)

-- the bits so far
pub record AreRolled (page_size id rolled : ℕ) (content : Content) : Type 0 where
  pub set : (i : ℕ) → i < id → bit_at rolled i ≡ cond (is_hot page_size (journal_of content i)) 1 0
  pub unset : (i : ℕ) → id ≤ i → bit_at rolled i ≡ 0

pub rolled_first : (content : Content) (page_size : ℕ) → AreRolled page_size 0 0 content
rolled_first content page_size = record { set = λ i below. absurd (omega arith); unset = λ i above. bit_at-zero i }

rolled_hot : (content : Content) (page_size id rolled : ℕ) → id < 16 → true ≡ is_hot page_size (journal_of content id)
    → AreRolled page_size id rolled content → AreRolled page_size (id + 1) (bit_or rolled (1 * 2 ^ id % 2 ^ 16)) content
rolled_hot content page_size id rolled few hot so_far = record {
  set = λ i below. ⊎_elim
      (λ (same : i ≡ id). rw (same, ← hot) (bit_at_set_same w16 rolled id few))
      (λ (apart : i ≢ id). bit_at_set_other w16 rolled id few i apart ∙ so_far.set i (omega arith))
      (cases_eq i id);
  unset = λ i above. bit_at_set_other w16 rolled id few i (omega arith) ∙ so_far.unset i (omega arith);
}

rolled_cold : (content : Content) (page_size id rolled : ℕ) → id < 16 → false ≡ is_hot page_size (journal_of content id)
    → AreRolled page_size id rolled content → AreRolled page_size (id + 1) rolled content
rolled_cold content page_size id rolled few cold so_far = record {
  set = λ i below. ⊎_elim
      (λ (same : i ≡ id). rw (same, ← cold) (so_far.unset id (omega arith)))
      (λ (apart : i ≢ id). so_far.set i (omega arith))
      (cases_eq i id);
  unset = λ i above. so_far.unset i (omega arith);
}

pub rolled_all : (content : Content) (page_size id rolled : ℕ) → 16 ≤ id → AreRolled page_size id rolled content
    → (i : ℕ) → i < 16 → bit_at rolled i ≡ cond (is_hot page_size (journal_of content i)) 1 0
rolled_all content page_size id rolled all so_far = λ i below. so_far.set i (omega arith)

pub rolled_turn : (content : Content) (page_size id rolled next : ℕ) (hot : Bool) → id < 16 → hot ≡ is_hot page_size (journal_of content id)
    → next ≡ cond hot (bit_or rolled (1 * 2 ^ id % 2 ^ 16)) rolled → AreRolled page_size id rolled content → AreRolled page_size (id + 1) next content
rolled_turn content page_size id rolled next true few hot is so_far = rw is (rolled_hot content page_size id rolled few hot so_far)
rolled_turn content page_size id rolled next false few hot is so_far = rw is (rolled_cold content page_size id rolled few hot so_far)
