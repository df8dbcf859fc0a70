-- A core is sound when it is opened.
use Rattle.std.proofs.Common.{◌≡◌, ℕ, zero, suc, ◌+◌, ◌≤◌, List, [], length, replicate, refl, sym, ap, ◌∙◌, arith, subst, true, Option, None}
use Rattle.std.specs.Prelude.{slice_get, unwrap_or}
use Rattle.spe_model.specs.Content.{flatten}
use Rattle.spe_model.specs.Covered.{Recovers}
use Rattle.spe_model.specs.Header.{is_size_valid}
use Rattle.spe_model.specs.Recovery.{journal_of}
use Rattle.spe_model.specs.Settled.{header_in}
use Rattle.spe_transactions.proofs.OpeningLemmas.{opening_works}
use Rattle.spe_transactions.proofs.PageLemmas.{header_is}
use Rattle.spe_core.specs.Laid.{pages_of}
use Rattle.spe_stored.specs.Stored.{alone}
use Rattle.spe_core.specs.Opening.{IsOpening, opened}
use Rattle.spe_core.specs.Sound.{AreServed, IsSound, now_laid}
use Rattle.spe_core.proofs.SoundLaid.{laid_all}
use Rattle.spe_core.proofs.SoundState.{nobody_served}

abbrev absent : Option (List ℕ)
absent = None

none_there : (count n : ℕ) → unwrap_or (flatten (slice_get (replicate count absent) n)) [] ≡ []
none_there zero n = refl
none_there (suc count) zero = refl
none_there (suc count) (suc n) = none_there count n

alone_bare : (bytes : List ℕ) (id : ℕ) → journal_of (alone bytes) id ≡ []
alone_bare bytes id = let back : id + 1 ≡ suc id = omega arith in rw back (none_there 16 id)

module _ (bytes : List ℕ) (o : IsOpening bytes) where
  own_counted : is_size_valid (header_in (pages_of (alone bytes))) ≡ true
  own_counted = ap is_size_valid (sym (header_is (alone bytes) (pages_of (alone bytes)) o.recovers)) ∙ o.counts

  own_laid : (slots : ℕ) → now_laid (opened bytes slots) ≡ pages_of (alone bytes)
  own_laid slots = laid_all (opened bytes slots)

  pub opened_sound : (slots : ℕ) → 1 ≤ slots → IsSound (opened bytes slots)
  opened_sound slots some = record {
    reads = λ n c found. absurd cc;
    files = refl;
    recovers = subst (Recovers (alone bytes)) (sym (own_laid slots)) o.recovers;
    counted = subst (λ (pages : List (List ℕ)). is_size_valid (header_in pages) ≡ true) (sym (own_laid slots)) own_counted;
    slots = some;
    doing =
        subst (AreServed slots [] (alone bytes)) (sym (own_laid slots))
        (nobody_served slots [] (alone bytes) (pages_of (alone bytes)) refl
        (opening_works (alone bytes) (pages_of (alone bytes)) refl o.recovers (λ id low. alone_bare bytes id)));
  }
