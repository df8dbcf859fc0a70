-- The first transaction of a preparation: what may be rewritten, and what the pages are then.
use Rattle.std.proofs.Common.{◌≡◌, ◌≢◌, ◌∙◌, ℕ, ◌*◌, ◌^◌, ◌<◌, ◌≤◌, List, [], take, length, map, refl, sym, ap, subst, arith, true, false, Bool, Option, None, unwrap_or}
use Rattle.std.specs.Prelude.{if◌then◌else◌, is_some, slice_index}
use Rattle.spe_model.specs.declared.recovery.Recovered.{Recovered}
use Rattle.spe_model.specs.Big.{u32_at}
use Rattle.spe_model.specs.Content.{Content}
use Rattle.spe_model.specs.Database.{Database as Data}
use Rattle.spe_model.specs.Header.{fields, is_size_valid}
use Rattle.spe_model.specs.Paging.{Paging, lay}
use Rattle.spe_model.specs.Recovery.{pages_to}
use Rattle.spe_model.specs.Settled.{IsWithinLimits, header_in, page_in}
use Rattle.spe_model.specs.Standing.{IsOneOf, StandsFor}
use Rattle.spe_space.proofs.FrontLemmas.{u32_at-take}
use Rattle.spe_frame.proofs.TimesLemmas.{there}
use Rattle.spe_crash.specs.Pages.{QuietIsWhole, RecoveredAreHeaded}
use Rattle.spe_transactions.specs.Pages.{named_count}
use Rattle.spe_transactions.proofs.WorkLemmas.{count_named}
use Rattle.spe_rewrite.specs.declared.change.Change.{Change}
use Rattle.spe_rewrite.specs.Changes.{changed}
use Rattle.spe_rewrite.specs.Idle.{AreIdle, MayRewrite}
use Rattle.spe_convert.specs.Changes.{counted_changes}
use Rattle.spe_convert.specs.Laws.{Counts}
use Rattle.spe_convert.specs.Prepare.{CountKept, count_changes, is_counted, with_count}
use Rattle.spe_convert.specs.Reading.{usable_of}
use Rattle.spe_convert.specs.Release.{AreResting}
use Rattle.spe_convert.proofs.CountLemmas.{count_keeps, counted_is}
use Rattle.spe_convert.proofs.FrontLemmas.{AreLike, FrontIs, LegalAgain, legal_again, parts_valid}
use Rattle.spe_convert.proofs.LaidLemmas.{not_laid, small_count}
use Rattle.spe_convert.proofs.ListLemmas.{none_laid}
use Rattle.spe_convert.proofs.ListedLemmas.{list_long, list_page, listed_for}
use Rattle.spe_convert.proofs.RestLemmas.{head, long, size_is, used, with_free}
use Rattle.spe_convert.proofs.ShownLemmas.{zero_first}

-- page 1 with a page count that counts
pub record CountFront (count : ℕ) (old new : List ℕ) : Type 0 where
  pub like : AreLike new old
  pub long : length new ≡ length old
  pub valid : is_size_valid (fields (take 100 new)) ≡ true
  pub named : named_count new ≡ count

module _ (headed : RecoveredAreHeaded) (wholes : QuietIsWhole) (found : Recovered) (limits : IsWithinLimits found) (content : Content) (pages : List (List ℕ)) (rests : AreResting found content pages) where
  abbrev by_case : Bool → List Change
  by_case b = if b then [] else counted_changes found.pages (page_in pages)

  abbrev pub cs : List Change
  cs = count_changes found.pages (page_in pages)

  abbrev pub new : Paging
  new = lay (changed cs) (page_in pages)

  front_case : (b : Bool) → is_counted (page_in pages) ≡ b → CountFront found.pages (page_in pages 1) (lay (changed (by_case b)) (page_in pages) 1)
  front_case true is = record {
    like = record { first = refl; middle = refl };
    long = refl;
    valid = is;
    named = count_named content pages rests.idle.recovers is ∙ rests.counted_are;
  }
  front_case false is =
      let few = small_count found.pages found.page_size limits.low limits.few in
      let some = limits.some in
      let now = lay (changed (counted_changes found.pages (page_in pages))) (page_in pages) 1 in
      let f : FrontIs found.pages (u32_at (page_in pages 1) 32) (u32_at (page_in pages 1) 36) (page_in pages 1) now =
      counted_is found.pages (page_in pages 1) (omega (arith, few)) (long headed wholes found limits content pages rests) in
      let number : u32_at (take 100 now) 28 ≡ found.pages = u32_at-take 100 28 now (omega arith) ∙ f.count_is in
      let copied : u32_at (take 100 now) 24 ≡ u32_at (take 100 now) 92 = u32_at-take 100 24 now (omega arith) ∙ f.copied ∙ sym (u32_at-take 100 92 now (omega arith)) in
      record {
        like = f.like;
        long = f.alike.long;
        valid = parts_valid (u32_at (take 100 now) 28) (u32_at (take 100 now) 24) (u32_at (take 100 now) 92) (omega (arith, number, some)) copied;
        named = number;
      }

  pub front : CountFront found.pages (page_in pages 1) (new 1)
  front = front_case (is_counted (page_in pages)) refl

  none_case : (b : Bool) (n : ℕ) → n ≢ 1 → changed (by_case b) n ≡ None
  none_case true n other = refl
  none_case false n other = none_laid (counted_changes found.pages (page_in pages)) n (let a = there n 1 [] other in omega (arith, a))

  none : (n : ℕ) → n ≢ 1 → changed cs n ≡ None
  none = none_case (is_counted (page_in pages))

  pub kept : (n : ℕ) → n ≢ 1 → new n ≡ page_in pages n
  kept n other = not_laid cs (page_in pages) n (none n other)

  again : LegalAgain (new 1) (header_in pages)
  again = legal_again (page_in pages 1) (new 1) (header_in pages) (head headed wholes found limits content pages rests).legal (long headed wholes found limits content pages rests) front.long front.like

  not_above : {X : Type 0} (p : ℕ) → length pages < p → is_some (changed cs p) ≡ true → X
  not_above p above some =
      let many = rests.counted_are in
      let low = limits.some in
      let none : is_some (changed cs p) ≡ false = ap is_some (none p (λ (e : p ≡ 1). absurd (omega (arith, e, above, many, low)))) in
      absurd (let both : true ≡ false = sym some ∙ none in cc)

  pub may_count : MayRewrite found.page_size found.pages cs content
  may_count = record {
    pages = pages;
    idle = rests.idle;
    count_is = rests.counted_are;
    lay = record {
      front = λ bytes is. let same : new 1 ≡ bytes = ap (λ (o : Option (List ℕ)). unwrap_or o (page_in pages 1)) is in ap (take 24) (sym same) ∙ front.like.first;
      first = λ p above some. not_above p above some;
      counted = λ p above some. not_above p above some;
      commit = record {
        legal = again.legal;
        valid = front.valid;
        low = let a = front.named in let b = rests.counted_are in omega (arith, a, b);
        small = subst (λ (k : ℕ). k * found.page_size ≤ 2 ^ 30) (sym front.named) limits.few;
        added = λ p above within. absurd (let a = front.named in let b = rests.counted_are in omega (arith, above, within, a, b));
      };
    };
  }

  -- the pages then
  pub list_is : with_count found pages ≡ map new (pages_to found.pages)
  list_is = ap (λ (k : ℕ). map new (pages_to k)) front.named

  pub list_number : length (with_count found pages) ≡ found.pages
  list_number = ap length list_is ∙ list_long new found.pages

  pub page_new : (n : ℕ) → IsOneOf found.pages n → page_in (with_count found pages) n ≡ new n
  page_new n inside = list_page new found.pages (with_count found pages) list_is n inside

  pub first_new : page_in (with_count found pages) 1 ≡ new 1
  first_new = page_new 1 (omega arith, limits.some)

  pub list_valid : is_size_valid (header_in (with_count found pages)) ≡ true
  list_valid = ap (λ (b : List ℕ). is_size_valid (fields (take 100 b))) first_new ∙ front.valid

  pub rests_again : (now : Content) → AreIdle found.page_size now (with_count found pages) → AreResting found now (with_count found pages)
  rests_again now idle = record {
    idle = idle;
    counted_are = list_number;
    reserved = ap (λ (b : List ℕ). slice_index (take 100 b) 20) first_new ∙ again.reserved ∙ rests.reserved;
  }

  counts_case : (b : Bool) → is_counted (page_in pages) ≡ b → (db : Data) (s : StandsFor (usable_of found) found.pages (page_in pages) db)
      → Counts found.page_size (usable_of found) found.pages (lay (changed (by_case b)) (page_in pages)) db s.listed
  counts_case true is db s = record {
    header = header_in pages;
    front = record {
      legal = (head headed wholes found limits content pages rests).legal;
      valid = is;
      number = count_named content pages rests.idle.recovers is ∙ rests.counted_are;
      few = subst (λ (k : ℕ). found.pages * k ≤ 2 ^ 30) (sym (size_is headed wholes found limits content pages rests)) limits.few;
    };
    size_is = size_is headed wholes found limits content pages rests;
    used = used headed wholes found limits content pages rests;
    stands = s;
    free_are = λ n. refl;
  }
  counts_case false is db s =
      (count_keeps found.page_size (usable_of found) found.pages (page_in pages) db s.listed (with_free headed wholes found limits content pages rests db s.listed s (λ n. refl))).1

  pub count_kept : CountKept found pages
  count_kept db s =
      let zero_kept : new 0 ≡ page_in pages 0 = kept 0 (λ (e : 0 ≡ 1). absurd (omega (arith, e))) in
      (listed_for found found.pages new (with_count found pages) db s.listed limits.some list_is
      (front.like.first ∙ ap (take 24) (sym (zero_first pages) ∙ sym zero_kept))
      (counts_case (is_counted (page_in pages)) refl db s)).is
