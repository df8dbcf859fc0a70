-- What `prepare` answers and makes over pages that break no rule.
use Rattle.std.proofs.Common.{◌≡◌, ℕ, List, [], true, false, Option, Some, None, Result, Ok, Err, refl, sym, ap, ◌∙◌, subst, inl, inr, ⊎_elim, Bool}
use Rattle.std.specs.Prelude.{IfErr, IfOk, ◌≢◌}
use Rattle.spe_model.specs.declared.recovery.Recovered.{Recovered}
use Rattle.spe_model.specs.Content.{Content}
use Rattle.spe_model.specs.Settled.{IsFound, IsWithinLimits, page_in}
use Rattle.spe_model.specs.Standing.{Whether}
use Rattle.spe_model.specs.Trace.{History, Operation, present}
use Rattle.spe_disk.specs.Added.{AddsSome}
use Rattle.spe_convert.specs.declared.fault.ConvertFault.{ConvertFault}
use Rattle.spe_convert.specs.declared.fault.ConvertFault.TheVariants as faults
use Rattle.spe_convert.specs.Causes.{HasPrepareCause, IsPrepareFault}
use Rattle.spe_convert.specs.Free.{IsDamage}
use Rattle.spe_convert.specs.Prepare.{ArePrepared, IsAllPrepared, IsFullWhere, IsNoneOrPart, IsPartPrepared, IsPreparedExactly, making_and_preparing, prepared_count}
use Rattle.spe_convert.specs.Reading.{usable_of}
use Rattle.spe_convert.specs.Release.{WhereFound}
use Rattle.spe_verdict.specs.Law.{StandsIsTrue}
use Rattle.spe_words.specs.declared.command.Command.{Command}
use Rattle.spe_words.specs.declared.command.Command.TheVariants as commands
use Rattle.spe_serve.specs.declared.reply.Reply.{Reply}
use Rattle.spe_serve.specs.declared.reply.Reply.TheVariants as replies
use Rattle.spe_serve.specs.Answer.{IsOverFound}
use Rattle.spe_serve.specs.Behind.{AreSomeOwn, IsOwnFor, MakesOwn, prepared_reply}
use Rattle.spe_serve.specs.Ending.{outcome_of}
use Rattle.spe_serve.specs.Failure.{IsCausedByEither}
use Rattle.spe_serve.specs.Own.{are_preparing, are_sound}
use Rattle.spe_serve.specs.Reply.{IsAboutPrepare, is_done}
use Rattle.spe_serve.proofs.BehindLemmas.{AreSoundIn, IsDamagedIn, never_damaged}
use Rattle.spe_serve.proofs.FormLemmas.{Sound, over, over_full, over_named, over_prepared, sound_in}

-- all that is told of putting free lists in server form
pub record Prepares (found : Recovered) (lists : ℕ) (old new : Option History) (result : Result ℕ ConvertFault) : Type 0 where
  pub law : StandsIsTrue
  pub limits : IsWithinLimits found
  pub sound : AreSoundIn found old
  pub whole : IfOk result (λ count. WhereFound old found (λ content pages. IsAllPrepared found lists pages (making_and_preparing found lists content pages) old new count))
  pub stops : WhereFound old found (λ content pages. AddsSome old new (IsNoneOrPart found lists content pages (making_and_preparing found lists content pages)))
  pub prepared : WhereFound old found (λ content pages. IsPreparedExactly result (page_in pages))
  pub full : WhereFound old found (λ content pages. IsFullWhere found lists result (page_in pages))
  pub damaged : IsDamagedIn found old result
  pub untouched : IfErr result (λ fault. fault ≢ faults.Disk → fault ≢ faults.Memory → new ≡ old)

sound_at : (found : Recovered) (lists : ℕ) (h : History) (new : Option History) (result : Result ℕ ConvertFault) → Prepares found lists (Some h) new result
    → (pages : List (List ℕ)) → IsFound found (present h) pages → Sound pages
sound_at found lists h new result p pages is = sound_in found (present h) pages p.law p.limits is (p.sound pages is)

-- the answer
pub prepare_reply : (found : Recovered) (lists : ℕ) (old new : Option History) (result : Result ℕ ConvertFault) → Prepares found lists old new result
    → IfOk (prepared_reply lists result) (λ reply. WhereFound old found (λ content pages. IsOverFound (commands.Prepare [] lists) pages reply))
prepare_reply found lists None new (Ok count) p = tt
prepare_reply found lists None new (Err (faults.Corrupt page)) p = tt
prepare_reply found lists None new (Err (faults.Full n)) p = tt
prepare_reply found lists None new (Err faults.Prepared) p = tt
prepare_reply found lists old new (Err faults.Disk) p = tt
prepare_reply found lists old new (Err faults.Memory) p = tt
prepare_reply found lists (Some h) new (Ok count) p = λ pages is.
    let done = p.whole pages is in
    sym (over_prepared found (present h) lists pages done.free is (sound_at found lists h new (Ok count) p pages is) done.prepared_are
    ∙ ap (λ (n : ℕ). replies.Prepared lists n) (sym done.counted_is))
prepare_reply found lists (Some h) new (Err (faults.Corrupt page)) p = λ pages is.
    absurd (never_damaged found (present h) pages p.law p.limits is (p.sound pages is) (p.damaged pages is))
prepare_reply found lists (Some h) new (Err (faults.Full n)) p = λ pages is.
    sym (over_full found (present h) lists n pages is (sound_at found lists h new (Err (faults.Full n)) p pages is) (p.prepared pages is) (p.full pages is))
prepare_reply found lists (Some h) new (Err faults.Prepared) p = λ pages is.
    sym (over_named lists pages (sound_at found lists h new (Err faults.Prepared) p pages is) (p.prepared pages is))

pub prepare_about : (lists : ℕ) (result : Result ℕ ConvertFault) → IfOk (prepared_reply lists result) (IsAboutPrepare lists)
prepare_about lists (Ok count) = refl
prepare_about lists (Err faults.Disk) = tt
prepare_about lists (Err faults.Memory) = tt
prepare_about lists (Err faults.Prepared) = tt
prepare_about lists (Err (faults.Corrupt page)) = tt
prepare_about lists (Err (faults.Full n)) = tt

pub prepare_cause : (reads reads_now ops ops_now lists : ℕ) (result : Result ℕ ConvertFault) → HasPrepareCause reads reads_now ops ops_now result
    → IfErr (prepared_reply lists result) (IsCausedByEither reads reads_now ops ops_now)
prepare_cause reads reads_now ops ops_now lists result cause = go result cause.failed
  where
    go : (r : Result ℕ ConvertFault) → IfErr r (IsPrepareFault reads reads_now ops ops_now) → IfErr (prepared_reply lists r) (IsCausedByEither reads reads_now ops ops_now)
    go (Ok count) failed = tt
    go (Err faults.Disk) failed = failed
    go (Err faults.Memory) failed = tt
    go (Err faults.Prepared) failed = tt
    go (Err (faults.Corrupt page)) failed = tt
    go (Err (faults.Full n)) failed = tt

-- pages that may be put in server form are not refused
preparing : (found : Recovered) (content : Content) (lists : ℕ) (pages : List (List ℕ)) (free : List ℕ) → IsFound found content pages → Sound pages
    → ArePrepared found lists pages free → are_preparing lists pages ≡ true
preparing found content lists pages free is s are = ap is_done (over_prepared found content lists pages free is s are)

abbrev AllOrNone : Recovered → (lists : ℕ) → Option History → Option History → Content → List (List ℕ) → Bool → Type 0
AllOrNone found lists old new content pages b =
    Whether b ((count : ℕ) × IsAllPrepared found lists pages (making_and_preparing found lists content pages) old new count) (new ≡ old)

-- what was made
pub prepare_own : (db : List ℕ) (found : Recovered) (lists : ℕ) (old new : Option History) (result : Result ℕ ConvertFault) → Prepares found lists old new result
    → IsOwnFor (commands.Prepare db lists) found old new (outcome_of (prepared_reply lists result))
prepare_own db found lists old new result p = by_result result p
  where
    some : (o : Option History) (r : Result ℕ ConvertFault) → Prepares found lists o new r → WhereFound o found (λ content pages. AddsSome o new (AreSomeOwn (commands.Prepare db lists) found content pages))
    some None r p = tt
    some (Some h) r p = λ pages is.
        let s = p.stops pages is in
        record {
          made = s.made;
          adds = s.adds;
          holds = ⊎_elim
              (λ (none : s.made ≡ []). inl none)
              (λ (part : IsPartPrepared found lists (present h) pages (making_and_preparing found lists (present h) pages) s.made).
              inr (preparing found (present h) lists pages part.free is (sound_at found lists h new r p pages is) part.prepared_are, part))
              s.holds;
        }

    all : (o : Option History) (count : ℕ) → Prepares found lists o new (Ok count) → WhereFound o found (MakesOwn (commands.Prepare db lists) found o new)
    all None count p = tt
    all (Some h) count p = λ pages is.
        let done = p.whole pages is in
        let is_true = preparing found (present h) lists pages done.free is (sound_at found lists h new (Ok count) p pages is) done.prepared_are in
        subst (AllOrNone found lists (Some h) new (present h) pages) (sym is_true) (count, done)

    refused : (o : Option History) (r : Result ℕ ConvertFault) (reply : Reply) → Prepares found lists o new r → is_done reply ≡ false → new ≡ o
        → ((h : History) → o ≡ Some h → (pages : List (List ℕ)) → IsFound found (present h) pages → over lists pages ≡ reply)
        → WhereFound o found (MakesOwn (commands.Prepare db lists) found o new)
    refused None r reply p undone same is_reply = tt
    refused (Some h) r reply p undone same is_reply = λ pages is.
        subst (AllOrNone found lists (Some h) new (present h) pages) (sym (ap is_done (is_reply h refl pages is) ∙ undone)) same

    never : (o : Option History) (page : ℕ) → Prepares found lists o new (Err (faults.Corrupt page)) → WhereFound o found (MakesOwn (commands.Prepare db lists) found o new)
    never None page p = tt
    never (Some h) page p = λ pages is. absurd (never_damaged found (present h) pages p.law p.limits is (p.sound pages is) (p.damaged pages is))

    named : (o : Option History) → Prepares found lists o new (Err faults.Prepared) → (h : History) → o ≡ Some h → (pages : List (List ℕ)) → IsFound found (present h) pages
        → over lists pages ≡ replies.AlreadyPrepared
    named None p h there pages is = absurd cc
    named (Some k) p h there pages is = let one : h ≡ k = cc in let is_k = subst (λ (i : History). IsFound found (present i) pages) one is in
        over_named lists pages (sound_at found lists k new (Err faults.Prepared) p pages is_k) (p.prepared pages is_k)

    over_room : (o : Option History) (n : ℕ) → Prepares found lists o new (Err (faults.Full n)) → (h : History) → o ≡ Some h → (pages : List (List ℕ)) → IsFound found (present h) pages
        → over lists pages ≡ replies.Full n
    over_room None n p h there pages is = absurd cc
    over_room (Some k) n p h there pages is = let one : h ≡ k = cc in let is_k = subst (λ (i : History). IsFound found (present i) pages) one is in
        over_full found (present k) lists n pages is_k (sound_at found lists k new (Err (faults.Full n)) p pages is_k) (p.prepared pages is_k) (p.full pages is_k)

    by_result : (r : Result ℕ ConvertFault) → Prepares found lists old new r → IsOwnFor (commands.Prepare db lists) found old new (outcome_of (prepared_reply lists r))
    by_result (Ok count) p = record { part = some old (Ok count) p; whole = all old count p }
    by_result (Err faults.Disk) p = record { part = some old (Err faults.Disk) p; whole = tt }
    by_result (Err faults.Memory) p = record { part = some old (Err faults.Memory) p; whole = tt }
    by_result (Err faults.Prepared) p = record {
      part = some old (Err faults.Prepared) p;
      whole = refused old (Err faults.Prepared) replies.AlreadyPrepared p refl (p.untouched (λ same. cc) (λ same. cc)) (named old p);
    }
    by_result (Err (faults.Full n)) p = record {
      part = some old (Err (faults.Full n)) p;
      whole = refused old (Err (faults.Full n)) (replies.Full n) p refl (p.untouched (λ same. cc) (λ same. cc)) (over_room old n p);
    }
    by_result (Err (faults.Corrupt page)) p = record { part = some old (Err (faults.Corrupt page)) p; whole = never old page p }
