use Rattle.std.proofs.Common.{◌≡◌, ◌∙◌, ℕ, ap}
use Rattle.spe_model.specs.Paging.{Paging, lay}
use Rattle.spe_space.specs.Calls.{Reads, reads_both}
use Rattle.spe_space.specs.declared.pages.Pages.{Ghosts}
use Rattle.spe_check.specs.declared.met.Met.{Met}
use Rattle.std.specs.Prelude.{Result, Ok, Err, IfErr, refl}
use Rattle.spe_space.specs.Outcome.{refusal_of}
use Rattle.spe_check.specs.declared.halt.Halt.{Halt}
use Rattle.spe_check.specs.declared.halt.Halt.TheVariants.{Broken, Space}
use Rattle.spe_check.specs.Shown.{Shows, Walked, RefusesHalt}
use Rattle.spe_check.specs.Tries.{IsBroken}
use Rattle.spe_check.proofs.TriesLemmas.{the_err}

-- what a space shows after gets it showed before them
pub shows_before : {P : Type 0} (g : Ghosts P) (a b : P) (usable : ℕ) (pages : Paging) → Reads g a b → Shows g b usable pages → Shows g a usable pages
shows_before g a b usable pages reads shows = record {
  below = shows.below;
  agrees = reads.earlier shows.below shows.agrees;
  used = shows.used ∙ reads.used;
  is = shows.is ∙ ap (λ laid. lay laid shows.below) reads.laid;
}

pub walked_both : {P : Type 0} (g : Ghosts P) (a b c : P) (l m n : Met) → Walked g a b l m → Walked g b c m n → Walked g a c l n
walked_both g a b c l m n first second = record { reads = reads_both g a b c first.reads second.reads; pages = second.pages ∙ first.pages }

-- where a rule is broken the space is as it was
pub broken_refuses : {P : Type 0} (X : Type 0) (g : Ghosts P) (s : P) (halt : Halt) → IsBroken halt → RefusesHalt g s s (the_err X halt)
broken_refuses X g s (Broken page rule) is = refl
broken_refuses X g s (Space f) is = absurd is

-- a refusal after others that were none
pub refuses_after : {P : Type 0} (X Y : Type 0) (g : Ghosts P) (a b c : P) (halt : Halt) → g.refusal b ≡ g.refusal a
    → RefusesHalt g b c (the_err X halt) → RefusesHalt g a c (the_err Y halt)
refuses_after X Y g a b c (Broken page rule) same refuses = refuses ∙ same
refuses_after X Y g a b c (Space f) same refuses = refuses ∙ ap (refusal_of f) same

-- the same, whatever comes last
pub refuses_last : {P X : Type 0} (g : Ghosts P) (a b c : P) (r : Result X Halt) → g.refusal b ≡ g.refusal a → RefusesHalt g b c r → RefusesHalt g a c r
refuses_last g a b c (Ok x) same refuses = refuses ∙ same
refuses_last g a b c (Err (Broken page rule)) same refuses = refuses ∙ same
refuses_last g a b c (Err (Space f)) same refuses = refuses ∙ ap (refusal_of f) same

pub broken_refuses_last : {P X : Type 0} (g : Ghosts P) (a b : P) (r : Result X Halt) → g.refusal b ≡ g.refusal a → IfErr r IsBroken → RefusesHalt g a b r
broken_refuses_last g a b (Ok x) same is = same
broken_refuses_last g a b (Err (Broken page rule)) same is = same
broken_refuses_last g a b (Err (Space f)) same is = absurd is
