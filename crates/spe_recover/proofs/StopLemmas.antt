-- What recovery leaves, by the laws of a rollback.
use Rattle.std.proofs.Common.{◌≡◌, ℕ, List, [], ◌∷◌, map, refl, sym, ap, subst, ◌∙◌, Option, Some, None, Result, Ok, Err}
use Rattle.spe_model.specs.declared.recovery.RecoverFault.{RecoverFault}
use Rattle.spe_model.specs.Content.{Content}
use Rattle.spe_model.specs.Covered.{Covered}
use Rattle.spe_model.specs.Recovery.{file_page, pages_to, recovered}
use Rattle.spe_model.specs.Rollback.{rule_of}
use Rattle.spe_model.specs.Trace.{Operation, History, IsCut, after, present}
use Rattle.spe_crash.specs.Rollback.{RollbackKeeps, RollbackIsCovered, RollbackEmpties, RollbackRestores}
use Rattle.spe_recover.specs.Cuts.{KeepsAtStops}
use Rattle.spe_recover.specs.Recovered.{AreInFile, HasNoJournals, HasPages, rollback_of, rollback_to}
use Rattle.spe_disk.specs.Added.{IfBothTold, IfTold, MakesCut, WhereAdded}
use Rattle.spe_recover.specs.Written.{MakesCounted}
use Rattle.spe_recover.proofs.CutLemmas.{IsCut-trans}
use Rattle.spe_recover.proofs.RestoreLemmas.{Adds-nothing, present_after}

pub nothing_made : (told : Option History) (ops : Content → List Operation) → MakesCut told told ops
nothing_made None ops = tt
nothing_made (Some h) ops = record { made = []; adds = Adds-nothing (Some h); holds = tt }

pub keeps_by : RollbackKeeps → (content : Content) (outcome : Result (List (List ℕ)) RecoverFault) (cut : List Operation) → recovered content ≡ outcome
    → IsCut (rollback_to content outcome) cut → recovered (after content cut) ≡ outcome
keeps_by law content (Ok pages) cut is part = law content pages cut is part
keeps_by law content (Err fault) [] is part = is
keeps_by law content (Err fault) (o ∷ os) is part = absurd part

pub covered_by : RollbackIsCovered → (content : Content) (outcome : Result (List (List ℕ)) RecoverFault) (cut : List Operation) → recovered content ≡ outcome
    → IsCut (rollback_to content outcome) cut → Covered content cut
covered_by law content (Ok pages) cut is part = law content pages cut is part
covered_by law content (Err fault) [] is part = tt
covered_by law content (Err fault) (o ∷ os) is part = absurd part

some_same : {X : Type 0} {x y : X} → Some x ≡ Some y → x ≡ y
some_same e = cc

pub left_kept : (old new : Option History) → RollbackKeeps → MakesCut old new rollback_of → IfBothTold old new (λ content now. recovered now ≡ recovered content)
left_kept None new law c = tt
left_kept (Some h) None law c = tt
left_kept (Some h) (Some k) law c =
    ap recovered (present_after h c.made k (some_same c.adds)) ∙ keeps_by law (present h) (recovered (present h)) c.made refl c.holds

-- what holds once all was made
pub left_restored : (old new : Option History) (pages count made : ℕ) → count ≡ pages → RollbackRestores → IfTold old (λ content. HasPages content pages)
    → MakesCounted old new (λ content. rule_of content pages) made → IfBothTold old new (AreInFile count)
left_restored None new pages count made same law found makes = tt
left_restored (Some h) None pages count made same law found makes = tt
left_restored (Some h) (Some k) pages count made same law found makes =
    let content = present h in
    let now : present k ≡ after content (rule_of content pages) = present_after h (rule_of content pages) k (some_same makes.adds) in
    rw (same, now)
    (found.recovers
    ∙ ap Ok
    (sym (subst (λ (n : ℕ). map (file_page (after content (rule_of content n))) (pages_to n) ≡ found.pages) found.counted (law content found.pages found.recovers))))

pub left_empty : (old new : Option History) (pages made : ℕ) → RollbackEmpties → IfTold old (λ content. HasPages content pages)
    → MakesCounted old new (λ content. rule_of content pages) made → IfTold old (λ content. IfTold new HasNoJournals)
left_empty None new pages made law found makes = tt
left_empty (Some h) None pages made law found makes = tt
left_empty (Some h) (Some k) pages made law found makes =
    let content = present h in
    let now : present k ≡ after content (rule_of content pages) = present_after h (rule_of content pages) k (some_same makes.adds) in
    subst HasNoJournals (sym now) (subst (λ (n : ℕ). HasNoJournals (after content (rule_of content n))) found.counted (law content found.pages found.recovers))
