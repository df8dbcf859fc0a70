-- The clauses of a rewriting, from its law and from what was made.
use Rattle.std.proofs.Common.{◌≡◌, ℕ, ◌*◌, ◌≤◌, ◌<◌, ◌^◌, List, ◌++◌, length, sym, subst, ◌∙◌, Option, Some, None, Result, Ok, Err, OnOk}
use Rattle.spe_model.specs.declared.file.FileNo.TheVariants.{Database}
use Rattle.spe_model.specs.Content.{Content, bytes_of}
use Rattle.spe_model.specs.Covered.{Recovers}
use Rattle.spe_model.specs.Recovery.{file_page, file_page_size}
use Rattle.spe_model.specs.Trace.{History, Operation, present}
use Rattle.spe_crash.proofs.TraceLemmas.{cut_covered, cut_whole}
use Rattle.spe_crash.specs.Pages.{QuietIsWhole}
use Rattle.spe_transactions.specs.Pages.{laid_pages}
use Rattle.spe_rewrite.specs.declared.change.Change.{Change}
use Rattle.spe_rewrite.specs.Changes.{AreChanges, changed}
use Rattle.spe_rewrite.specs.Idle.{AreIdle, MayRewrite}
use Rattle.spe_rewrite.specs.Laws.{RewriteTurns}
use Rattle.spe_rewrite.specs.Rewrite.{rewrite_of}
use Rattle.spe_disk.specs.Added.{AddsSome, IfBothTold, IfTold, Makes, MakesCut}
use Rattle.spe_rewrite.specs.Turns.{IsFront, Turns}
use Rattle.spe_rewrite.proofs.LeftLemmas.{IsCut-trans, present_after}

pub OnOk-map : {X E : Type 0} (result : Result X E) {P Q : Type 0} → (P → Q) → OnOk result P → OnOk result Q
OnOk-map (Ok x) f p = f p
OnOk-map (Err e) f p = tt

-- all of it is one of the things that a stop may leave
pub whole_cut : (old new : Option History) (ops : Content → List Operation) → Makes old new ops → MakesCut old new ops
whole_cut None new ops makes = tt
whole_cut (Some h) new ops makes = record { made = ops (present h); adds = makes; holds = cut_whole (ops (present h)) }

module _ (size count : ℕ) (changes : List Change) where
  pub size_told : (told : Option History) → IfTold told (MayRewrite size count changes) → IfTold told (λ content. file_page_size content ≡ size)
  size_told None may = tt
  size_told (Some h) may = may.idle.sized

  pub whole_told : QuietIsWhole → (told : Option History) → IfTold told (MayRewrite size count changes) → IfTold told (λ content. count * size ≤ length (bytes_of content Database))
  whole_told wholes None may = tt
  whole_told wholes (Some h) may =
      subst (λ (n : ℕ). n * size ≤ length (bytes_of (present h) Database)) may.count_is
      (subst (λ (s : ℕ). length may.pages * s ≤ length (bytes_of (present h) Database)) may.idle.sized (wholes (present h) may.pages may.idle.recovers may.idle.quiet))

  module _ (law : RewriteTurns) (are : AreChanges size changes) (wide : 512 ≤ size) (nonce : ℕ) (small : nonce < 2 ^ 32) where
    abbrev ops_of : Content → List Operation
    ops_of content = rewrite_of (file_page content) size count nonce changes

    turns_of : (content : Content) → MayRewrite size count changes content → (pages : List (List ℕ)) → Recovers content pages → Turns size content (ops_of content) pages (laid_pages pages (changed changes))
    turns_of content may pages recovers =
        let same : may.pages ≡ pages = (let both : Ok may.pages ≡ Ok pages = sym may.idle.recovers ∙ recovers in cc) in
        subst (λ (ps : List (List ℕ)). Turns size content (ops_of content) ps (laid_pages ps (changed changes))) same
        (subst (λ (n : ℕ). Turns size content (rewrite_of (file_page content) size n nonce changes) may.pages (laid_pages may.pages (changed changes))) may.count_is
        (law content may.pages size nonce changes may.idle are may.lay wide small))

    pub rewritten : (old new : Option History) → IfTold old (MayRewrite size count changes) → Makes old new ops_of
        → IfBothTold old new (λ content now. (pages : List (List ℕ)) → Recovers content pages → AreIdle size now (laid_pages pages (changed changes)))
    rewritten None new may makes = tt
    rewritten (Some h) None may makes = tt
    rewritten (Some h) (Some k) may makes = λ pages recovers.
        let same : k ≡ record { first = h.first; trace = h.trace ++ ops_of (present h) } = cc in
        subst (λ (now : Content). AreIdle size now (laid_pages pages (changed changes))) (sym (present_after h (ops_of (present h)) k same)) (turns_of (present h) may pages recovers).ends

    pub stops : (old new : Option History) → IfTold old (MayRewrite size count changes) → MakesCut old new ops_of
        → IfTold old (λ content. AddsSome old new (λ made. (pages : List (List ℕ)) → Recovers content pages → IsFront content (ops_of content) made pages (laid_pages pages (changed changes))))
    stops None new may cut = tt
    stops (Some h) new may cut = record {
      made = cut.made;
      adds = cut.adds;
      holds = λ pages recovers.
          let t = turns_of (present h) may pages recovers in
          record {
            front = cut.holds;
            covered = cut_covered (present h) (ops_of (present h)) cut.made t.covered cut.holds;
            stops = λ some within. t.stops some (IsCut-trans (ops_of (present h)) cut.made some cut.holds within);
          };
    }
