-- Chains whose pages are in use elsewhere.
use Rattle.std.proofs.Common.{◌≡◌, ℕ, ◌∙◌, List, ap, arith, Option, unwrap_or}
use Rattle.spe_model.specs.Standing.{link_pages}
use Rattle.spe_space.specs.declared.pages.Pages.{Ghosts}
use Rattle.spe_space.specs.Calls.{sight}
use Rattle.spe_frame.specs.Chain.{ChainStays}
use Rattle.spe_frame.specs.Times.{times}
use Rattle.spe_frame.proofs.TimesLemmas.{Each, each_from_holds}
use Rattle.spe_frame.proofs.TreeLemmas.{IsKept, bytes_kept, link_pages_kept, links_kept}

pub chain_stays : {P : Type 0} (g : Ghosts P) → ChainStays g
chain_stays g old new pages own allocs usable count left page spares others lacks =
    let a = sight g old pages in
    let b = sight g new pages in
    let all = link_pages a count page in
    let kept : Each (IsKept a b) all = each_from_holds (IsKept a b) all (λ n some.
    ap (λ (o : Option (List ℕ)). unwrap_or o (pages n)) (spares.laid n (others n some)
    (λ (e : n ≡ 1). let none : times n all ≡ 0 = ap (λ (m : ℕ). times m all) e ∙ lacks in absurd (omega (arith, some, none))))) in
    record {
      pages_are = link_pages_kept a b count page kept;
      bytes_are = bytes_kept usable a b count left page kept;
      links = links_kept usable a b count left page kept;
    }
