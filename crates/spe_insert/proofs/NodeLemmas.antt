-- Bytes of a page that is written.
use Rattle.std.proofs.Common.{◌≡◌, ℕ, ◌+◌, ◌≤◌, ◌∙◌, List, [], ◌∷◌, ◌++◌, take, drop, length, refl, sym, ap, subst, arith, Bool, true, false, Option, unwrap_or}
use Rattle.std.specs.Prelude.{if◌then◌else◌}
use Rattle.std.proofs.lemmas.List.{length-take-le, take-append-le, take-take}
use Rattle.spe_model.specs.declared.page.PageCells.{PageCells}
use Rattle.spe_model.specs.Paging.{Paging}
use Rattle.spe_model.specs.Tree.{header_end}
use Rattle.spe_space.specs.declared.pages.Pages.{Ghosts}
use Rattle.spe_space.specs.Calls.{sight}
use Rattle.spe_format.specs.Canonical.{canonical, fits, page_written, splice}
use Rattle.spe_frame.specs.Held.{HasHead}
use Rattle.spe_frame.specs.Times.{times}

-- what is put from byte 100 on leaves the bytes before
below : (b : Bool) (bytes old : List ℕ) → 100 ≤ length old → take 100 (if b then splice 100 bytes old else old) ≡ take 100 old
below false bytes old long = refl
below true bytes old long =
    let front : length (take 100 old) ≡ 100 = length-take-le 100 old long in
    take-append-le 100 (take 100 old) (bytes ++ drop (100 + length bytes) old) (omega (arith, front)) ∙ take-take 100 100 old (omega arith)

pub head_written : (page at usable : ℕ) (cells : PageCells) (old bytes front : List ℕ) → at ≡ header_end page → 100 ≤ length old → HasHead page front old
    → bytes ≡ page_written cells at usable old → HasHead page front bytes
head_written page at usable cells old bytes front at_is long head is first =
    let hundred : at ≡ 100 = at_is ∙ ap header_end first in
    ap (take 100) (is ∙ ap (λ (n : ℕ). page_written cells n usable old) hundred)
    ∙ below (fits cells 100 usable) (canonical cells 100 usable) old long ∙ head first

-- a page reads the same where nothing was put
pub front_same : {P : Type 0} (g : Ghosts P) (old new : P) (pages : Paging) (n : ℕ) → g.laid new ≡ g.laid old → sight g new pages n ≡ sight g old pages n
front_same g old new pages n same = ap (λ (laid : ℕ → Option (List ℕ)). unwrap_or (laid n) (pages n)) same

pub head_same : {P : Type 0} (g : Ghosts P) (old new : P) (pages : Paging) (page : ℕ) (bytes : List ℕ) → g.laid new ≡ g.laid old
    → HasHead page (sight g old pages 1) bytes → HasHead page (sight g new pages 1) bytes
head_same g old new pages page bytes same head first = head first ∙ sym (ap (take 100) (front_same g old new pages 1 same))

-- a page that was handed out is not page 1
pub not_first : (page : ℕ) → times 1 (page ∷ []) ≡ 0 → page ≡ 1 → ⊥
not_first page lacks first = let e = subst (λ (n : ℕ). times 1 (n ∷ []) ≡ 0) first lacks in absurd (omega (arith, e))
