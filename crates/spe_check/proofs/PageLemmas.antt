use Rattle.std.proofs.Common.{◌≡◌, ◌∙◌, ℕ, zero, suc, ◌<◌, ◌==◌, ◌&&◌, ◌||◌, Bool, true, false, not, List, [], ◌∷◌, ◌++◌, take, refl, sym, ap, subst, arith, Option, Some, None}
use Rattle.std.specs.Prelude.{Result, Ok, Err}
use Rattle.spe_model.specs.declared.page.Kind.{Kind}
use Rattle.spe_model.specs.declared.page.PageCells.{PageCells}
use Rattle.spe_model.specs.declared.page.PageFault.{PageFault}
use Rattle.spe_model.specs.Kind.{is_leaf}
use Rattle.spe_model.specs.Page.{page_at}
use Rattle.spe_model.specs.Paging.{Paging}
use Rattle.spe_model.specs.Tree.{node_at, header_end}
use Rattle.spe_model.specs.Walk.{Mark, Names, Keeps, is_legal, has_kind, is_leaf_page, is_sort, levels_at_leaf}
use Rattle.spe_check.specs.declared.met.Met.{Met}
use Rattle.spe_check.specs.declared.halt.Halt.{Halt}
use Rattle.spe_check.specs.declared.halt.Halt.TheVariants.{Broken, Space}
use Rattle.std.specs.Prelude.{IfOk}
use Rattle.spe_model.specs.declared.page.PageFault.TheVariants.{BadType, OffsetOut, CellOut, Overlap, OutOfOrder, Memory}
use Rattle.spe_format.specs.Answers.{FailsPage}
use Rattle.spe_space.specs.declared.fault.SpaceFault.{SpaceFault}
use Rattle.spe_space.specs.declared.pages.Pages.{Ghosts}
use Rattle.spe_space.specs.Outcome.{refusal_of}
use Rattle.spe_check.specs.Pages.{is_of_sort, is_placed, stands_well, IsStand, IsHaltOf, IsReading, behind_read, place_marks, read_marks}
use Rattle.spe_check.specs.Shown.{RefusesHalt, Walked}
use Rattle.spe_check.specs.Tries.{Breaks, Tries}
use Rattle.spe_check.proofs.TriesLemmas.{tries_then, tries_halt, keeps_passes, the_ok, the_err}

eq_self : (n : ℕ) → (n == n) ≡ true
eq_self n = grind arith

at_first : (levels stand : ℕ) (kind : Kind) (b : Bool) → is_leaf kind ≡ b → (b ≡ true → stand ≡ levels) → true ≡ (not (is_leaf kind) || (levels == stand))
at_first levels stand kind true is same = rw (is, same refl, eq_self levels) refl
at_first levels stand kind false is same = rw is refl

and_true : (b x : Bool) → true ≡ x → b ≡ (b && x)
and_true true x e = e
and_true false x e = refl

-- the first leaf says where the others stand
pub placed_is : (leaf : Option ℕ) (levels stand first : ℕ) (kind : Kind) → IsStand leaf stand first
    → (is_leaf kind ≡ true → 0 < levels → first ≡ levels) → stands_well leaf levels kind ≡ is_placed levels stand kind
placed_is (Some level) levels stand first kind is here = ap (λ s. is_placed levels s kind) (sym is)
placed_is None zero stand first kind is here = refl
placed_is None (suc m) stand first kind is here =
    and_true (not (suc m == 0)) (not (is_leaf kind) || (suc m == stand)) (at_first (suc m) stand kind (is_leaf kind) refl (λ leaf. is ∙ here leaf (omega arith)))

pub placed_some : (leaf : Option ℕ) (levels : ℕ) (kind : Kind) → stands_well leaf levels kind ≡ true → 0 < levels
placed_some (Some level) zero kind is = absurd (cc)
placed_some None zero kind is = absurd (cc)
placed_some (Some level) (suc m) kind is = omega arith
placed_some None (suc m) kind is = omega arith

-- what was read is what the page holds
pub node_is : (usable size at : ℕ) (pages : Paging) (page : ℕ) (bytes : List ℕ)
    → size ≡ usable → at ≡ header_end page → bytes ≡ pages page → page_at (take size bytes) at ≡ node_at usable pages page
node_is usable size at pages page bytes same place is =
    ap (λ n. page_at (take n bytes) at) same ∙ ap (λ b. page_at (take usable b) at) is ∙ ap (λ m. page_at (take usable (pages page)) m) place

pub reading_halts : (fault : PageFault) (reading : Result PageCells PageFault) (page : ℕ) (halt : Halt) → FailsPage fault reading → IsHaltOf page fault halt
    → IsReading page reading (the_err PageCells halt)
reading_halts Memory reading page halt fails is = let P : Halt → Type 0 = λ s. IsReading page reading (the_err PageCells s) in subst P (sym is) refl
reading_halts BadType reading page halt fails is = let P : Halt → Type 0 = λ s. IsReading page reading (the_err PageCells s) in subst P (sym is) (refl, refl, ap is_legal fails)
reading_halts OffsetOut reading page halt fails is = let P : Halt → Type 0 = λ s. IsReading page reading (the_err PageCells s) in subst P (sym is) (refl, refl, ap is_legal fails)
reading_halts CellOut reading page halt fails is = let P : Halt → Type 0 = λ s. IsReading page reading (the_err PageCells s) in subst P (sym is) (refl, refl, ap is_legal fails)
reading_halts Overlap reading page halt fails is = let P : Halt → Type 0 = λ s. IsReading page reading (the_err PageCells s) in subst P (sym is) (refl, refl, ap is_legal fails)
reading_halts OutOfOrder reading page halt fails is = let P : Halt → Type 0 = λ s. IsReading page reading (the_err PageCells s) in subst P (sym is) (refl, refl, ap is_legal fails)

third : (count : ℕ) (b : ℕ → Bool) (page q rule : ℕ) (legal : Bool) → q ≡ page → rule ≡ 3 → legal ≡ false → Breaks count b (Keeps page 3 legal ∷ []) (q, rule)
third count b page q rule legal e1 e2 e3 more = rw (e1, e2, e3) refl

-- a page is met, and then read
pub read_last : (count : ℕ) (a b : ℕ → Bool) (usable : ℕ) (pages : Paging) (holder page : ℕ) (r : Result PageCells Halt)
    → Tries count a b (Names holder page ∷ []) (the_ok (Unit {0}) tt) → IsReading page (node_at usable pages page) r
    → Tries count a b (read_marks usable pages holder page) r × IfOk r (λ node. node_at usable pages page ≡ Ok node)
read_last count a b usable pages holder page (Ok node) met is = (
  tries_then {X = Unit {0}} {Y = PageCells} count a b b (Names holder page ∷ []) (Keeps page 3 (is_legal (node_at usable pages page)) ∷ []) tt (the_ok PageCells node) met
      (keeps_passes count b page 3 (is_legal (node_at usable pages page)) (ap is_legal is)),
  is,
)
read_last count a b usable pages holder page (Err (Broken q rule)) met is = (
  tries_then {X = Unit {0}} {Y = PageCells} count a b b (Names holder page ∷ []) (Keeps page 3 (is_legal (node_at usable pages page)) ∷ []) tt (the_err PageCells (Broken q rule)) met
      (third count b page q rule (is_legal (node_at usable pages page)) is.0 is.1 is.2),
  tt,
)
read_last count a b usable pages holder page (Err (Space f)) met is = (tt, tt)

pub read_refuses : {P : Type 0} (g : Ghosts P) (a b : P) (page : ℕ) (reading : Result PageCells PageFault) (r : Result PageCells Halt)
    → g.refusal b ≡ g.refusal a → IsReading page reading r → RefusesHalt g a b r
read_refuses g a b page reading (Ok node) same is = same
read_refuses g a b page reading (Err (Broken q rule)) same is = same
read_refuses g a b page reading (Err (Space f)) same is =
    let Q : SpaceFault → Type 0 = λ x. g.refusal b ≡ refusal_of x (g.refusal a) in subst Q (sym is) same

-- what is tried of a page behind reading it
abbrev pub kind_marks : (table : Bool) (usable : ℕ) (pages : Paging) (stand levels page : ℕ) → List Mark
kind_marks table usable pages stand levels page =
    Keeps page 4 (is_sort table usable pages page) ∷ Keeps page 5 (not (levels == 0) && (not (is_leaf_page usable pages page) || (levels == stand))) ∷ []

-- the same, by what the page holds
pub placed_are : (table : Bool) (usable : ℕ) (pages : Paging) (stand levels page : ℕ) (node : PageCells) → node_at usable pages page ≡ Ok node
    → kind_marks table usable pages stand levels page ≡ place_marks table levels stand page node.kind
placed_are table usable pages stand levels page node is =
    ap (λ (r : Result PageCells PageFault). Keeps page 4 (has_kind (is_of_sort table) r) ∷ Keeps page 5 (not (levels == 0) && (not (has_kind is_leaf r) || (levels == stand))) ∷ []) is

-- a leaf is where its own first leaf stands
pub first_at_leaf : (usable : ℕ) (pages : Paging) (levels page : ℕ) (node : PageCells) → node_at usable pages page ≡ Ok node
    → is_leaf node.kind ≡ true → 0 < levels → levels_at_leaf usable pages levels page ≡ levels
first_at_leaf usable pages zero page node is leaf some = absurd (omega (arith, some))
first_at_leaf usable pages (suc m) page node is leaf some =
    let here : is_leaf_page usable pages page ≡ true = ap (has_kind is_leaf) is ∙ leaf in rw here refl

-- the first page of a tree can't be read
pub unread : (count : ℕ) (a b : ℕ → Bool) (usable : ℕ) (pages : Paging) (holder page : ℕ) (marks : List Mark) (halt : Halt)
    → marks ≡ read_marks usable pages holder page ++ behind_read marks
    → Tries count a b (read_marks usable pages holder page) (the_err PageCells halt) → Tries count a b marks (the_err ℕ halt)
unread count a b usable pages holder page marks halt is tried =
    let P : List Mark → Type 0 = λ ms. Tries count a b ms (the_err ℕ halt) in
    subst P (sym is) (tries_halt PageCells ℕ count a b b (read_marks usable pages holder page) (behind_read marks) halt tried)

-- it is read, and the rest of the tree is tried
pub from_read : (count now : ℕ) (a b c : ℕ → Bool) (usable : ℕ) (pages : Paging) (holder page : ℕ) (marks : List Mark) (node : PageCells) (r : Result ℕ Halt) → now ≡ count
    → marks ≡ read_marks usable pages holder page ++ behind_read marks
    → Tries count a b (read_marks usable pages holder page) (the_ok PageCells node) → Tries now b c (behind_read marks) r → Tries count a c marks r
from_read count now a b c usable pages holder page marks node r same is read tried =
    let P : List Mark → Type 0 = λ ms. Tries count a c ms r in
    let Q : ℕ → Type 0 = λ n. Tries n b c (behind_read marks) r in
    subst P (sym is) (tries_then {X = PageCells} {Y = ℕ} count a b c (read_marks usable pages holder page) (behind_read marks) node r read (subst Q same tried))

-- the page does not stand well in its tree
pub misplaced : (count : ℕ) (a : ℕ → Bool) (table : Bool) (usable : ℕ) (pages : Paging) (stand levels page : ℕ) (node : PageCells) (more : List Mark) (halt : Halt)
    → node_at usable pages page ≡ Ok node → Tries count a a (place_marks table levels stand page node.kind) (the_err (Unit {0}) halt)
    → Tries count a a (kind_marks table usable pages stand levels page ++ more) (the_err ℕ halt)
misplaced count a table usable pages stand levels page node more halt is tried =
    let P : List Mark → Type 0 = λ ms. Tries count a a ms (the_err (Unit {0}) halt) in
    tries_halt (Unit {0}) ℕ count a a a (kind_marks table usable pages stand levels page) more halt (subst P (sym (placed_are table usable pages stand levels page node is)) tried)

-- where nothing was got
pub walked_none : {P : Type 0} (g : Ghosts P) (s : P) (met : Met) → Walked g s s met met
walked_none g s met = record {
  reads = record {
    earlier = λ pages agrees. agrees;
    laid = refl;
    free = refl;
    stands = λ pages agrees stood. stood;
    told = refl;
    size = refl;
    used = refl;
    limit = refl;
    sealed = refl;
    count = omega arith;
  };
  pages = refl;
}
