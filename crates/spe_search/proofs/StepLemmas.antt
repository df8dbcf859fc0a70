-- What a page shows, and what its bytes hold.
use Rattle.std.proofs.Common.{[], map, take, Some, subst, inl, inr, ◌≡◌, ℕ, ℤ, List, Result, Ok, Err, sym, ap}
use Rattle.spe_model.specs.declared.page.PageCells.{PageCells}
use Rattle.spe_model.specs.declared.page.PageFault.{PageFault}
use Rattle.spe_model.specs.Page.{page_at}
use Rattle.spe_format.specs.View.{Shown, shown_at, shown_of}
use Rattle.spe_search.specs.declared.page.Step.{Step}
use Rattle.spe_search.specs.declared.page.Flaw.{Flaw}
use Rattle.spe_search.specs.declared.page.Flaw.TheVariants.{Broken, Memory}
use Rattle.spe_search.specs.Step.{Steps, TakesStep}
use Rattle.std.specs.declared.vec.Vec.{Vec}
use Rattle.std.specs.declared.alloc.Global.{Global}
use Rattle.spe_model.specs.declared.page.Kind.TheVariants.{TableLeaf, TableInterior}
use Rattle.spe_model.specs.declared.page.Cell.{Cell}
use Rattle.spe_model.specs.Paging.{Paging}
use Rattle.spe_model.specs.Tree.{node_at, node_cells, header_end, AreRows, rows_of}
use Rattle.spe_model.specs.Range.{between, touched}
use Rattle.spe_space.specs.declared.fault.TreeFault.{TreeFault}
use Rattle.spe_space.specs.declared.fault.TreeFault.TheVariants.{Space, Corrupt}
use Rattle.spe_search.specs.Found.{used_of}
use Rattle.spe_search.specs.Range.{Lists, IsVisit, HasLookCause, HasVisitCause}

shown_in : Shown → Result Shown PageFault → Shown
shown_in other (Ok shown) = shown
shown_in other (Err fault) = other

pub step_shown : (bytes : List ℕ) (at : ℕ) (shown : Shown) (rowid : ℤ) (result : Result Step Flaw) → ◌≡◌ {A = Result Shown PageFault} (Ok shown) (shown_at bytes at)
    → ((page : PageCells) → page_at bytes at ≡ Ok page → ◌≡◌ {A = Result Shown PageFault} (Ok shown) (Ok (shown_of page))) → Steps shown rowid result → TakesStep bytes at rowid result
unfolding shown_in
step_shown bytes at shown rowid (Ok step) is legal h =
    ((shown, sym is, h.0), λ page e sorted. h.1 page (ap (shown_in shown) (legal page e)) sorted)
step_shown bytes at shown rowid (Err Broken) is legal h = λ page e. h page (ap (shown_in shown) (legal page e))
step_shown bytes at shown rowid (Err Memory) is legal h = tt

pub legal_same : (u v a b : ℕ) (buf bytes : List ℕ) (shown : Shown) → u ≡ v → buf ≡ bytes → a ≡ b
    → ((page : PageCells) → page_at (take u buf) a ≡ Ok page → ◌≡◌ {A = Result Shown PageFault} (Ok shown) (Ok (shown_of page)))
    → (page : PageCells) → page_at (take v bytes) b ≡ Ok page → shown ≡ shown_of page
unfolding shown_in
legal_same u v a b buf bytes shown e1 e2 e3 legal page e = ap (shown_in shown) (legal page (rw (e1, e2, e3) e))

pub shown_same : (u v a b : ℕ) (buf bytes : List ℕ) (shown : Shown) → u ≡ v → buf ≡ bytes → a ≡ b
    → ◌≡◌ {A = Result Shown PageFault} (Ok shown) (shown_at (take u buf) a) → shown_at (take v bytes) b ≡ Ok shown
shown_same u v a b buf bytes shown e1 e2 e3 is = sym (rw (e1, e2, e3) at is)

pub visit_of : (usable : ℕ) (pages : Paging) (page low high : ℕ) (shown : Shown) (old new : List (ℤ × List ℕ)) (result : Result (Vec ℕ Global) TreeFault)
    → ((cells : PageCells) → node_at usable pages page ≡ Ok cells → shown ≡ shown_of cells)
    → (shown.kind ≡ TableLeaf → (cells : List Cell) → shown.cells ≡ map Some cells → (a b : ℕ) → AreRows usable pages a b cells → Lists [] (between low high (rows_of usable pages cells)) old new result)
    → (shown.kind ≡ TableInterior → (cells : List Cell) → shown.cells ≡ map Some cells → Lists (touched low high cells shown.right) [] old new result)
    → IsVisit usable pages page low high old new result
visit_of usable pages page low high shown old new result legal leaf interior = record {
  leaf = λ a b tree. let s = legal _ tree.0 in
      leaf (ap (λ (x : Shown). x.kind) s) (node_cells usable pages page) (ap (λ (x : Shown). x.cells) s) a b tree.1;
  interior = λ height a b tree. let s = legal _ tree.0 in
      let P : ℕ → Type 0 = λ r. Lists (touched low high (node_cells usable pages page) r) [] old new result in
      subst P (ap (λ (x : Shown). x.right) s) (interior (ap (λ (x : Shown). x.kind) s) (node_cells usable pages page) (ap (λ (x : Shown). x.cells) s));
}

pub visit_cause : (usable : ℕ) (pages : Paging) (page : ℕ) (shown : Shown) (result : Result (Vec ℕ Global) TreeFault)
    → ((cells : PageCells) → node_at usable pages page ≡ Ok cells → shown ≡ shown_of cells) → shown_at (used_of usable pages page) (header_end page) ≡ Ok shown
    → HasLookCause usable pages page shown result → HasVisitCause usable pages page result
visit_cause usable pages page shown (Ok v) legal is h = λ k d within. record { shown = shown; is = is; has = h k d within }
visit_cause usable pages page shown (Err (Space f)) legal is h = tt
visit_cause usable pages page shown (Err (Corrupt at)) legal is (inl h) = inl (h.0, λ p e kind. h.1 p (legal p e) kind)
visit_cause usable pages page shown (Err (Corrupt at)) legal is (inr h) = inr (record { row = h.0; shown = record { shown = shown; is = is; has = h.1 }; how = h.2 })
