-- What the search for the last row finds on one page, and then below it.
use Rattle.std.proofs.Common.{◌≡◌, ◌≢◌, ℕ, zero, suc, ℤ, pos, ◌+◌, ◌-◌, ◌<◌, ◌≤◌, ◌∙◌, ◌⊎◌, List, [], ◌∷◌, length, map, take, get_or, Option, Some, None, Result, Ok, Err, refl, sym, ap, subst, arith, inl, inr}
use Rattle.std.specs.List.{last_or}
use Rattle.std.proofs.lemmas.Bool.{cases_eq}
use Rattle.std.proofs.lemmas.Bool.Decides.{leb_tells}
use Rattle.std.proofs.lemmas.List.{take_all, length-map}
use Rattle.spe_model.specs.declared.page.Kind.TheVariants.{TableLeaf, TableInterior}
use Rattle.spe_model.specs.declared.page.Cell.{Cell}
use Rattle.spe_model.specs.declared.page.PageCells.{PageCells}
use Rattle.spe_model.specs.declared.page.PageFault.{PageFault}
use Rattle.spe_model.specs.Paging.{Paging}
use Rattle.spe_model.specs.Tree.{rank, header_end, AreUnder, IsTree, fan, tree_rows, node_at, node_cells, node_right, rows_of}
use Rattle.spe_space.specs.Calls.{Reads, sight}
use Rattle.spe_space.specs.declared.pages.Pages.{Ghosts}
use Rattle.spe_space.specs.declared.fault.TreeFault.{TreeFault}
use Rattle.spe_space.specs.declared.fault.TreeFault.TheVariants.{Space, Corrupt}
use Rattle.spe_format.specs.View.{Shown, shown_at, shown_of}
use Rattle.spe_search.specs.declared.last.End.{End}
use Rattle.spe_search.specs.declared.last.End.TheVariants.{Rows, Children}
use Rattle.spe_search.specs.Step.{ShowsNoTable}
use Rattle.spe_search.specs.Found.{used_of, IsFaulty, IsReached, ShowsChild}
use Rattle.spe_search.specs.Last.{last_rowid, last_rank, FindsEnd, FindsLeft, IsEnd, IsLeft, GivesEnd, GivesLeft, ShowsCells, ShowsFewer, IsCutTree, HasCut, LastBelow, NamesPage, HasPageCause, AddsAtEnd}
use Rattle.spe_search.proofs.PlaceLemmas.{cell_there}
use Rattle.spe_search.proofs.FoundLemmas.{reached_here, reached_below}
use Rattle.spe_search.proofs.AddsLemmas.{child_touched, root_touched}
use Rattle.spe_search.proofs.EndLemmas.{end_tree, end_found, no_rows, fan_cut, under_cut, under_key, under_last, touched_left, touched_right}

shown_of_result : Shown → Result Shown PageFault → Shown
shown_of_result other (Ok shown) = shown
shown_of_result other (Err fault) = other

one_shown : (a b : Shown) (result : Result Shown PageFault) → result ≡ Ok a → result ≡ Ok b → a ≡ b
unfolding shown_of_result
one_shown a b result e f = ap (shown_of_result a) (sym e ∙ f)

-- what stands at the end of the page that was got
pub end_is : (usable : ℕ) (pages : Paging) (page : ℕ) (shown : Shown) (end : End)
    → ((cells : PageCells) → node_at usable pages page ≡ Ok cells → shown ≡ shown_of cells) → shown_at (used_of usable pages page) (header_end page) ≡ Ok shown
    → FindsEnd shown (Some end) → IsEnd usable pages page (Ok end)
end_is usable pages page shown (Rows last) legal is finds = λ cells e.
    let same = legal cells e in
    (sym (ap (λ (x : Shown). x.kind) same) ∙ finds.0, finds.1 cells.cells (ap (λ (x : Shown). x.cells) same))
end_is usable pages page shown (Children before right) legal is finds = (
  record { shown = shown; is = is; has = inl finds.2 },
  record { shown = shown; is = is; some = omega (arith, finds.1) },
  λ cells e. let same = legal cells e in (
    sym (ap (λ (x : Shown). x.kind) same) ∙ finds.0,
    finds.1 ∙ ap (λ (x : Shown). length x.cells) same ∙ length-map cells.cells Some,
    finds.2 ∙ ap (λ (x : Shown). x.right) same,
  ),
)

pub no_end : (usable : ℕ) (pages : Paging) (page : ℕ) (shown : Shown) → ((cells : PageCells) → node_at usable pages page ≡ Ok cells → shown ≡ shown_of cells)
    → ShowsNoTable shown → IsFaulty usable pages page
no_end usable pages page shown legal none = λ cells e kind. none cells (legal cells e) kind

pub left_is : (usable : ℕ) (pages : Paging) (page place : ℕ) (shown : Shown) (child : ℕ)
    → ((cells : PageCells) → node_at usable pages page ≡ Ok cells → shown ≡ shown_of cells) → shown_at (used_of usable pages page) (header_end page) ≡ Ok shown
    → FindsLeft shown.cells place (Some child) → IsLeft usable pages page place (Ok child)
left_is usable pages page place shown child legal is finds = (
  record { shown = shown; is = is; has = inr (finds.1.0, record { index = place; is = finds.1.1 }, finds.1.2) },
  record { shown = shown; is = is; some = omega (arith, finds.0) },
  λ cells e d. let same = legal cells e in
      ap (λ (x : Cell). x.left) (cell_there shown.cells cells.cells place finds.1.0 d (ap (λ (x : Shown). x.cells) same) (sym finds.1.1) finds.0) ∙ sym finds.1.2,
)

pub no_left : (usable : ℕ) (pages : Paging) (page place : ℕ) (shown : Shown)
    → ((cells : PageCells) → node_at usable pages page ≡ Ok cells → shown ≡ shown_of cells) → shown_at (used_of usable pages page) (header_end page) ≡ Ok shown
    → FindsLeft shown.cells place None → IsFaulty usable pages page ⊎ ShowsFewer usable pages page (suc place)
no_left usable pages page place shown legal is finds = elim (leb_tells (suc place) (length shown.cells)) [
  | inl some ↦ inl (λ cells e kind. finds some.1 cells.cells (ap (λ (x : Shown). x.cells) (legal cells e)))
  | inr fewer ↦ inr (record { shown = shown; is = is; fewer = fewer.1 })
]

no_leaf : TableInterior ≡ TableLeaf → ⊥
no_leaf e = cc

no_interior : TableLeaf ≡ TableInterior → ⊥
no_interior e = cc

key_last : (o : Option ℤ) (usable : ℕ) (pages : Paging) (cells : List Cell) → last_or o (map (λ (c : Cell). c.key) cells) ≡ last_or o (map (λ (r : ℤ × List ℕ). r.0) (rows_of usable pages cells))
key_last o usable pages [] = refl
key_last o usable pages (c ∷ cs) = key_last (Some c.key) usable pages cs

-- a leaf ends with its last row
pub rows_end : {P : Type 0} (g : Ghosts P) (early late : P) (page levels : ℕ) (last : Option ℤ) → GivesEnd g early late page (Ok (Rows last)) → LastBelow g early late page levels (Ok last)
rows_end g early late page levels last given pages agrees zero a b under tree =
    (given pages agrees _ tree.0).1 ∙ key_last None (g.used early) (sight g early pages) (node_cells (g.used early) (sight g early pages) page)
rows_end g early late page levels last given pages agrees (suc height) a b under tree = absurd (no_leaf (given pages agrees _ tree.0).0)

first_cut : (usable : ℕ) (pages : Paging) (height a b page before right : ℕ) → before ≡ length (node_cells usable pages page) → right ≡ node_right usable pages page
    → IsTree usable pages (suc height) a b page → IsCutTree usable pages height a b page before right
first_cut usable pages height a b page before right many is tree =
    let cells = node_cells usable pages page in
    let T = IsTree usable pages height in
    let all : take before cells ≡ cells = take_all before cells (omega (arith, many)) in
    let P : List Cell → Type 0 = λ cs. AreUnder T a b cs (node_right usable pages page) in
    let Q : ℕ → Type 0 = IsCutTree usable pages height a b page before in
    subst Q (sym is) (record {
      high = b;
      within = omega arith;
      some = omega (arith, many);
      under = subst P (sym all) tree.1;
      rows = ap (λ cs. fan (tree_rows usable pages height) cs (node_right usable pages page)) (sym all);
      touches = λ from to begins ends. touched_right T a b from to cells (node_right usable pages page) tree.1 ends;
    })

pub cut_first : {P : Type 0} (g : Ghosts P) (early late : P) (page levels before right : ℕ) → GivesEnd g early late page (Ok (Children before right)) → HasCut g early late page levels before right
cut_first g early late page levels before right given pages agrees =
    let here = given pages agrees in
    record {
      shown = here.0;
      cells = here.1;
      leaf = λ a b tree. no_interior (here.2 _ tree.0).0;
      tree = λ height a b deep tree. let is = here.2 _ tree.0 in first_cut (g.used early) (sight g early pages) height a b page before right is.1 is.2 tree;
    }

step_cut : (usable : ℕ) (pages : Paging) (height a b page k child next : ℕ) (d : Cell) → IsTree usable pages (suc height) a b page → tree_rows usable pages height child ≡ []
    → (get_or (node_cells usable pages page) k d).left ≡ next → IsCutTree usable pages height a b page (suc k) child → IsCutTree usable pages height a b page k next
step_cut usable pages height a b page k child next d tree none is cut =
    let cells = node_cells usable pages page in
    let T = IsTree usable pages height in
    let within : k < length cells = omega (arith, cut.some) in
    let key = under_key T a cut.high cells k child d within cut.under in
    let under = under_cut T a cut.high cells k child d within cut.under in
    let top = rank (get_or cells k d).key + 1 in
    let rows : tree_rows usable pages (suc height) page ≡ fan (tree_rows usable pages height) (take k cells) (get_or cells k d).left = cut.rows ∙ fan_cut (tree_rows usable pages height) cells k child d within none in
    let last : last_rank a (fan (tree_rows usable pages height) (take k cells) (get_or cells k d).left) < top =
    under_last usable pages height a a top top (take k cells) (get_or cells k d).left under (omega arith) (omega (arith, key.0)) in
    let bound : last_rank a (tree_rows usable pages (suc height) page) ≡ last_rank a (fan (tree_rows usable pages height) (take k cells) (get_or cells k d).left) = ap (last_rank a) rows in
    let Q : ℕ → Type 0 = IsCutTree usable pages height a b page k in
    subst Q is (record {
      high = top;
      within = omega (arith, key.1, cut.within);
      some = omega (arith, within);
      under = under;
      rows = rows;
      touches = λ from to begins ends. touched_left T a b from to cells k (node_right usable pages page) d tree.1 within (omega (arith, begins, bound, last)) ends;
    })

some_cell : Cell
some_cell = record { left = 0; key = pos 0; payload = 0; local = []; chain = 0 }

-- the last child has no rows: the one before it is looked at
pub cut_more : {P : Type 0} (g : Ghosts P) (early now mid later : P) (page levels before child next : ℕ) → Reads g early now → Reads g now mid → Reads g mid later → 0 < before
    → HasCut g early now page levels before child → LastBelow g now mid child (levels - 1) (Ok None) → GivesLeft g mid later page (before - 1) (Ok next)
    → HasCut g early later page levels (before - 1) next
cut_more g early now mid later page levels before child next first second third some cut below given pages agrees =
    let usable = g.used early in
    let view = sight g early pages in
    let is = cut pages (second.earlier pages (third.earlier pages agrees)) in
    let none = rw (first.used, first.laid) at (below pages (third.earlier pages agrees)) in
    let left = rw (second.used, first.used, second.laid, first.laid) at (given pages agrees) in
    let back : before ≡ suc (before - 1) = omega (arith, some) in
    record {
      shown = left.0;
      cells = left.1;
      leaf = is.leaf;
      tree = λ height a b deep tree.
          let here = is.tree height a b deep tree in
          let end = end_tree usable view height a here.high (take before (node_cells usable view page)) child here.under in
          let Q : ℕ → Type 0 = λ n. IsCutTree usable view height a b page n child in
          step_cut usable view height a b page (before - 1) child next some_cell tree (no_rows _ (sym (none height end.low here.high (omega (arith, deep)) end.tree)))
          (left.2 _ tree.0 some_cell) (subst Q back here);
    }

pub cut_found : {P : Type 0} (g : Ghosts P) (early now later : P) (page levels before child : ℕ) (x : ℤ) → Reads g early now → Reads g now later
    → HasCut g early now page levels before child → LastBelow g now later child (levels - 1) (Ok (Some x)) → LastBelow g early later page levels (Ok (Some x))
cut_found g early now later page levels before child x kept keeps cut below pages agrees zero a b under tree = absurd ((cut pages (keeps.earlier pages agrees)).leaf a b tree)
cut_found g early now later page levels before child x kept keeps cut below pages agrees (suc height) a b under tree =
    let usable = g.used early in
    let view = sight g early pages in
    let here = (cut pages (keeps.earlier pages agrees)).tree height a b under tree in
    let cells = take before (node_cells usable view page) in
    let end = end_tree usable view height a here.high cells child here.under in
    let found = rw (kept.used, kept.laid) at (below pages agrees) in
    sym (ap last_rowid here.rows ∙ end_found (tree_rows usable view height) cells child x (sym (found height end.low here.high (omega (arith, under)) end.tree)))

pub found_same : {P : Type 0} (g : Ghosts P) (early late : P) (page levels : ℕ) (a b : ℤ) → a ≡ b → LastBelow g early late page levels (Ok (Some a)) → LastBelow g early late page levels (Ok (Some b))
found_same {P} g early late page levels a b same found = let Q : ℤ → Type 0 = λ x. LastBelow g early late page levels (Ok (Some x)) in subst Q same found

pub cut_fault : {P : Type 0} (g : Ghosts P) (early now later : P) (page levels before child : ℕ) (f : TreeFault) → Reads g early now → Reads g now later
    → HasCut g early now page levels before child → LastBelow g now later child (levels - 1) (Err f) → LastBelow g early later page levels (Err f)
cut_fault g early now later page levels before child (Space f) kept keeps cut below pages agrees height a b under tree = tt
cut_fault g early now later page levels before child (Corrupt at) kept keeps cut below pages agrees zero a b under tree = (cut pages (keeps.earlier pages agrees)).leaf a b tree
cut_fault g early now later page levels before child (Corrupt at) kept keeps cut below pages agrees (suc height) a b under tree =
    let usable = g.used early in
    let view = sight g early pages in
    let here = (cut pages (keeps.earlier pages agrees)).tree height a b under tree in
    let end = end_tree usable view height a here.high (take before (node_cells usable view page)) child here.under in
    let found = rw (kept.used, kept.laid) at (below pages agrees) in
    found height end.low here.high (omega (arith, under)) end.tree

none_taken : (n : ℕ) (cells : List Cell) → n ≡ 0 → take n cells ≡ []
none_taken zero [] e = refl
none_taken zero (c ∷ cs) e = refl
none_taken (suc n) cells e = absurd (omega (arith, e))

-- no child has rows
pub cut_none : {P : Type 0} (g : Ghosts P) (early now later : P) (page levels before child : ℕ) → Reads g early now → Reads g now later → before ≡ 0
    → HasCut g early now page levels before child → LastBelow g now later child (levels - 1) (Ok None) → LastBelow g early later page levels (Ok None)
cut_none g early now later page levels before child kept keeps none cut below pages agrees zero a b under tree = absurd ((cut pages (keeps.earlier pages agrees)).leaf a b tree)
cut_none g early now later page levels before child kept keeps none cut below pages agrees (suc height) a b under tree =
    let usable = g.used early in
    let view = sight g early pages in
    let here = (cut pages (keeps.earlier pages agrees)).tree height a b under tree in
    let cells = take before (node_cells usable view page) in
    let end = end_tree usable view height a here.high cells child here.under in
    let found = rw (kept.used, kept.laid) at (below pages agrees) in
    let alone : fan (tree_rows usable view height) cells child ≡ tree_rows usable view height child = ap (λ cs. fan (tree_rows usable view height) cs child) (none_taken before (node_cells usable view page) none) in
    found height end.low here.high (omega (arith, under)) end.tree ∙ sym (ap last_rowid (here.rows ∙ alone))

few_shown : (usable : ℕ) (pages : Paging) (page count fewer : ℕ) → fewer ≤ count → ShowsCells usable pages page count → ShowsFewer usable pages page fewer → ⊥
few_shown usable pages page count fewer less cells few =
    let same = one_shown cells.shown few.shown (shown_at (used_of usable pages page) (header_end page)) cells.is few.is in
    omega (arith, less, cells.some, few.fewer, ap (λ (x : Shown). length x.cells) same)

pub left_fault : {P : Type 0} (g : Ghosts P) (early now mid later : P) (page levels before child place : ℕ) (f : TreeFault) → Reads g early now → Reads g now mid → Reads g mid later → place < before
    → HasCut g early now page levels before child → GivesLeft g mid later page place (Err f) → LastBelow g early later page levels (Err f)
left_fault g early now mid later page levels before child place (Space f) first second third some cut given pages agrees height a b under tree = tt
left_fault g early now mid later page levels before child place (Corrupt at) first second third some cut given pages agrees zero a b under tree =
    (cut pages (second.earlier pages (third.earlier pages agrees))).leaf a b tree
left_fault g early now mid later page levels before child place (Corrupt at) first second third some cut given pages agrees (suc height) a b under tree =
    let is = cut pages (second.earlier pages (third.earlier pages agrees)) in
    let left = rw (second.used, first.used, second.laid, first.laid) at (given pages agrees) in
    elim left.1 [
      | inl faulty ↦ faulty _ tree.0 (inr refl)
      | inr fewer ↦ few_shown (g.used early) (sight g early pages) page before (suc place) (omega (arith, some)) is.cells fewer
    ]

pub end_names : {P : Type 0} (g : Ghosts P) (early late : P) (page levels : ℕ) (f : TreeFault) → 0 < levels → GivesEnd g early late page (Err f) → NamesPage {X = Option ℤ} g early late page levels (Err f)
end_names g early late page levels (Space f) more given pages agrees = tt
end_names g early late page levels (Corrupt at) more given pages agrees =
    let here = given pages agrees in
    let Met : ℕ → Type 0 = λ n. IsReached (g.used early) (sight g early pages) levels page n × IsFaulty (g.used early) (sight g early pages) n in
    inl (subst Met (sym here.0) (reached_here (g.used early) (sight g early pages) levels page more, here.1))

pub left_names : {P : Type 0} (g : Ghosts P) (early now mid later : P) (page levels before child place : ℕ) (f : TreeFault) → 0 < levels → Reads g early now → Reads g now mid → Reads g mid later → place < before
    → HasCut g early now page levels before child → GivesLeft g mid later page place (Err f) → NamesPage {X = Option ℤ} g early later page levels (Err f)
left_names g early now mid later page levels before child place (Space f) more first second third some cut given pages agrees = tt
left_names g early now mid later page levels before child place (Corrupt at) more first second third some cut given pages agrees =
    let is = cut pages (second.earlier pages (third.earlier pages agrees)) in
    let left = rw (second.used, first.used, second.laid, first.laid) at (given pages agrees) in
    let Met : ℕ → Type 0 = λ n. IsReached (g.used early) (sight g early pages) levels page n × IsFaulty (g.used early) (sight g early pages) n in
    elim left.1 [
      | inl faulty ↦ inl (subst Met (sym left.0) (reached_here (g.used early) (sight g early pages) levels page more, faulty))
      | inr fewer ↦ absurd (few_shown (g.used early) (sight g early pages) page before (suc place) (omega (arith, some)) is.cells fewer)
    ]

below_names : (usable : ℕ) (pages : Paging) (page levels child : ℕ) (f : TreeFault) → ShowsChild usable pages page child
    → HasPageCause {X = Option ℤ} usable pages child levels (Err f) → HasPageCause {X = Option ℤ} usable pages page (suc levels) (Err f)
below_names usable pages page levels child (Space f) shows cause = tt
below_names usable pages page levels child (Corrupt at) shows (inl faulty) = inl (reached_below usable pages levels page child at shows faulty.0, faulty.1)
below_names usable pages page levels child (Corrupt at) shows (inr below) = inr (child, shows, below)

pub cut_names : {P : Type 0} (g : Ghosts P) (early now later : P) (page levels before child : ℕ) (f : TreeFault) → 0 < levels → Reads g early now → Reads g now later
    → HasCut g early now page levels before child → NamesPage {X = Option ℤ} g now later child (levels - 1) (Err f) → NamesPage {X = Option ℤ} g early later page levels (Err f)
cut_names g early now later page levels before child (Space f) more kept keeps cut names pages agrees = tt
cut_names g early now later page levels before child (Corrupt at) more kept keeps cut names pages agrees =
    let is = cut pages (keeps.earlier pages agrees) in
    let back : suc (levels - 1) ≡ levels = omega (arith, more) in
    let fault : Result (Option ℤ) TreeFault = Err (Corrupt at) in
    let Q : ℕ → Type 0 = λ n. HasPageCause (g.used early) (sight g early pages) page n fault in
    subst Q back (below_names (g.used early) (sight g early pages) page (levels - 1) child (Corrupt at) is.shown (rw (kept.used, kept.laid) at (names pages agrees)))

-- the page itself is got
pub end_adds : {P : Type 0} (g : Ghosts P) (early late : P) (page levels : ℕ) → ((n : ℕ) → n ≢ page → g.seen late n ≡ g.seen early n) → AddsAtEnd g early late page levels
end_adds g early late page levels only pages agrees height a b from to under tree begins ends n = elim (cases_eq n page) [
  | inl same ↦ inr (root_touched (g.used early) (sight g early pages) from to height page n same)
  | inr other ↦ inl (only n other)
]

pub more_adds : {P : Type 0} (g : Ghosts P) (early now later : P) (page levels : ℕ) → Reads g now later → ((n : ℕ) → n ≢ page → g.seen later n ≡ g.seen now n)
    → AddsAtEnd g early now page levels → AddsAtEnd g early later page levels
more_adds g early now later page levels keeps only before pages agrees height a b from to under tree begins ends n = elim (cases_eq n page) [
  | inl same ↦ inr (root_touched (g.used early) (sight g early pages) from to height page n same)
  | inr other ↦ (elim (before pages (keeps.earlier pages agrees) height a b from to under tree begins ends n) [
    | inl as_before ↦ inl (only n other ∙ as_before)
    | inr has ↦ inr has
  ])
]

-- a child's pages are got
pub cut_adds : {P : Type 0} (g : Ghosts P) (early now later : P) (page levels before child : ℕ) → Reads g early now → Reads g now later
    → HasCut g early now page levels before child → AddsAtEnd g early now page levels → AddsAtEnd g now later child (levels - 1) → AddsAtEnd g early later page levels
cut_adds g early now later page levels before child kept keeps cut old new pages agrees zero a b from to under tree begins ends n = absurd ((cut pages (keeps.earlier pages agrees)).leaf a b tree)
cut_adds g early now later page levels before child kept keeps cut old new pages agrees (suc height) a b from to under tree begins ends n =
    let usable = g.used early in
    let view = sight g early pages in
    let here = (cut pages (keeps.earlier pages agrees)).tree height a b under tree in
    let cells = take before (node_cells usable view page) in
    let end = end_tree usable view height a here.high cells child here.under in
    let reach : last_rank a (tree_rows usable view (suc height) page) ≡ last_rank a (fan (tree_rows usable view height) cells child) = ap (last_rank a) here.rows in
    let all = rw (kept.used, kept.laid) at (new pages agrees) in
    elim (all height end.low here.high from to (omega (arith, under)) end.tree (omega (arith, begins, reach, end.reach)) (omega (arith, here.within, ends)) n) [
      | inl same ↦ (elim (old pages (keeps.earlier pages agrees) (suc height) a b from to under tree begins ends n) [
        | inl as_before ↦ inl (same ∙ as_before)
        | inr has ↦ inr has
      ])
      | inr has ↦ inr (child_touched usable view from to height page child n (here.touches from to begins ends) has)
    ]
