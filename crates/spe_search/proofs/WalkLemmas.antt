-- The rows of a tree between two rowids, child by child.
use Rattle.std.proofs.Common.{◌≡◌, ℕ, zero, suc, ℤ, ◌+◌, ◌-◌, ◌<◌, ◌≤◌, ◌∙◌, ◌⊎◌, ◌&&◌, Bool, true, false, List, [], ◌∷◌, ◌++◌, take, length, get_or, All, Result, Ok, Err, refl, sym, ap, subst, arith, leb, append_assoc, append-nil, inl, inr}
use Rattle.std.specs.declared.vec.Vec.{Vec}
use Rattle.std.specs.declared.alloc.Global.{Global}
use Rattle.std.proofs.lemmas.Bool.Decides.{leb_tells}
use Rattle.std.proofs.lemmas.List.Elements.{filter-append}
use Rattle.std.specs.List.{Contains}
use Rattle.std.proofs.lemmas.List.{take_all, get_or_default}
use Rattle.spe_model.specs.declared.page.Cell.{Cell}
use Rattle.spe_model.specs.Paging.{Paging}
use Rattle.spe_model.specs.Tree.{rank, AreRows, AreUnder, IsTree, rows_of, fan, tree_rows, node_cells, node_right}
use Rattle.spe_model.specs.Range.{is_between, between, touched, joined}
use Rattle.spe_space.specs.Calls.{Reads, sight}
use Rattle.spe_space.specs.declared.pages.Pages.{Ghosts}
use Rattle.spe_space.specs.declared.fault.TreeFault.{TreeFault}
use Rattle.spe_space.specs.declared.fault.TreeFault.TheVariants.{Space, Corrupt}
use Rattle.spe_search.specs.Found.{NamesDamage, HasDamage, IsReached, IsFaulty}
use Rattle.spe_search.specs.Range.{Visits, VisitDamage, WalksBelow, AreTrees, IsWalked, HasWalked}
use Rattle.spe_search.proofs.PlaceLemmas.{le_false}
use Rattle.spe_search.proofs.FoundLemmas.{below_names, reached_here}

and_out : (a b : Bool) → (a ≡ false) ⊎ (b ≡ false) → (a && b) ≡ false
and_out true b (inl h) = absurd (let e : true ≡ false = h in cc)
and_out true b (inr h) = h
and_out false b h = refl

is_out : (low high k : ℕ) → (k < low) ⊎ (high < k) → (leb low k && leb k high) ≡ false
is_out low high k out = and_out (leb low k) (leb k high) (elim out [ inl under ↦ inl (le_false low k under) | inr over ↦ inr (le_false k high over) ])

none_rows : (usable : ℕ) (pages : Paging) (low high a b : ℕ) (cells : List Cell) → AreRows usable pages a b cells → (b ≤ low) ⊎ (high < a) → between low high (rows_of usable pages cells) ≡ []
none_rows usable pages low high a b [] rows out = refl
none_rows usable pages low high a b (c ∷ cs) rows out =
    let here : (rank c.key < low) ⊎ (high < rank c.key) = elim out [ inl under ↦ inl (omega (arith, under, rows.1)) | inr over ↦ inr (omega (arith, over, rows.0)) ] in
    rw (is_out low high (rank c.key) here) (none_rows usable pages low high (rank c.key + 1) b cs rows.3 (elim out [ inl under ↦ inl under | inr over ↦ inr (omega (arith, over, rows.0)) ]))

none_fan : (low high : ℕ) (T : ℕ → ℕ → ℕ → Type 0) (rows : ℕ → List (ℤ × List ℕ)) → ((a b page : ℕ) → T a b page → (b ≤ low) ⊎ (high < a) → between low high (rows page) ≡ [])
    → (a b : ℕ) (cells : List Cell) (right : ℕ) → AreUnder T a b cells right → (b ≤ low) ⊎ (high < a) → between low high (fan rows cells right) ≡ []
none_fan low high T rows none a b [] right under out = none a b right under out
none_fan low high T rows none a b (c ∷ cs) right under out =
    filter-append (is_between low high) (rows c.left) (fan rows cs right)
    ∙ ap (λ xs. xs ++ between low high (fan rows cs right)) (none a (rank c.key + 1) c.left under.2 (elim out [ inl h ↦ inl (omega (arith, h, under.1)) | inr h ↦ inr h ]))
    ∙ none_fan low high T rows none (rank c.key + 1) b cs right under.3 (elim out [ inl h ↦ inl h | inr h ↦ inr (omega (arith, h, under.0)) ])

none_tree : (low high usable : ℕ) (pages : Paging) (height a b page : ℕ) → IsTree usable pages height a b page → (b ≤ low) ⊎ (high < a) → between low high (tree_rows usable pages height page) ≡ []
none_tree low high usable pages zero a b page tree out = none_rows usable pages low high a b (node_cells usable pages page) tree.1 out
none_tree low high usable pages (suc height) a b page tree out =
    none_fan low high (IsTree usable pages height) (tree_rows usable pages height) (none_tree low high usable pages height) a b (node_cells usable pages page) (node_right usable pages page) tree.1 out

touched_trees : (low high : ℕ) (T : ℕ → ℕ → ℕ → Type 0) (a b : ℕ) (cells : List Cell) (right : ℕ) → AreUnder T a b cells right → AreTrees T (touched low high cells right)
touched_trees low high T a b [] right under = ((a, b, under), tt)
touched_trees low high T a b (c ∷ cs) right under = elim (leb_tells (suc (rank c.key)) low) [
  | inl hit ↦ rw hit.0 (touched_trees low high T (rank c.key + 1) b cs right under.3)
  | inr miss ↦ (elim (leb_tells high (rank c.key)) [
    | inl last ↦ rw (miss.0, last.0) ((a, rank c.key + 1, under.2), tt)
    | inr more ↦ rw (miss.0, more.0) ((a, rank c.key + 1, under.2), touched_trees low high T (rank c.key + 1) b cs right under.3)
  ])
]

touched_rows : (low high : ℕ) (T : ℕ → ℕ → ℕ → Type 0) (rows : ℕ → List (ℤ × List ℕ)) → ((a b page : ℕ) → T a b page → (b ≤ low) ⊎ (high < a) → between low high (rows page) ≡ [])
    → (a b : ℕ) (cells : List Cell) (right : ℕ) → AreUnder T a b cells right → joined (λ p. between low high (rows p)) (touched low high cells right) ≡ between low high (fan rows cells right)
touched_rows low high T rows none a b [] right under = append-nil (between low high (rows right))
touched_rows low high T rows none a b (c ∷ cs) right under =
    let split = filter-append (is_between low high) (rows c.left) (fan rows cs right) in
    elim (leb_tells (suc (rank c.key)) low) [
      | inl hit ↦ rw hit.0 (touched_rows low high T rows none (rank c.key + 1) b cs right under.3
          ∙ sym (split ∙ ap (λ xs. xs ++ between low high (fan rows cs right)) (none a (rank c.key + 1) c.left under.2 (inl (omega (arith, hit.1))))))
      | inr miss ↦ (elim (leb_tells high (rank c.key)) [
        | inl last ↦ rw (miss.0, last.0) (sym (split
            ∙ ap (λ xs. between low high (rows c.left) ++ xs) (none_fan low high T rows none (rank c.key + 1) b cs right under.3 (inr (omega (arith, last.1))))))
        | inr more ↦ rw (miss.0, more.0) (ap (λ xs. between low high (rows c.left) ++ xs) (touched_rows low high T rows none (rank c.key + 1) b cs right under.3) ∙ sym split)
      ])
    ]

all_own : (xs : List ℕ) → All (Contains xs) xs
all_own xs k d within = (k, within, get_or_default xs k (get_or xs k d) d within)

-- a page is visited
pub walked_first : {P : Type 0} (g : Ghosts P) (early late : P) (page low high levels : ℕ) (old new : List (ℤ × List ℕ)) (v : Vec ℕ Global) (left : List ℕ) → left ≡ v.items
    → Visits g early late page low high old new (Ok v) → VisitDamage g early late page (Ok v) → HasWalked g early late page low high levels old new left
walked_first g early late page low high levels old new v left e visits damage pages agrees =
    let usable = g.used early in
    let view = sight g early pages in
    let visit = visits pages agrees in
    let P : List ℕ → Type 0 = λ l. IsWalked usable view page low high levels old new l in
    subst P (sym e) (record {
      leaf = λ a b tree. visit.leaf a b tree;
      trees = λ height a b tree. let Q : List ℕ → Type 0 = AreTrees (IsTree usable view height) in
          subst Q (sym (visit.interior height a b tree).0) (touched_trees low high (IsTree usable view height) a b (node_cells usable view page) (node_right usable view page) tree.1);
      touches = λ height a b tree. let Q : List ℕ → Type 0 = All (Contains (touched low high (node_cells usable view page) (node_right usable view page))) in
          subst Q (sym (visit.interior height a b tree).0) (all_own (touched low high (node_cells usable view page) (node_right usable view page)));
      rows = λ height a b deep tree. let it = visit.interior height a b tree in
          ap (λ xs. xs ++ joined (λ p. between low high (tree_rows usable view height p)) v.items) (it.1 ∙ append-nil old)
          ∙ ap (λ l. old ++ joined (λ p. between low high (tree_rows usable view height p)) l) it.0
          ∙ ap (λ xs. old ++ xs) (touched_rows low high (IsTree usable view height) (tree_rows usable view height) (none_tree low high usable view height) a b (node_cells usable view page) (node_right usable view page) tree.1);
      shown = damage pages agrees;
    })

pub visit_fault : {P : Type 0} (g : Ghosts P) (early late : P) (page low high levels : ℕ) (old new all : List (ℤ × List ℕ)) (f : TreeFault) → Visits g early late page low high old new (Err f)
    → WalksBelow {X = Unit {0}} g early late page low high levels old all (Err f)
visit_fault g early late page low high levels old new all (Space f) visits pages agrees height a b under tree = tt
visit_fault g early late page low high levels old new all (Corrupt at) visits pages agrees zero a b under tree = (visits pages agrees).leaf a b tree
visit_fault g early late page low high levels old new all (Corrupt at) visits pages agrees (suc height) a b under tree = (visits pages agrees).interior height a b tree

pub visit_names : {P : Type 0} (g : Ghosts P) (early late : P) (page levels : ℕ) (f : TreeFault) → 0 < levels → VisitDamage g early late page (Err f) → NamesDamage {X = Unit {0}} g early late page levels (Err f)
visit_names g early late page levels (Space f) some damage pages agrees = tt
visit_names g early late page levels (Corrupt at) some damage pages agrees =
    let here = reached_here (g.used early) (sight g early pages) levels page some in
    let Met : ℕ → Type 0 = λ n. IsReached (g.used early) (sight g early pages) levels page n × IsFaulty (g.used early) (sight g early pages) n in
    elim (damage pages agrees) [ inl faulty ↦ inl (subst Met (sym faulty.0) (here, faulty.1)) | inr row ↦ inr (inl (record { leaf = page; reached = here; breaks = row })) ]

-- a child is walked
pub walked_more : {P : Type 0} (g : Ghosts P) (early now later : P) (page low high levels child : ℕ) (old mid new : List (ℤ × List ℕ)) (left rest : List ℕ)
    → Reads g early now → Reads g now later → left ≡ child ∷ rest → HasWalked g early now page low high levels old mid left
    → WalksBelow {X = Unit {0}} g now later child low high (levels - 1) mid new (Ok tt) → HasWalked g early later page low high levels old new rest
walked_more g early now later page low high levels child old mid new left rest kept keeps e walked walks pages agrees =
    let usable = g.used early in
    let view = sight g early pages in
    let before = rw e at (walked pages (keeps.earlier pages agrees)) in
    let all = rw (kept.used, kept.laid) at (walks pages agrees) in
    record {
      leaf = λ a b tree. absurd (let h = (before.leaf a b tree).0 in cc);
      trees = λ height a b tree. (before.trees height a b tree).1;
      touches = λ height a b tree k d inside. before.touches height a b tree (suc k) d (omega (arith, inside));
      rows = λ height a b deep tree. let here = (before.trees height a b tree).0 in
          ap (λ xs. xs ++ joined (λ p. between low high (tree_rows usable view height p)) rest) (all height here.0 here.1 (omega (arith, deep)) here.2)
          ∙ append_assoc mid (between low high (tree_rows usable view height child)) (joined (λ p. between low high (tree_rows usable view height p)) rest)
          ∙ before.rows height a b deep tree;
      shown = λ k d inside. before.shown (suc k) d (omega (arith, inside));
    }

pub walked_fault : {P : Type 0} (g : Ghosts P) (early now later : P) (page low high levels child : ℕ) (f : TreeFault) (old mid new all : List (ℤ × List ℕ)) (left rest : List ℕ)
    → Reads g early now → Reads g now later → left ≡ child ∷ rest → HasWalked g early now page low high levels old mid left
    → WalksBelow {X = Unit {0}} g now later child low high (levels - 1) mid new (Err f) → WalksBelow {X = Unit {0}} g early later page low high levels old all (Err f)
walked_fault g early now later page low high levels child (Space f) old mid new all left rest kept keeps e walked walks pages agrees height a b under tree = tt
walked_fault g early now later page low high levels child (Corrupt at) old mid new all left rest kept keeps e walked walks pages agrees zero a b under tree =
    let before = rw e at (walked pages (keeps.earlier pages agrees)) in
    let h = (before.leaf a b tree).0 in cc
walked_fault g early now later page low high levels child (Corrupt at) old mid new all left rest kept keeps e walked walks pages agrees (suc height) a b under tree =
    let before = rw e at (walked pages (keeps.earlier pages agrees)) in
    let here = (before.trees height a b tree).0 in
    let whole = rw (kept.used, kept.laid) at (walks pages agrees) in
    whole height here.0 here.1 (omega (arith, under)) here.2

pub walked_names : {P : Type 0} (g : Ghosts P) (early now later : P) (page low high levels child : ℕ) (f : TreeFault) (old mid : List (ℤ × List ℕ)) (left rest : List ℕ)
    → 0 < levels → Reads g early now → Reads g now later → left ≡ child ∷ rest → HasWalked g early now page low high levels old mid left
    → NamesDamage {X = Unit {0}} g now later child (levels - 1) (Err f) → NamesDamage {X = Unit {0}} g early later page levels (Err f)
walked_names g early now later page low high levels child (Space f) old mid left rest more kept keeps e walked names pages agrees = tt
walked_names g early now later page low high levels child (Corrupt at) old mid left rest more kept keeps e walked names pages agrees =
    let before = rw e at (walked pages (keeps.earlier pages agrees)) in
    let back : suc (levels - 1) ≡ levels = omega (arith, more) in
    let fault : Result (Unit {0}) TreeFault = Err (Corrupt at) in
    let P : ℕ → Type 0 = λ n. HasDamage (g.used early) (sight g early pages) page n fault in
    subst P back (below_names (Unit {0}) (g.used early) (sight g early pages) page (levels - 1) child fault (before.shown 0 child (omega arith)) (rw (kept.used, kept.laid) at (names pages agrees)))

pub walked_rest : {P : Type 0} (g : Ghosts P) (early now : P) (page low high levels : ℕ) (old new : List (ℤ × List ℕ)) (rest : List ℕ) (n : ℕ) → length rest ≤ n
    → HasWalked g early now page low high levels old new rest → HasWalked g early now page low high levels old new (take n rest)
walked_rest g early now page low high levels old new rest n all walked = rw (take_all n rest all) walked

nil_of : (xs : List ℕ) → length xs < 1 → xs ≡ []
nil_of [] h = refl
nil_of (x ∷ xs) h = absurd (omega (arith, h))

pub walked_end : {P : Type 0} (g : Ghosts P) (early now : P) (page low high levels : ℕ) (old new : List (ℤ × List ℕ)) (left : List ℕ) → length left < 1
    → HasWalked g early now page low high levels old new left → WalksBelow {X = Unit {0}} g early now page low high levels old new (Ok tt)
walked_end g early now page low high levels old new left none walked pages agrees zero a b under tree = ((walked pages agrees).leaf a b tree).1
walked_end g early now page low high levels old new left none walked pages agrees (suc height) a b under tree =
    let before = rw (nil_of left none) at (walked pages agrees) in
    sym (append-nil new) ∙ before.rows height a b under tree
