-- Marks of the tree of an index.
use Rattle.std.proofs.Common.{◌≡◌, ℕ, zero, suc, ◌+◌, ◌<◌, ◌≤◌, List, [], ◌∷◌, ◌++◌, refl, sym, ap, ◌∙◌, arith, true, false, ⊎_elim}
use Rattle.std.specs.List.{flat_map}
use Rattle.std.proofs.lemmas.Bool.{cases_Bool}
use Rattle.std.proofs.lemmas.List.Elements.{All-cons, All-head, All-nil, All-tail}
use Rattle.spe_model.specs.declared.page.Cell.{Cell}
use Rattle.spe_model.specs.declared.page.Kind.TheVariants.{IndexLeaf, IndexInterior}
use Rattle.spe_model.specs.Chain.{IsChain, links}
use Rattle.spe_model.specs.Kind.{is_leaf}
use Rattle.spe_model.specs.Paging.{Paging}
use Rattle.spe_model.specs.Standing.{AreBelow, AreChained, IsIndexTree, all_pages, chain_pages}
use Rattle.spe_model.specs.Tree.{fan, node_at, node_cells, node_right, rest_of}
use Rattle.spe_model.specs.Walk.{Mark, cell_chain, chains_marks, index_fan_marks, index_marks, is_leaf_page}
use Rattle.spe_verdict.proofs.ChainLemmas.{chain_complete, chain_named, chain_sound}
use Rattle.spe_verdict.proofs.MarkLemmas.{AreKept, kept-append, kept_parts, named, named-append}
use Rattle.spe_verdict.proofs.NodeLemmas.{is_index_interior, is_index_leaf, is_other, made_kind, made_legal}
use Rattle.spe_verdict.proofs.TableLemmas.{depth_kept, depth_of_leaf}
use Rattle.spe_verdict.proofs.TimesLemmas.{times, times-append}

abbrev pub HasChain : (usable : ℕ) → Paging → Cell → Type 0
HasChain usable pages c = IsChain usable pages (rest_of c) c.chain

chain_of : (usable : ℕ) (pages : Paging) (page : ℕ) (c : Cell) → 5 ≤ usable → AreKept (cell_chain usable pages page c) → HasChain usable pages c
chain_of usable pages page c wide kept = chain_sound usable pages (links usable (rest_of c)) (rest_of c) page c.chain wide refl kept

chain_is : (usable : ℕ) (pages : Paging) (page : ℕ) (c : Cell) → HasChain usable pages c → AreKept (cell_chain usable pages page c)
chain_is usable pages page c has = chain_complete usable pages (links usable (rest_of c)) (rest_of c) page c.chain has

chains_sound : (usable : ℕ) (pages : Paging) (page : ℕ) (cells : List Cell) → 5 ≤ usable → AreKept (chains_marks usable pages page cells) → AreChained usable pages cells
chains_sound usable pages page [] wide kept = All-nil (HasChain usable pages)
chains_sound usable pages page (c ∷ cs) wide kept =
    let parts = kept_parts (cell_chain usable pages page c) (chains_marks usable pages page cs) kept in
    All-cons (HasChain usable pages) c cs (chain_of usable pages page c wide parts.0) (chains_sound usable pages page cs wide parts.1)

chains_complete : (usable : ℕ) (pages : Paging) (page : ℕ) (cells : List Cell) → AreChained usable pages cells → AreKept (chains_marks usable pages page cells)
chains_complete usable pages page [] all = tt
chains_complete usable pages page (c ∷ cs) all =
    kept-append (cell_chain usable pages page c) (chains_marks usable pages page cs)
    (chain_is usable pages page c (All-head (HasChain usable pages) c cs all))
    (chains_complete usable pages page cs (All-tail (HasChain usable pages) c cs all))

chains_named : (usable : ℕ) (pages : Paging) (page : ℕ) (cells : List Cell) → named (chains_marks usable pages page cells) ≡ flat_map (chain_pages usable pages) cells
chains_named usable pages page [] = refl
chains_named usable pages page (c ∷ cs) =
    named-append (cell_chain usable pages page c) (chains_marks usable pages page cs)
    ∙ rw (chain_named pages (links usable (rest_of c)) page c.chain, chains_named usable pages page cs) refl

index_fan_last : {C : Type 0} → (walk : (holder page : ℕ) → List Mark) → ((holder page : ℕ) → AreKept (walk holder page) → C)
    → (usable : ℕ) (pages : Paging) (page : ℕ) (cells : List Cell) (right : ℕ) → AreKept (index_fan_marks walk usable pages page cells right) → C
index_fan_last walk each usable pages page [] right kept = each page right kept
index_fan_last walk each usable pages page (c ∷ cs) right kept =
    let parts = kept_parts (walk page c.left ++ cell_chain usable pages page c) _ kept in
    index_fan_last walk each usable pages page cs right parts.1

index_fan_sound : (walk : (holder page : ℕ) → List Mark) (T : ℕ → Type 0) → ((holder page : ℕ) → AreKept (walk holder page) → T page)
    → (usable : ℕ) (pages : Paging) (page : ℕ) (cells : List Cell) (right : ℕ) → 5 ≤ usable → AreKept (index_fan_marks walk usable pages page cells right)
    → AreChained usable pages cells × AreBelow T cells right
index_fan_sound walk T each usable pages page [] right wide kept = (All-nil (HasChain usable pages), each page right kept)
index_fan_sound walk T each usable pages page (c ∷ cs) right wide kept =
    let parts = kept_parts (walk page c.left ++ cell_chain usable pages page c) _ kept in
    let left = kept_parts (walk page c.left) (cell_chain usable pages page c) parts.0 in
    let rest = index_fan_sound walk T each usable pages page cs right wide parts.1 in
    (All-cons (HasChain usable pages) c cs (chain_of usable pages page c wide left.1) rest.0, (each page c.left left.0, rest.1))

index_fan_complete : (walk : (holder page : ℕ) → List Mark) (T : ℕ → Type 0) → ((holder page : ℕ) → T page → AreKept (walk holder page))
    → (usable : ℕ) (pages : Paging) (page : ℕ) (cells : List Cell) (right : ℕ)
    → AreChained usable pages cells → AreBelow T cells right → AreKept (index_fan_marks walk usable pages page cells right)
index_fan_complete walk T each usable pages page [] right all below = each page right below
index_fan_complete walk T each usable pages page (c ∷ cs) right all below =
    kept-append (walk page c.left ++ cell_chain usable pages page c) _
    (kept-append (walk page c.left) _ (each page c.left below.0) (chain_is usable pages page c (All-head (HasChain usable pages) c cs all)))
    (index_fan_complete walk T each usable pages page cs right (All-tail (HasChain usable pages) c cs all) below.1)

-- each page as often as it is among the chains and the children
index_fan_named : (walk : (holder page : ℕ) → List Mark) (T : ℕ → Type 0) (own : ℕ → List ℕ) (n : ℕ)
    → ((holder page : ℕ) → T page → times n (named (walk holder page)) ≡ times n (own page))
    → (usable : ℕ) (pages : Paging) (page : ℕ) (cells : List Cell) (right : ℕ) → AreBelow T cells right
    → times n (named (index_fan_marks walk usable pages page cells right)) ≡ times n (flat_map (chain_pages usable pages) cells ++ fan own cells right)
index_fan_named walk T own n each usable pages page [] right below = each page right below
index_fan_named walk T own n each usable pages page (c ∷ cs) right below =
    let others = index_fan_marks walk usable pages page cs right in
    let chain = cell_chain usable pages page c in
    let a = ap (times n) (named-append (walk page c.left ++ chain) others) ∙ times-append n (named (walk page c.left ++ chain)) (named others) in
    let b = ap (times n) (named-append (walk page c.left) chain) ∙ times-append n (named (walk page c.left)) (named chain) in
    let here = each page c.left below.0 in
    let mine = ap (times n) (chain_named pages (links usable (rest_of c)) page c.chain) in
    let rest = index_fan_named walk T own n each usable pages page cs right below.1 in
    let rest_split = times-append n (flat_map (chain_pages usable pages) cs) (fan own cs right) in
    let all = times-append n (chain_pages usable pages c ++ flat_map (chain_pages usable pages) cs) (own c.left ++ fan own cs right) in
    let all_chains = times-append n (chain_pages usable pages c) (flat_map (chain_pages usable pages) cs) in
    let all_below = times-append n (own c.left) (fan own cs right) in
    omega arith

pub index_levels : (usable : ℕ) (pages : Paging) (leaf levels holder page : ℕ)
    → AreKept (index_marks usable pages leaf levels holder page) → (0 < leaf) × (leaf ≤ levels)
index_levels usable pages leaf zero holder page kept = absurd (let no = kept.1.1.0 in cc)
index_levels usable pages leaf (suc levels) holder page kept = ⊎_elim
    (λ (is : is_leaf_page usable pages page ≡ true).
    let same = depth_of_leaf (suc levels) leaf (is_leaf_page usable pages page) kept.1.1.0 is in (omega arith, omega arith))
    (λ (is : is_leaf_page usable pages page ≡ false).
    let rest : AreKept (index_fan_marks (index_marks usable pages leaf levels) usable pages page (node_cells usable pages page) (node_right usable pages page)) = rw is at kept.1.1.1 in
    let last = index_fan_last (index_marks usable pages leaf levels) (λ o p k. index_levels usable pages leaf levels o p k)
    usable pages page (node_cells usable pages page) (node_right usable pages page) rest in
    (last.0, omega arith))
    (cases_Bool (is_leaf_page usable pages page))

pub index_sound : (usable : ℕ) (pages : Paging) (leaf levels height holder page : ℕ)
    → 5 ≤ usable → 0 < leaf → levels ≡ height + leaf → AreKept (index_marks usable pages leaf levels holder page) → IsIndexTree usable pages height page
index_sound usable pages leaf zero height holder page wide some at kept = absurd (omega arith)
index_sound usable pages leaf (suc levels) zero holder page wide some at kept = ⊎_elim
    (λ (is : is_leaf_page usable pages page ≡ true).
    let rest : AreKept (chains_marks usable pages page (node_cells usable pages page)) = rw is at kept.1.1.1 in
    (is_index_leaf (node_at usable pages page) kept.0 kept.1.0 is, chains_sound usable pages page (node_cells usable pages page) wide rest))
    (λ (is : is_leaf_page usable pages page ≡ false).
    let rest : AreKept (index_fan_marks (index_marks usable pages leaf levels) usable pages page (node_cells usable pages page) (node_right usable pages page)) = rw is at kept.1.1.1 in
    let last = index_fan_last (index_marks usable pages leaf levels) (λ o p k. index_levels usable pages leaf levels o p k)
    usable pages page (node_cells usable pages page) (node_right usable pages page) rest in
    let deep = last.1 in
    absurd (omega arith))
    (cases_Bool (is_leaf_page usable pages page))
index_sound usable pages leaf (suc levels) (suc height) holder page wide some at kept = ⊎_elim
    (λ (is : is_leaf_page usable pages page ≡ true).
    let same = depth_of_leaf (suc levels) leaf (is_leaf_page usable pages page) kept.1.1.0 is in absurd (omega arith))
    (λ (is : is_leaf_page usable pages page ≡ false).
    let rest : AreKept (index_fan_marks (index_marks usable pages leaf levels) usable pages page (node_cells usable pages page) (node_right usable pages page)) = rw is at kept.1.1.1 in
    let found = index_fan_sound (index_marks usable pages leaf levels) (IsIndexTree usable pages height)
    (λ o p k. index_sound usable pages leaf levels height o p wide some (omega arith) k)
    usable pages page (node_cells usable pages page) (node_right usable pages page) wide rest in
    (is_index_interior (node_at usable pages page) kept.0 kept.1.0 is, found.0, found.1))
    (cases_Bool (is_leaf_page usable pages page))

pub index_complete : (usable : ℕ) (pages : Paging) (leaf levels height holder page : ℕ)
    → 0 < leaf → levels ≡ height + leaf → IsIndexTree usable pages height page → AreKept (index_marks usable pages leaf levels holder page)
index_complete usable pages leaf zero height holder page some at is = absurd (omega arith)
index_complete usable pages leaf (suc levels) zero holder page some at is =
    let r = node_at usable pages page in
    let leaf_is : is_leaf_page usable pages page ≡ true = made_kind is_leaf IndexLeaf r is.0 in (
      made_legal IndexLeaf r is.0,
      (
        made_kind is_other IndexLeaf r is.0,
        (
          depth_kept (suc levels) leaf (is_leaf_page usable pages page) (omega arith) (λ _. omega arith),
          rw leaf_is (chains_complete usable pages page (node_cells usable pages page) is.1),
        ),
      ),
    )
index_complete usable pages leaf (suc levels) (suc height) holder page some at is =
    let r = node_at usable pages page in
    let leaf_is : is_leaf_page usable pages page ≡ false = made_kind is_leaf IndexInterior r is.0 in (
      made_legal IndexInterior r is.0,
      (
        made_kind is_other IndexInterior r is.0,
        (
          depth_kept (suc levels) leaf (is_leaf_page usable pages page) (omega arith) (λ (t : is_leaf_page usable pages page ≡ true). let both : true ≡ false = sym t ∙ leaf_is in absurd cc),
          rw leaf_is (index_fan_complete (index_marks usable pages leaf levels) (IsIndexTree usable pages height)
              (λ o p t. index_complete usable pages leaf levels height o p some (omega arith) t)
              usable pages page (node_cells usable pages page) (node_right usable pages page) is.1 is.2),
        ),
      ),
    )

pub index_named : (usable : ℕ) (pages : Paging) (leaf levels height holder page n : ℕ)
    → 0 < leaf → levels ≡ height + leaf → IsIndexTree usable pages height page
    → times n (named (index_marks usable pages leaf levels holder page)) ≡ times n (all_pages usable pages height page)
index_named usable pages leaf zero height holder page n some at is = absurd (omega arith)
index_named usable pages leaf (suc levels) zero holder page n some at is =
    let leaf_is : is_leaf_page usable pages page ≡ true = made_kind is_leaf IndexLeaf (node_at usable pages page) is.0 in
    rw (leaf_is, chains_named usable pages page (node_cells usable pages page)) refl
index_named usable pages leaf (suc levels) (suc height) holder page n some at is =
    let leaf_is : is_leaf_page usable pages page ≡ false = made_kind is_leaf IndexInterior (node_at usable pages page) is.0 in
    let below = index_fan_named (index_marks usable pages leaf levels) (IsIndexTree usable pages height) (all_pages usable pages height) n
    (λ o p t. index_named usable pages leaf levels height o p n some (omega arith) t)
    usable pages page (node_cells usable pages page) (node_right usable pages page) is.2 in
    rw leaf_is (omega (arith, below))
