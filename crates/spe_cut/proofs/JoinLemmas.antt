-- Pages that become one.
use Rattle.std.proofs.Common.{◌≡◌, ℕ, zero, suc, ℤ, ◌+◌, ◌≤◌, ◌∙◌, List, [], ◌∷◌, ◌++◌, length, refl, sym, ap, arith}
use Rattle.std.specs.List.{flat_map}
use Rattle.std.proofs.lemmas.Grind.{flat_map-append}
use Rattle.std.proofs.lemmas.List.{map-append}
use Rattle.spe_model.specs.declared.page.Cell.{Cell}
use Rattle.spe_model.specs.declared.page.Kind.TheVariants.{TableInterior}
use Rattle.spe_model.specs.Paging.{Paging}
use Rattle.spe_model.specs.Served.{HasCells}
use Rattle.spe_model.specs.Standing.{all_pages, chain_pages}
use Rattle.spe_model.specs.Tree.{AreRows, AreUnder, IsTree, fan, header_end, node_cells, node_right, payload_of, rank, rows_of, tree_pages, tree_rows}
use Rattle.spe_format.proofs.WritableLemmas.{taken_writable}
use Rattle.spe_frame.specs.Times.{AreSame, one_if, times}
use Rattle.spe_frame.proofs.TimesLemmas.{Each, each_from_holds, each_left, each_right, times-append}
use Rattle.std.specs.Prelude.{◌==◌}
use Rattle.spe_cut.specs.Joined.{PairIsWhole, RunIsGathered, cells_under, nodes_in}
use Rattle.spe_cut.specs.Run.{pages_in, rows_in}
use Rattle.spe_cut.specs.Split.{high_half, low_half}
use Rattle.spe_cut.proofs.FanLemmas.{below_followed, fan_parted, under_followed}
use Rattle.spe_cut.proofs.GoneLemmas.{rows_wider}
use Rattle.spe_cut.proofs.HolderLemmas.{no_chains, run_of_holder}
use Rattle.spe_cut.proofs.OrderLemmas.{rows_order, tree_orders}
use Rattle.spe_cut.proofs.SplitLemmas.{two_roots}

pub pair_is_whole : PairIsWhole
pair_is_whole usable pages height low high cut first second wide paired =
    let k = rank cut.middle.key in
    let one = run_of_holder usable pages height low (k + 1) first (low_half cut) wide paired.lower paired.run.2 in
    let two = run_of_holder usable pages height (k + 1) high second (high_half cut) wide paired.higher paired.run.3 in
    let low_pages = pages_in usable pages height (low_half cut) in
    let high_pages = pages_in usable pages height (high_half cut) in
    record {
      is = under_followed (IsTree usable pages height) (tree_orders usable pages height) low high k cut.lower cut.middle cut.higher cut.right refl
          one.children (let open_ = paired.last in omega (arith, open_)) paired.run.1 two.children;
      rows = fan_parted (tree_rows usable pages height) cut.lower cut.middle cut.higher cut.right
          ∙ ap (λ (rows : List (ℤ × List ℕ)). rows ++ rows_in usable pages height (high_half cut)) (sym one.rows)
          ∙ ap (λ (rows : List (ℤ × List ℕ)). tree_rows usable pages (suc height) first ++ rows) (sym two.rows);
      pages_are = λ n.
          ap (times n) (ap (λ (ps : List ℕ). ps ++ all_pages usable pages (suc height) second) one.pages_are
          ∙ ap (λ (ps : List ℕ). (first ∷ low_pages) ++ ps) two.pages_are)
          ∙ two_roots first second low_pages high_pages n
          ∙ ap (λ (ps : List ℕ). times n (first ∷ second ∷ ps)) (sym (fan_parted (all_pages usable pages height) cut.lower cut.middle cut.higher cut.right));
      filled = λ below. below_followed (HasCells usable pages height) cut.lower cut.middle cut.higher cut.right (one.filled below.0).1 (two.filled below.1).1;
    }

-- rows behind other rows
rows_joined : (usable : ℕ) (pages : Paging) (low middle high : ℕ) (xs ys : List Cell) → AreRows usable pages low middle xs → AreRows usable pages middle high ys
    → AreRows usable pages low high (xs ++ ys)
rows_joined usable pages low middle high [] ys first second = rows_wider usable pages middle high low high ys second first (omega arith)
rows_joined usable pages low middle high (c ∷ cs) ys first second =
    let order = rows_order usable pages middle high ys second in
    (first.0, omega (arith, first.1, order), first.2, rows_joined usable pages (rank c.key + 1) middle high cs ys first.3 second)

-- each tree's cells are rows between its bounds
abbrev HaveRows : (usable : ℕ) → Paging → (T : (low high page : ℕ) → Type 0) (cells : ℕ → List Cell) → Type 0
HaveRows usable pages T cells = (low high page : ℕ) → T low high page → AreRows usable pages low high (cells page)

fan_rows : (usable : ℕ) (pages : Paging) (T : (low high page : ℕ) → Type 0) (own : ℕ → List Cell) → HaveRows usable pages T own → (low high : ℕ) (cells : List Cell) (right : ℕ)
    → AreUnder T low high cells right → AreRows usable pages low high (fan own cells right)
fan_rows usable pages T own have low high [] right under = have low high right under
fan_rows usable pages T own have low high (c ∷ cs) right under =
    rows_joined usable pages low (rank c.key + 1) high (own c.left) (fan own cs right) (have low (rank c.key + 1) c.left under.2)
    (fan_rows usable pages T own have (rank c.key + 1) high cs right under.3)

tree_is_rows : (usable : ℕ) (pages : Paging) (height : ℕ) → HaveRows usable pages (IsTree usable pages height) (cells_under usable pages height)
tree_is_rows usable pages zero low high page tree = tree.1
tree_is_rows usable pages (suc height) low high page tree =
    fan_rows usable pages (IsTree usable pages height) (cells_under usable pages height) (tree_is_rows usable pages height) low high
    (node_cells usable pages page) (node_right usable pages page) tree.1

fan_rows_are : (usable : ℕ) (pages : Paging) (rows : ℕ → List (ℤ × List ℕ)) (own : ℕ → List Cell) → ((page : ℕ) → rows page ≡ rows_of usable pages (own page))
    → (cells : List Cell) (right : ℕ) → fan rows cells right ≡ rows_of usable pages (fan own cells right)
fan_rows_are usable pages rows own each [] right = each right
fan_rows_are usable pages rows own each (c ∷ cs) right =
    rw (each c.left, fan_rows_are usable pages rows own each cs right)
    (sym (map-append (λ (d : Cell). (d.key, payload_of usable pages d)) (own c.left) (fan own cs right)))

tree_rows_are : (usable : ℕ) (pages : Paging) (height page : ℕ) → tree_rows usable pages height page ≡ rows_of usable pages (cells_under usable pages height page)
tree_rows_are usable pages zero page = refl
tree_rows_are usable pages (suc height) page =
    fan_rows_are usable pages (tree_rows usable pages height) (cells_under usable pages height) (tree_rows_are usable pages height)
    (node_cells usable pages page) (node_right usable pages page)

-- Each tree's pages are its nodes and the chains of its cells, where the nodes are whole.
abbrev IsLong : (usable : ℕ) → Paging → ℕ → Type 0
IsLong usable pages n = usable ≤ length (pages n)

abbrev HavePages : (usable : ℕ) → Paging → (T : (low high page : ℕ) → Type 0) (all nodes : ℕ → List ℕ) (own : ℕ → List Cell) → Type 0
HavePages usable pages T all nodes own = (low high page : ℕ) → T low high page → Each (IsLong usable pages) (nodes page)
    → AreSame (all page) (nodes page ++ flat_map (chain_pages usable pages) (own page))

both_parts : (all nodes chains all' nodes' chains' joined : List ℕ) → AreSame all (nodes ++ chains) → AreSame all' (nodes' ++ chains') → joined ≡ chains ++ chains'
    → AreSame (all ++ all') ((nodes ++ nodes') ++ joined)
both_parts all nodes chains all' nodes' chains' joined same same' is n =
    let e = same n in
    let e' = same' n in
    let f = ap (times n) is in
    omega (arith, e, e', f, times-append n nodes chains, times-append n nodes' chains', times-append n all all', times-append n (nodes ++ nodes') joined, times-append n nodes nodes', times-append n chains chains')

fan_pages : (usable : ℕ) (pages : Paging) (T : (low high page : ℕ) → Type 0) (all nodes : ℕ → List ℕ) (own : ℕ → List Cell) → HavePages usable pages T all nodes own
    → (low high : ℕ) (cells : List Cell) (right : ℕ) → AreUnder T low high cells right → Each (IsLong usable pages) (fan nodes cells right)
    → AreSame (fan all cells right) (fan nodes cells right ++ flat_map (chain_pages usable pages) (fan own cells right))
fan_pages usable pages T all nodes own have low high [] right under long = have low high right under long
fan_pages usable pages T all nodes own have low high (c ∷ cs) right under long =
    both_parts (all c.left) (nodes c.left) (flat_map (chain_pages usable pages) (own c.left))
    (fan all cs right) (fan nodes cs right) (flat_map (chain_pages usable pages) (fan own cs right)) (flat_map (chain_pages usable pages) (own c.left ++ fan own cs right))
    (have low (rank c.key + 1) c.left under.2 (each_left (IsLong usable pages) (nodes c.left) (fan nodes cs right) long))
    (fan_pages usable pages T all nodes own have (rank c.key + 1) high cs right under.3 (each_right (IsLong usable pages) (nodes c.left) (fan nodes cs right) long))
    (flat_map-append (chain_pages usable pages) (own c.left) (fan own cs right))

no_chains_at : (usable : ℕ) (pages : Paging) (height low high page : ℕ) → 5 ≤ usable → IsTree usable pages (suc height) low high page → IsLong usable pages page
    → flat_map (chain_pages usable pages) (node_cells usable pages page) ≡ []
no_chains_at usable pages height low high page wide tree long =
    no_chains usable pages (node_cells usable pages page) wide
    (taken_writable (pages page) (header_end page) usable (record { kind = TableInterior; cells = node_cells usable pages page; right = node_right usable pages page }) long tree.0).cells

tree_pages_are : (usable : ℕ) (pages : Paging) → 5 ≤ usable → (height : ℕ)
    → HavePages usable pages (IsTree usable pages height) (all_pages usable pages height) (tree_pages usable pages height) (cells_under usable pages height)
tree_pages_are usable pages wide zero low high page tree long n = refl
tree_pages_are usable pages wide (suc height) low high page tree long n =
    let cells = node_cells usable pages page in
    let right = node_right usable pages page in
    let below = fan_pages usable pages (IsTree usable pages height) (all_pages usable pages height) (tree_pages usable pages height) (cells_under usable pages height)
    (tree_pages_are usable pages wide height) low high cells right tree.1 long.1 n in
    ap (λ (ps : List ℕ). times n (page ∷ ps ++ fan (all_pages usable pages height) cells right)) (no_chains_at usable pages height low high page wide tree long.0)
    ∙ ap (λ (count : ℕ). one_if (n == page) + count) below

pub run_is_gathered : RunIsGathered
run_is_gathered usable pages height low high run is =
    let T = IsTree usable pages height in
    let own = cells_under usable pages height in
    record {
      rows = fan_rows usable pages T own (tree_is_rows usable pages height) low high run.cells run.right is;
      rows_are = fan_rows_are usable pages (tree_rows usable pages height) own (tree_rows_are usable pages height) run.cells run.right;
      pages_are = λ wide long.
          fan_pages usable pages T (all_pages usable pages height) (tree_pages usable pages height) own (tree_pages_are usable pages wide height) low high run.cells run.right is
          (each_from_holds (IsLong usable pages) (nodes_in usable pages height run) long);
    }
