-- Free lists.
use Rattle.std.proofs.Common.{◌≡◌, ◌∙◌, ℕ, zero, suc, ◌+◌, ◌-◌, ◌*◌, ◌<◌, ◌≤◌, ◌==◌, Bool, true, false, List, [], ◌∷◌, Option, Some, None, map, length, take, refl, sym, ap, subst, arith}
use Rattle.std.specs.Prelude.{Result, Ok, Err, IfOk, not, ◌&&◌, nat_le, if◌then◌else◌}
use Rattle.std.specs.List.{find}
use Rattle.std.proofs.lemmas.Bool.{and_parts, leb-true}
use Rattle.std.proofs.lemmas.List.{length-append, take-take}
use Rattle.spe_model.specs.declared.header.Header.{Header}
use Rattle.spe_model.specs.declared.header.HeaderFault.{HeaderFault}
use Rattle.spe_model.specs.Big.{u32_at}
use Rattle.spe_model.specs.FreeList.{first_trunks, is_list_count, names_node}
use Rattle.spe_model.specs.Header.{faults, fields, has_fault, header_of, node_of, unless}
use Rattle.spe_model.specs.Journal.{numbers_from}
use Rattle.spe_model.specs.Paging.{Paging}
use Rattle.spe_model.specs.Verdict.{free_marks, free_pages, list_marks, node_marks, stock_marks}
use Rattle.spe_model.specs.Walk.{Names, Keeps, trunk_marks, walk_trunks}
use Rattle.spe_space.proofs.FrontLemmas.{u32_at-take}
use Rattle.spe_check.specs.declared.met.Met.{Met}
use Rattle.spe_check.specs.declared.halt.Halt.{Halt}
use Rattle.spe_check.specs.FreeLists.{firsts_in, lists_marks, lists_pages, numbered_marks, AreAmong, TriesPages}
use Rattle.spe_check.specs.MetPages.{has_met}
use Rattle.spe_check.specs.Tries.{Tries}
use Rattle.spe_check.proofs.TriesLemmas.{leads_try, leads_halt, tries_halt, tries_then, the_ok, the_err}

-- the first trunks from one on
abbrev pub firsts_from : List ℕ → (index count : ℕ) → List ℕ
firsts_from bytes index count = map (λ i. u32_at bytes (4 + 4 * i)) (numbers_from index (count - index))

firsts_step : (bytes : List ℕ) (index count : ℕ) → index < count → firsts_from bytes index count ≡ u32_at bytes (4 + 4 * index) ∷ firsts_from bytes (index + 1) count
firsts_step bytes index count less =
    let one : count - index ≡ suc (count - (index + 1)) = omega (arith, less) in
    ap (λ n. map (λ i. u32_at bytes (4 + 4 * i)) (numbers_from index n)) one

firsts_take : (bytes : List ℕ) (k from count : ℕ) → 4 + 4 * (from + count) ≤ k
    → map (λ i. u32_at (take k bytes) (4 + 4 * i)) (numbers_from from count) ≡ map (λ i. u32_at bytes (4 + 4 * i)) (numbers_from from count)
firsts_take bytes k from zero within = refl
firsts_take bytes k from (suc count) within =
    rw (u32_at-take k (4 + 4 * from) bytes (omega (arith, within)), firsts_take bytes k (from + 1) count (omega (arith, within))) refl

-- a list more
pub among_more : (usable : ℕ) (pages : Paging) (before now later : Met) (node index count free more : ℕ) (bytes : List ℕ) → index < count → now.pages ≡ before.pages
    → AreAmong usable pages before now node (firsts_in bytes count) (firsts_from bytes index count) free
    → TriesPages now later (list_marks usable now.pages pages node (u32_at bytes (4 + 4 * index))) (walk_trunks pages now.pages (u32_at bytes (4 + 4 * index))) (the_ok ℕ more)
    → AreAmong usable pages before later node (firsts_in bytes count) (firsts_from bytes (index + 1) count) (free + more)
among_more usable pages before now later node index count free more bytes less same among tried =
    let first = u32_at bytes (4 + 4 * index) in
    let rest = firsts_from bytes (index + 1) count in
    let all = firsts_in bytes count in
    let L : List ℕ → Type 0 = λ left. AreAmong usable pages before now node all left free in
    let N : ℕ → Type 0 = λ n. TriesPages now later (list_marks usable n pages node first) (walk_trunks pages n first) (the_ok ℕ more) in
    let T : ℕ → Type 0 = λ n. Tries n (has_met now) (has_met later) (list_marks usable before.pages pages node first) (the_ok ℕ more) in
    let was = subst L (firsts_step bytes index count less) among in
    let here = subst N same tried in
    let both = length-append (walk_trunks pages before.pages first) (lists_pages before.pages pages rest) in
    record {
      tried = leads_try ℕ before.pages (has_met before) (has_met now) (has_met later) (lists_marks usable before.pages pages node all) (list_marks usable before.pages pages node first)
          (lists_marks usable before.pages pages node rest) more was.tried (subst T same here.0);
      counted = omega (arith, was.counted, here.1, both);
    }

pub among_break : (usable : ℕ) (pages : Paging) (before now later : Met) (node index count free : ℕ) (bytes : List ℕ) (halt : Halt) → index < count → now.pages ≡ before.pages
    → AreAmong usable pages before now node (firsts_in bytes count) (firsts_from bytes index count) free
    → TriesPages now later (list_marks usable now.pages pages node (u32_at bytes (4 + 4 * index))) (walk_trunks pages now.pages (u32_at bytes (4 + 4 * index))) (the_err ℕ halt)
    → TriesPages before later (lists_marks usable before.pages pages node (firsts_in bytes count)) (lists_pages before.pages pages (firsts_in bytes count)) (the_err ℕ halt)
among_break usable pages before now later node index count free bytes halt less same among tried =
    let first = u32_at bytes (4 + 4 * index) in
    let rest = firsts_from bytes (index + 1) count in
    let all = firsts_in bytes count in
    let L : List ℕ → Type 0 = λ left. AreAmong usable pages before now node all left free in
    let N : ℕ → Type 0 = λ n. Tries n (has_met now) (has_met later) (list_marks usable n pages node first) (the_err ℕ halt) in
    let was = subst L (firsts_step bytes index count less) among in (
      leads_halt ℕ ℕ before.pages (has_met before) (has_met now) (has_met later) (has_met later) (lists_marks usable before.pages pages node all) (list_marks usable before.pages pages node first)
          (lists_marks usable before.pages pages node rest) halt was.tried (subst N same tried.0),
      tt,
    )

-- all lists were tried
pub among_all : (usable : ℕ) (pages : Paging) (before now : Met) (node index count free : ℕ) (bytes : List ℕ) → count ≤ index
    → AreAmong usable pages before now node (firsts_in bytes count) (firsts_from bytes index count) free
    → TriesPages before now (lists_marks usable before.pages pages node (firsts_in bytes count)) (lists_pages before.pages pages (firsts_in bytes count)) (the_ok ℕ free)
among_all usable pages before now node index count free bytes over among =
    let none : count - index ≡ 0 = omega (arith, over) in
    let L : ℕ → Type 0 = λ n. AreAmong usable pages before now node (firsts_in bytes count) (map (λ i. u32_at bytes (4 + 4 * i)) (numbers_from index n)) free in
    let was = subst L none among in
    (was.tried, omega (arith, was.counted))

-- page 0 is no first trunk
pub some_list : (usable : ℕ) (pages : Paging) (before after : Met) (node first : ℕ) (r : Result ℕ Halt) → (first == 0) ≡ false
    → TriesPages before after (trunk_marks usable pages before.pages node first) (walk_trunks pages before.pages first) r
    → TriesPages before after (list_marks usable before.pages pages node first) (walk_trunks pages before.pages first) r
some_list usable pages before after node first r some tried =
    let P : Bool → Type 0 = λ b. TriesPages before after (if b then Names node 0 ∷ [] else trunk_marks usable pages before.pages node first) (walk_trunks pages before.pages first) r in
    subst P (sym some) tried

-- a node page is not met
pub node_meets : (usable count : ℕ) (pages : Paging) (a b : ℕ → Bool) (node : ℕ) (halt : Halt) → Tries count a b (Names 1 node ∷ []) (the_err (Unit {0}) halt)
    → Tries count a b (node_marks usable count pages node) (the_err ℕ halt)
node_meets usable count pages a b node halt tried =
    tries_halt (Unit {0}) ℕ count a b b (Names 1 node ∷ []) (Keeps node 11 (is_list_count (u32_at (pages node) 0)) ∷ lists_marks usable count pages node (first_trunks pages node)) halt tried

-- the number of lists, in the part of a node page that names them
number_at : (pages : Paging) (node number : ℕ) (names : List ℕ) → names ≡ take 68 (pages node) → number ≡ u32_at names 0 → number ≡ u32_at (pages node) 0
number_at pages node number names is number_is = number_is ∙ ap (λ xs. u32_at xs 0) is ∙ u32_at-take 68 0 (pages node) (omega arith)

-- that part itself
pub names_are : (pages : Paging) (node size : ℕ) (bytes names : List ℕ) → 480 ≤ size → bytes ≡ pages node → names ≡ take 68 (take size bytes) → names ≡ take 68 (pages node)
names_are pages node size bytes names long is names_is =
    names_is ∙ take-take 68 size bytes (omega (arith, long)) ∙ ap (take 68) is

-- a node page is met, and names no such number of lists
pub node_halt : (usable count : ℕ) (pages : Paging) (a b : ℕ → Bool) (node number : ℕ) (kept : Bool) (names : List ℕ) (halt : Halt) → names ≡ take 68 (pages node) → number ≡ u32_at names 0 → kept ≡ is_list_count number
    → Tries count a b (Names 1 node ∷ []) (the_ok (Unit {0}) tt) → Tries count b b (Keeps node 11 kept ∷ []) (the_err (Unit {0}) halt)
    → Tries count a b (node_marks usable count pages node) (the_err ℕ halt)
node_halt usable count pages a b node number kept names halt is number_is kept_is met tried =
    let number_in : kept ≡ is_list_count (u32_at (pages node) 0) = kept_is ∙ ap is_list_count (number_at pages node number names is number_is) in
    let K : Bool → Type 0 = λ k. Tries count b b (Keeps node 11 k ∷ []) (the_err (Unit {0}) halt) in
    tries_then {X = Unit {0}} {Y = ℕ} count a b b (Names 1 node ∷ []) (Keeps node 11 (is_list_count (u32_at (pages node) 0)) ∷ lists_marks usable count pages node (first_trunks pages node)) tt (the_err ℕ halt) met
    (tries_halt (Unit {0}) ℕ count b b b (Keeps node 11 (is_list_count (u32_at (pages node) 0)) ∷ []) (lists_marks usable count pages node (first_trunks pages node)) halt (subst K number_in tried))

at_most_16 : (n : ℕ) → is_list_count n ≡ true → n ≤ 16
at_most_16 n is = leb-true n 16 (and_parts (nat_le 1 n) (nat_le n 16) is).1

-- the lists that a node page names, by the part of it that names them
pub node_lists : (usable : ℕ) (pages : Paging) (before now later : Met) (node number : ℕ) (kept : Bool) (names : List ℕ) (r : Result ℕ Halt) → now.pages ≡ before.pages
    → names ≡ take 68 (pages node) → number ≡ u32_at names 0 → kept ≡ is_list_count number → kept ≡ true
    → Tries before.pages (has_met before) (has_met now) (Names 1 node ∷ []) (the_ok (Unit {0}) tt)
    → Tries before.pages (has_met now) (has_met now) (Keeps node 11 kept ∷ []) (the_ok (Unit {0}) tt)
    → TriesPages now later (lists_marks usable now.pages pages node (firsts_in names number)) (lists_pages now.pages pages (firsts_in names number)) r
    → TriesPages before later (node_marks usable before.pages pages node) (lists_pages before.pages pages (first_trunks pages node)) r
node_lists usable pages before now later node number kept names r same is number_is kept_is some met tried lists =
    let number_in : number ≡ u32_at (pages node) 0 = number_at pages node number names is number_is in
    let few : number ≤ 16 = at_most_16 number (sym kept_is ∙ some) in
    let firsts : firsts_in names number ≡ first_trunks pages node =
    ap (λ xs. firsts_in xs number) is ∙ firsts_take (pages node) 68 0 number (omega (arith, few)) ∙ ap (λ n. firsts_in (pages node) n) number_in in
    let F : List ℕ → Type 0 = λ fs. TriesPages now later (lists_marks usable now.pages pages node fs) (lists_pages now.pages pages fs) r in
    let C : ℕ → Type 0 = λ n. Tries n (has_met now) (has_met later) (lists_marks usable n pages node (first_trunks pages node)) r
    × IfOk r (λ free. free ≡ length (lists_pages n pages (first_trunks pages node))) in
    let K : Bool → Type 0 = λ k. Tries before.pages (has_met now) (has_met now) (Keeps node 11 k ∷ []) (the_ok (Unit {0}) tt) in
    let here = subst C same (subst F firsts lists) in
    let number_kept : kept ≡ is_list_count (u32_at (pages node) 0) = kept_is ∙ ap is_list_count number_in in
    let behind = tries_then {X = Unit {0}} {Y = ℕ} before.pages (has_met now) (has_met now) (has_met later) (Keeps node 11 (is_list_count (u32_at (pages node) 0)) ∷ [])
    (lists_marks usable before.pages pages node (first_trunks pages node)) tt r (subst K number_kept tried) here.0 in (
      tries_then {X = Unit {0}} {Y = ℕ} before.pages (has_met before) (has_met now) (has_met later) (Names 1 node ∷ [])
          (Keeps node 11 (is_list_count (u32_at (pages node) 0)) ∷ lists_marks usable before.pages pages node (first_trunks pages node)) tt r met behind,
      here.1,
    )

-- the pages of the only list are counted
pub stock_counted : (usable : ℕ) (pages : Paging) (before after : Met) (first number free : ℕ) (kept : Bool) (r : Result ℕ Halt) → kept ≡ (free == number) → IfOk r (λ n. n ≡ free)
    → TriesPages before after (trunk_marks usable pages before.pages 1 first) (walk_trunks pages before.pages first) (the_ok ℕ free)
    → Tries before.pages (has_met after) (has_met after) (Keeps 1 10 kept ∷ []) r
    → TriesPages before after (numbered_marks usable before.pages pages first number) (walk_trunks pages before.pages first) r
stock_counted usable pages before after first number free kept r kept_is found tried last =
    let number_kept : kept ≡ (length (walk_trunks pages before.pages first) == number) = kept_is ∙ ap (λ n. n == number) tried.1 in
    let K : Bool → Type 0 = λ k. Tries before.pages (has_met after) (has_met after) (Keeps 1 10 k ∷ []) r in (
      tries_then {X = ℕ} {Y = ℕ} before.pages (has_met before) (has_met after) (has_met after) (trunk_marks usable pages before.pages 1 first)
          (Keeps 1 10 (length (walk_trunks pages before.pages first) == number) ∷ []) free r tried.0 (subst K number_kept last),
      counted r found,
    )
  where
    counted : (r : Result ℕ Halt) → IfOk r (λ n. n ≡ free) → IfOk r (λ n. n ≡ length (walk_trunks pages before.pages first))
    counted (Ok n) found = found ∙ tried.1
    counted (Err halt) found = tt

pub stock_halt : (usable : ℕ) (pages : Paging) (before after : Met) (first number : ℕ) (halt : Halt)
    → Tries before.pages (has_met before) (has_met after) (trunk_marks usable pages before.pages 1 first) (the_err ℕ halt)
    → Tries before.pages (has_met before) (has_met after) (numbered_marks usable before.pages pages first number) (the_err ℕ halt)
stock_halt usable pages before after first number halt tried =
    tries_halt ℕ ℕ before.pages (has_met before) (has_met after) (has_met after) (trunk_marks usable pages before.pages 1 first)
    (Keeps 1 10 (length (walk_trunks pages before.pages first) == number) ∷ []) halt tried

-- what a legal header says of the bytes that it was read from
no_fault : (fault : Option HeaderFault) (made header : Header) → unless fault made ≡ Ok header → made ≡ header
no_fault None made header is = cc
no_fault (Some fault) made header is = absurd cc

header_first : (bytes : List ℕ) (header : Header) → header_of (take 100 bytes) ≡ Ok header → u32_at bytes 32 ≡ header.first_free
header_first bytes header is =
    let made : fields (take 100 bytes) ≡ header = no_fault (find (has_fault (take 100 bytes)) faults) (fields (take 100 bytes)) header is in
    sym (u32_at-take 100 32 bytes (omega arith)) ∙ ap (λ (h : Header). h.first_free) made

header_number : (bytes : List ℕ) (header : Header) → header_of (take 100 bytes) ≡ Ok header → u32_at bytes 36 ≡ header.free_count
header_number bytes header is =
    let made : fields (take 100 bytes) ≡ header = no_fault (find (has_fault (take 100 bytes)) faults) (fields (take 100 bytes)) header is in
    sym (u32_at-take 100 36 bytes (omega arith)) ∙ ap (λ (h : Header). h.free_count) made

chosen : (b : Bool) (page node : ℕ) → (if b then Some page else None) ≡ Some node → (b ≡ true) × (page ≡ node)
chosen true page node is = (refl, cc)
chosen false page node is = absurd cc

not_chosen : (b : Bool) (page : ℕ) → (if b then Some page else None) ≡ None → b ≡ false
not_chosen true page is = absurd cc
not_chosen false page is = refl

names_as : (bytes : List ℕ) (header : Header) → header_of (take 100 bytes) ≡ Ok header → names_node bytes ≡ (not (header.first_free == 0) && (header.free_count == 0))
names_as bytes header is = rw (header_first bytes header is, header_number bytes header is) refl

-- in server form
pub free_server : (usable : ℕ) (pages : Paging) (before after : Met) (header : Header) (node : ℕ) (r : Result ℕ Halt) → node_of header ≡ Some node → header_of (take 100 (pages 1)) ≡ Ok header
    → TriesPages before after (node_marks usable before.pages pages node) (lists_pages before.pages pages (first_trunks pages node)) r
    → TriesPages before after (free_marks usable before.pages pages) (free_pages before.pages pages) r
free_server usable pages before after header node r named is tried =
    let parts = chosen (not (header.first_free == 0) && (header.free_count == 0)) header.first_free node named in
    let server : names_node (pages 1) ≡ true = names_as (pages 1) header is ∙ parts.0 in
    let at : node ≡ u32_at (pages 1) 32 = sym (header_first (pages 1) header is ∙ parts.1) in
    let N : ℕ → Type 0 = λ n. TriesPages before after (node_marks usable before.pages pages n) (lists_pages before.pages pages (first_trunks pages n)) r in
    let B : Bool → Type 0 = λ b. TriesPages before after (if b then node_marks usable before.pages pages (u32_at (pages 1) 32) else stock_marks usable before.pages pages)
    (if b then lists_pages before.pages pages (first_trunks pages (u32_at (pages 1) 32)) else walk_trunks pages before.pages (u32_at (pages 1) 32)) r in
    subst B (sym server) (subst N at tried)

-- in stock form
pub free_stock : (usable : ℕ) (pages : Paging) (before after : Met) (header : Header) (r : Result ℕ Halt) → node_of header ≡ None → header_of (take 100 (pages 1)) ≡ Ok header
    → TriesPages before after (numbered_marks usable before.pages pages header.first_free header.free_count) (walk_trunks pages before.pages header.first_free) r
    → TriesPages before after (free_marks usable before.pages pages) (free_pages before.pages pages) r
free_stock usable pages before after header r named is tried =
    let stock : names_node (pages 1) ≡ false = names_as (pages 1) header is ∙ not_chosen (not (header.first_free == 0) && (header.free_count == 0)) header.first_free named in
    let F : ℕ → Type 0 = λ n. TriesPages before after (numbered_marks usable before.pages pages n header.free_count) (walk_trunks pages before.pages n) r in
    let N : ℕ → Type 0 = λ n. TriesPages before after (numbered_marks usable before.pages pages (u32_at (pages 1) 32) n) (walk_trunks pages before.pages (u32_at (pages 1) 32)) r in
    let B : Bool → Type 0 = λ b. TriesPages before after (if b then node_marks usable before.pages pages (u32_at (pages 1) 32) else stock_marks usable before.pages pages)
    (if b then lists_pages before.pages pages (first_trunks pages (u32_at (pages 1) 32)) else walk_trunks pages before.pages (u32_at (pages 1) 32)) r in
    subst B (sym stock) (subst N (sym (header_number (pages 1) header is)) (subst F (sym (header_first (pages 1) header is)) tried))
