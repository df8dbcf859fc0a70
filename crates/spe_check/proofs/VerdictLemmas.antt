-- What a walk that tries all marks says.
use Rattle.std.proofs.Common.{◌≡◌, ◌∙◌, ℕ, suc, ◌+◌, ◌-◌, ◌*◌, ◌^◌, ◌<◌, ◌≤◌, Bool, true, false, List, [], ◌∷◌, ◌++◌, Some, None, map, length, take, refl, sym, ap, subst, arith}
use Rattle.std.specs.Prelude.{filter, min, sum, Result, Ok, Err, IfOk, OnOk}
use Rattle.std.specs.List.{flat_map}
use Rattle.std.proofs.Math.Nat.{mul-le-mul_left}
use Rattle.std.proofs.Math.Path.{fun_ext}
use Rattle.std.proofs.lemmas.List.{append-nil}
use Rattle.spe_model.specs.declared.header.Header.{Header}
use Rattle.spe_model.specs.declared.verdict.Verdict.{Verdict}
use Rattle.spe_model.specs.declared.verdict.Verdict.TheVariants as verdicts
use Rattle.spe_model.specs.Header.{header_of}
use Rattle.spe_model.specs.Paging.{Paging, Agrees, lay}
use Rattle.spe_model.specs.Schema.{SchemaRow, is_table_row}
use Rattle.spe_model.specs.Served.{usable_in}
use Rattle.spe_model.specs.Verdict.{LeafRow, all_marks, free_marks, free_pages, object_marks, open_rows, placed_rows, schema_marks, schema_rows, tree_levels, verdict_of, verdict_with}
use Rattle.spe_model.specs.Walk.{Mark, Names, Keeps, first_broken, is_met, levels_at_leaf, table_marks, walk_rows}
use Rattle.spe_space.specs.Calls.{Reads, sight}
use Rattle.spe_space.specs.declared.pages.Pages.{Ghosts}
use Rattle.spe_verdict.specs.Bounds.{FreeAreFew, RowsAreFew, TablesAreFew}
use Rattle.spe_verdict.specs.Law.{StandsIsTrue}
use Rattle.spe_verdict.proofs.HeaderLemmas.{legal_usable}
use Rattle.spe_check.specs.Shown.{Shows}
use Rattle.spe_check.specs.declared.met.Met.{Met}
use Rattle.spe_check.specs.declared.halt.Halt.{Halt}
use Rattle.spe_check.specs.declared.halt.Halt.TheVariants.{Broken}
use Rattle.spe_check.specs.MetPages.{has_met}
use Rattle.spe_check.specs.Objects.{rows_of_open}
use Rattle.spe_check.specs.RecordRows.{saturated}
use Rattle.spe_check.specs.SchemaRows.{floor_of, placed_of, rows_in, schema_outlook}
use Rattle.spe_check.specs.Tries.{broken, Breaks, Passes, Tries}
use Rattle.spe_check.specs.Verdicts.{counted, narrowed, schema_tree, tables_among, with_row}
use Rattle.spe_check.specs.Visitor.{Outlook}
use Rattle.spe_check.proofs.TriesLemmas.{halts_same, tries_halt, tries_then, the_ok, the_err}

-- the pages that were met, as a list and as a test of page numbers
pub same_broken : (count : ℕ) (met : List ℕ) (marks : List Mark) → broken count (is_met met) marks ≡ first_broken count met marks
same_broken count met [] = refl
same_broken count met (Names holder page ∷ marks) = rw (same_broken count (page ∷ met) marks) refl
same_broken count met (Keeps page rule kept ∷ marks) = rw (same_broken count met marks) refl

-- no page was met at first
first_of : (count : ℕ) (none : ℕ → Bool) (marks : List Mark) → ((n : ℕ) → none n ≡ false) → first_broken count [] marks ≡ broken count none (marks ++ [])
first_of count none marks is =
    sym (ap (λ met. broken count met (marks ++ [])) (fun_ext is) ∙ ap (broken count (is_met [])) (append-nil marks) ∙ same_broken count [] marks)

first_breaks : (count : ℕ) (none : ℕ → Bool) (marks : List Mark) (which : ℕ × ℕ) → ((n : ℕ) → none n ≡ false) → Breaks count none marks which → first_broken count [] marks ≡ Some which
first_breaks count none marks which is breaks = first_of count none marks is ∙ breaks []

none_breaks : (count : ℕ) (none after : ℕ → Bool) (marks : List Mark) → ((n : ℕ) → none n ≡ false) → Passes count none after marks → first_broken count [] marks ≡ None
none_breaks count none after marks is passes = first_of count none marks is ∙ passes []

-- a rule is broken
broken_verdict : (usable count page rule : ℕ) (pages : Paging) (none : ℕ → Bool) → ((n : ℕ) → none n ≡ false) → Breaks count none (all_marks usable count pages) (page, rule)
    → verdicts.Broken page rule ≡ verdict_of usable count pages
unfolding verdict_of
broken_verdict usable count page rule pages none is breaks =
    sym (ap (verdict_with usable count pages) (first_breaks count none (all_marks usable count pages) (page, rule) is breaks))

-- a row more is counted
with_table : (tables : ℕ) (placed : ℕ × SchemaRow) (rest : List (ℕ × SchemaRow)) → narrowed (with_row tables placed + tables_among rest) ≡ narrowed (tables + tables_among (placed ∷ rest))
with_table tables placed rest = by_sort (is_table_row placed.1) refl
  where
    by_sort : (b : Bool) → is_table_row placed.1 ≡ b → narrowed (with_row tables placed + tables_among rest) ≡ narrowed (tables + tables_among (placed ∷ rest))
    by_sort true is = rw is (more (length (filter is_table_row (rows_in rest))))
      where
        more : (n : ℕ) → min (min (tables + 1) 4294967295 + n) 4294967295 ≡ min (tables + suc n) 4294967295
        more n = omega arith
    by_sort false is = rw is refl

pub tables_more : (tables all : ℕ) (left rest : List (ℕ × SchemaRow)) (placed : ℕ × SchemaRow) → left ≡ placed ∷ rest → narrowed (tables + tables_among left) ≡ all
    → narrowed (with_row tables placed + tables_among rest) ≡ all
tables_more tables all left rest placed is same = with_table tables placed rest ∙ ap (λ rows. narrowed (tables + tables_among rows)) (sym is) ∙ same

pub tables_end : (tables all : ℕ) (left : List (ℕ × SchemaRow)) → length left < 1 → tables ≤ 4294967295 → narrowed (tables + tables_among left) ≡ all → tables ≡ all
tables_end tables all [] none below same = omega (arith, below, same)
tables_end tables all (p ∷ ps) none below same = absurd (omega (arith, none))

-- the rows of the schema, as they come behind none
placed_are : (usable : ℕ) (pages : Paging) (levels : ℕ) (old : List (ℕ × SchemaRow)) → levels ≡ tree_levels → old ≡ [] → old ++ placed_of (walk_rows usable pages levels 1 ++ []) ≡ placed_rows usable pages
placed_are usable pages levels old levels_are none =
    ap (λ xs. xs ++ placed_of (walk_rows usable pages levels 1 ++ [])) none ∙ ap placed_of (append-nil (walk_rows usable pages levels 1)) ∙ ap (λ l. placed_of (walk_rows usable pages l 1)) levels_are

-- the tree of the schema was walked
pub schema_tried : (usable : ℕ) (pages : Paging) (before after : Met) (levels : ℕ) (old new : List (ℕ × SchemaRow)) (r : Result ℕ Halt) → levels ≡ tree_levels → old ≡ []
    → ((stand : ℕ) (later : List LeafRow) → stand ≡ levels_at_leaf usable pages levels 1 → floor_of old ≤ 0
    → Tries before.pages (has_met before) (has_met after) (table_marks (schema_outlook old (walk_rows usable pages levels 1 ++ later)).marks usable pages stand levels 0 18446744073709551616 1 1) r
    × IfOk r (λ level. stand ≡ level) × OnOk r (schema_outlook new later ≡ schema_outlook old (walk_rows usable pages levels 1 ++ later)))
    → Tries before.pages (has_met before) (has_met after) (schema_tree usable pages) r × OnOk r (new ≡ placed_rows usable pages)
schema_tried usable pages before after levels old new r levels_are none walked =
    let low : floor_of old ≤ 0 = subst (λ xs. floor_of xs ≤ 0) (sym none) (omega arith) in
    let found = walked (levels_at_leaf usable pages levels 1) [] refl low in
    let X : List (ℕ × SchemaRow) → Type 0 = λ xs. Tries before.pages (has_met before) (has_met after)
    (table_marks (schema_marks (rows_in xs)) usable pages (levels_at_leaf usable pages levels 1) levels 0 18446744073709551616 1 1) r in
    let L : ℕ → Type 0 = λ l. Tries before.pages (has_met before) (has_met after)
    (table_marks (schema_marks (schema_rows usable pages)) usable pages (levels_at_leaf usable pages l 1) l 0 18446744073709551616 1 1) r in
    (subst L levels_are (subst X (placed_are usable pages levels old levels_are none) found.0), kept r found.2)
  where
    kept : (r : Result ℕ Halt) → OnOk r (schema_outlook new [] ≡ schema_outlook old (walk_rows usable pages levels 1 ++ [])) → OnOk r (new ≡ placed_rows usable pages)
    kept (Ok x) same = sym (append-nil new) ∙ ap (λ (o : Outlook). o.placed) same ∙ placed_are usable pages levels old levels_are none
    kept (Err halt) same = tt

-- the marks of all, by their three parts
abbrev objects_marks : (usable : ℕ) (pages : Paging) → List Mark
objects_marks usable pages = flat_map (object_marks usable pages) (placed_rows usable pages)

all_parts : (usable count : ℕ) (pages : Paging) → all_marks usable count pages ≡ (schema_tree usable pages ++ objects_marks usable pages) ++ free_marks usable count pages
unfolding all_marks
all_parts usable count pages = refl

-- the walk halts before the free lists
trees_halt : (Y : Type 0) (usable count : ℕ) (pages : Paging) (a b : ℕ → Bool) (halt : Halt) → Tries count a b (schema_tree usable pages ++ objects_marks usable pages) (the_err Y halt)
    → Tries count a b (all_marks usable count pages) (the_err Y halt)
trees_halt Y usable count pages a b halt tried =
    subst (λ marks. Tries count a b marks (the_err Y halt)) (sym (all_parts usable count pages))
    (tries_halt Y Y count a b b (schema_tree usable pages ++ objects_marks usable pages) (free_marks usable count pages) halt tried)

-- it halts in the tree of the schema
pub schema_halt : (X Y : Type 0) (usable count : ℕ) (pages : Paging) (a b : ℕ → Bool) (halt : Halt) → Tries count a b (schema_tree usable pages) (the_err X halt) → Tries count a b (all_marks usable count pages) (the_err Y halt)
schema_halt X Y usable count pages a b halt tried =
    trees_halt Y usable count pages a b halt (tries_halt X Y count a b b (schema_tree usable pages) (objects_marks usable pages) halt tried)

-- the trees of objects are tried behind that of the schema
with_objects : {Y : Type 0} (usable : ℕ) (pages : Paging) (before now later : Met) (placed : List (ℕ × SchemaRow)) (r : Result Y Halt) → now.pages ≡ before.pages → placed ≡ placed_rows usable pages
    → Passes before.pages (has_met before) (has_met now) (schema_tree usable pages)
    → Tries now.pages (has_met now) (has_met later) (flat_map (object_marks usable pages) placed) r
    → Tries before.pages (has_met before) (has_met later) (schema_tree usable pages ++ objects_marks usable pages) r
with_objects usable pages before now later placed r same is passed tried =
    let P : List (ℕ × SchemaRow) → Type 0 = λ xs. Tries now.pages (has_met now) (has_met later) (flat_map (object_marks usable pages) xs) r in
    let N : ℕ → Type 0 = λ n. Tries n (has_met now) (has_met later) (objects_marks usable pages) r in
    tries_then {X = Unit {0}} before.pages (has_met before) (has_met now) (has_met later) (schema_tree usable pages) (objects_marks usable pages) tt r passed (subst N same (subst P is tried))

-- it halts in the tree of an object
pub objects_halt : (X Y : Type 0) (usable : ℕ) (pages : Paging) (before now later : Met) (placed : List (ℕ × SchemaRow)) (halt : Halt) → now.pages ≡ before.pages → placed ≡ placed_rows usable pages
    → Passes before.pages (has_met before) (has_met now) (schema_tree usable pages)
    → Tries now.pages (has_met now) (has_met later) (flat_map (object_marks usable pages) placed) (the_err X halt)
    → Tries before.pages (has_met before) (has_met later) (all_marks usable before.pages pages) (the_err Y halt)
objects_halt X Y usable pages before now later placed halt same is passed tried =
    trees_halt Y usable before.pages pages (has_met before) (has_met later) halt
    (with_objects usable pages before now later placed (the_err Y halt) same is passed
    (halts_same X Y now.pages (has_met now) (has_met later) (flat_map (object_marks usable pages) placed) halt tried))

-- the free lists come last
free_last : {Y : Type 0} (usable : ℕ) (pages : Paging) (before now later last : Met) (placed : List (ℕ × SchemaRow)) (r : Result Y Halt) → now.pages ≡ before.pages → later.pages ≡ before.pages
    → placed ≡ placed_rows usable pages → Passes before.pages (has_met before) (has_met now) (schema_tree usable pages)
    → Passes now.pages (has_met now) (has_met later) (flat_map (object_marks usable pages) placed)
    → Tries later.pages (has_met later) (has_met last) (free_marks usable later.pages pages) r
    → Tries before.pages (has_met before) (has_met last) (all_marks usable before.pages pages) r
free_last usable pages before now later last placed r same same_later is passed objects tried =
    let N : ℕ → Type 0 = λ n. Tries n (has_met later) (has_met last) (free_marks usable n pages) r in
    subst (λ marks. Tries before.pages (has_met before) (has_met last) marks r) (sym (all_parts usable before.pages pages))
    (tries_then {X = Unit {0}} before.pages (has_met before) (has_met later) (has_met last) (schema_tree usable pages ++ objects_marks usable pages) (free_marks usable before.pages pages) tt r
    (with_objects usable pages before now later placed (the_ok (Unit {0}) tt) same is passed objects) (subst N same_later tried))

pub all_passed : (usable : ℕ) (pages : Paging) (before now later last : Met) (placed : List (ℕ × SchemaRow)) → now.pages ≡ before.pages → later.pages ≡ before.pages
    → placed ≡ placed_rows usable pages → Passes before.pages (has_met before) (has_met now) (schema_tree usable pages)
    → Passes now.pages (has_met now) (has_met later) (flat_map (object_marks usable pages) placed)
    → Passes later.pages (has_met later) (has_met last) (free_marks usable later.pages pages)
    → Passes before.pages (has_met before) (has_met last) (all_marks usable before.pages pages)
all_passed usable pages before now later last placed same same_later is passed objects tried =
    free_last {Y = Unit {0}} usable pages before now later last placed (the_ok (Unit {0}) tt) same same_later is passed objects tried

pub free_halt : (usable : ℕ) (pages : Paging) (before now later last : Met) (placed : List (ℕ × SchemaRow)) (halt : Halt) → now.pages ≡ before.pages → later.pages ≡ before.pages
    → placed ≡ placed_rows usable pages → Passes before.pages (has_met before) (has_met now) (schema_tree usable pages)
    → Passes now.pages (has_met now) (has_met later) (flat_map (object_marks usable pages) placed)
    → Tries later.pages (has_met later) (has_met last) (free_marks usable later.pages pages) (the_err ℕ halt)
    → Tries before.pages (has_met before) (has_met last) (all_marks usable before.pages pages) (the_err Verdict halt)
free_halt usable pages before now later last placed halt same same_later is passed objects tried =
    free_last {Y = Verdict} usable pages before now later last placed (the_err Verdict halt) same same_later is passed objects
    (halts_same ℕ Verdict later.pages (has_met later) (has_met last) (free_marks usable later.pages pages) halt tried)

-- what was counted
pub all_counted : (usable : ℕ) (pages : Paging) (count later tables rows found free : ℕ) (placed : List (ℕ × SchemaRow)) → later ≡ count → placed ≡ placed_rows usable pages
    → tables ≡ narrowed (tables_among placed) → rows ≡ saturated (rows_of_open usable pages placed) → free ≡ narrowed found → found ≡ length (free_pages later pages)
    → verdicts.Stands tables rows free ≡ counted usable count pages
all_counted usable pages count later tables rows found free placed same is tables_are rows_are free_are found_is =
    let first : tables ≡ narrowed (length (filter is_table_row (schema_rows usable pages))) = tables_are ∙ ap (λ xs. narrowed (tables_among xs)) is in
    let second : rows ≡ saturated (sum (map (open_rows usable pages) (schema_rows usable pages))) = rows_are ∙ ap (λ xs. saturated (rows_of_open usable pages xs)) is in
    let third : free ≡ narrowed (length (free_pages count pages)) = free_are ∙ ap narrowed (found_is ∙ ap (λ n. length (free_pages n pages)) same) in
    ap (λ n. verdicts.Stands n rows free) first ∙ ap (λ n. verdicts.Stands (narrowed (length (filter is_table_row (schema_rows usable pages)))) n free) second
    ∙ ap (λ n. verdicts.Stands (narrowed (length (filter is_table_row (schema_rows usable pages)))) (saturated (sum (map (open_rows usable pages) (schema_rows usable pages)))) n) third

exact_32 : (n : ℕ) → n ≤ 2 ^ 29 → narrowed n ≡ n
exact_32 n few = omega (arith, few)

exact_pages : (n count : ℕ) → n < count → count ≤ 4294967295 → narrowed n ≡ n
exact_pages n count less few = omega (arith, less, few)

exact_64 : (n : ℕ) → n ≤ 2 ^ 29 → saturated n ≡ n
exact_64 n few = omega (arith, few)

stands_as : (usable count : ℕ) (pages : Paging) → first_broken count [] (all_marks usable count pages) ≡ None → verdict_of usable count pages ≡ verdicts.Stands
    (length (filter is_table_row (schema_rows usable pages)))
    (sum (map (open_rows usable pages) (schema_rows usable pages)))
    (length (free_pages count pages))
unfolding verdict_of
stands_as usable count pages unbroken = ap (verdict_with usable count pages) unbroken

-- no rule is broken: there is a database, and what was counted is what it has
sound_verdict : (usable count : ℕ) (pages : Paging) (none after : ℕ → Bool) → StandsIsTrue → TablesAreFew → RowsAreFew → FreeAreFew
    → ((n : ℕ) → none n ≡ false) → 480 ≤ usable → count * usable ≤ 2 ^ 30 → count ≤ 4294967295 → Passes count none after (all_marks usable count pages)
    → counted usable count pages ≡ verdict_of usable count pages
sound_verdict usable count pages none after stands tables_few rows_few free_few is least few narrow passes =
    let tables = length (filter is_table_row (schema_rows usable pages)) in
    let rows = sum (map (open_rows usable pages) (schema_rows usable pages)) in
    let free = length (free_pages count pages) in
    let verdict = stands_as usable count pages (none_breaks count none after (all_marks usable count pages) is passes) in
    let found = stands usable count pages tables rows free least verdict in
    let first : narrowed tables ≡ tables = exact_32 tables (subst (λ n. n ≤ 2 ^ 29) (sym found.2) (tables_few usable count pages found.0 found.1 few)) in
    let second : saturated rows ≡ rows = exact_64 rows (subst (λ n. n ≤ 2 ^ 29) (sym found.3) (rows_few usable count pages found.0 found.1 few)) in
    let third : narrowed free ≡ free = exact_pages free count (subst (λ n. n < count) (sym found.4) (free_few usable count pages found.0 found.1)) narrow in
    ap (λ n. verdicts.Stands n (saturated rows) (narrowed free)) first ∙ ap (λ n. verdicts.Stands tables n (narrowed free)) second ∙ ap (verdicts.Stands tables rows) third ∙ sym verdict

-- the pages take no more than the file
pages_few : (count size reserved : ℕ) → count * size ≤ 2 ^ 30 → count * (size - reserved) ≤ 2 ^ 30
pages_few count size reserved few =
    let below : size - reserved ≤ size = omega arith in
    let times : count * (size - reserved) ≤ count * size = mul-le-mul_left count below in
    omega (arith, times, few)

-- what a space shows after gets, for pages that agree with all that was given
pub shows_sight : {P : Type 0} (g : Ghosts P) (early late : P) (pages : Paging) → Reads g early late → Agrees pages (g.seen late) → Shows g late (g.used early) (sight g early pages)
shows_sight g early late pages reads agrees = record {
  below = pages;
  agrees = agrees;
  used = sym reads.used;
  is = ap (λ laid. lay laid pages) (sym reads.laid);
}

pub checked_sound : (usable now count : ℕ) (pages : Paging) (none after : ℕ → Bool) (header : Header) (verdict : Verdict) → StandsIsTrue → TablesAreFew → RowsAreFew → FreeAreFew
    → now ≡ count → ((n : ℕ) → none n ≡ false) → usable ≡ usable_in header → header_of (take 100 (pages 1)) ≡ Ok header → count * header.page_size ≤ 2 ^ 30 → count ≤ 4294967295
    → Passes now none after (all_marks usable now pages) → verdict ≡ counted usable now pages → verdict ≡ verdict_of usable count pages
checked_sound usable now count pages none after header verdict stands tables_few rows_few free_few same is used legal few narrow passes counts =
    let least : 480 ≤ usable = subst (λ n. 480 ≤ n) (sym used) (legal_usable (take 100 (pages 1)) header legal) in
    let all_few : count * usable ≤ 2 ^ 30 = subst (λ n. count * n ≤ 2 ^ 30) (sym used) (pages_few count header.page_size header.reserved few) in
    counts ∙ ap (λ n. counted usable n pages) same
    ∙ sound_verdict usable count pages none after stands tables_few rows_few free_few is least all_few narrow (subst (λ n. Passes n none after (all_marks usable n pages)) same passes)

pub checked_broken : (usable now count page rule : ℕ) (pages : Paging) (none after : ℕ → Bool) (halt : Halt) → now ≡ count → ((n : ℕ) → none n ≡ false) → halt ≡ Broken page rule
    → Tries now none after (all_marks usable now pages) (the_err Verdict halt) → verdicts.Broken page rule ≡ verdict_of usable count pages
checked_broken usable now count page rule pages none after halt same is halt_is tried =
    broken_verdict usable count page rule pages none is
    (subst (λ n. Breaks n none (all_marks usable n pages) (page, rule)) same (subst (λ s. Tries now none after (all_marks usable now pages) (the_err Verdict s)) halt_is tried))
