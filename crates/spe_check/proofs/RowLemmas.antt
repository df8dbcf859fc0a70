use Rattle.std.proofs.Common.{◌≡◌, ◌∙◌, ℕ, ℤ, pos, negsuc, ◌+◌, ◌<◌, ◌≤◌, true, false, not, ◌&&◌, cond, int_lt, List, [], ◌∷◌, ◌++◌, Option, Some, sym, ap, subst, arith, append_assoc}
use Rattle.std.specs.Prelude.{Result, Ok, Err, OnOk}
use Rattle.std.specs.List.{take_while, list_any}
use Rattle.std.proofs.lemmas.List.{map-append}
use Rattle.std.proofs.lemmas.List.Concat.{flat_map-cons}
use Rattle.std.proofs.lemmas.List.Sums.{take_while-cons}
use Rattle.std.specs.Result.{result_ok}
use Rattle.spe_model.specs.Cell.{◌>>=◌}
use Rattle.spe_model.specs.declared.record.RecordFault.{RecordFault}
use Rattle.spe_model.specs.declared.value.Value.{Value}
use Rattle.spe_model.specs.Record.{record_of}
use Rattle.spe_model.specs.Schema.{SchemaRow, is_table_row, schema_row, schema_row_of}
use Rattle.spe_model.specs.Tree.{rank}
use Rattle.spe_model.specs.Verdict.{LeafRow, before, is_right_row, schema_marks, with_leaf}
use Rattle.spe_check.specs.declared.halt.Halt.{Halt}
use Rattle.spe_check.specs.SchemaRows.{rows_in, placed_of, schema_outlook, floor_of, is_named, is_free}
use Rattle.spe_check.specs.Visitor.{Outlook}

-- a rowid of lower rank is lower
less_by_rank : (a b : ℤ) → rank a < rank b → int_lt a b ≡ true
less_by_rank (pos m) (pos n) less = grind (arith, less)
less_by_rank (pos m) (negsuc n) less = absurd (omega (arith, less))
less_by_rank (negsuc m) (pos n) less = grind (arith, less)
less_by_rank (negsuc m) (negsuc n) less = grind (arith, less)

not_below_itself : (a : ℤ) → int_lt a a ≡ false
not_below_itself (pos m) = grind arith
not_below_itself (negsuc m) = grind arith

-- the rows before one whose rowid ranks above them all
all_before : (placed : List (ℕ × SchemaRow)) (row : SchemaRow) (rest : List SchemaRow) → floor_of placed ≤ rank row.rowid
    → before row.rowid (rows_in placed ++ row ∷ rest) ≡ rows_in placed
all_before [] row rest low =
    take_while-cons (λ (r : SchemaRow). int_lt r.rowid row.rowid) row rest
    ∙ ap (λ b. cond b (row ∷ take_while (λ (r : SchemaRow). int_lt r.rowid row.rowid) rest) []) (not_below_itself row.rowid)
all_before (p ∷ ps) row rest low =
    let less : rank p.1.rowid < rank row.rowid = omega (arith, low) in
    let others : floor_of ps ≤ rank row.rowid = omega (arith, low) in
    let test = λ (r : SchemaRow). int_lt r.rowid row.rowid in
    take_while-cons test p.1 (rows_in ps ++ row ∷ rest)
    ∙ ap (λ b. cond b (p.1 ∷ take_while test (rows_in ps ++ row ∷ rest)) []) (less_by_rank p.1.rowid row.rowid less)
    ∙ ap (λ (rs : List SchemaRow). p.1 ∷ rs) (all_before ps row rest others)

-- a row that comes is placed first
placed_first : (leaf : ℕ) (rowid : ℤ) (payload : List ℕ) (later : List LeafRow) (row : SchemaRow) → schema_row_of (rowid, payload) ≡ Some row
    → placed_of ((leaf, rowid, payload) ∷ later) ≡ (leaf, row) ∷ placed_of later
placed_first leaf rowid payload later row is =
    flat_map-cons (λ (r : LeafRow). with_leaf r.0 (schema_row_of (r.1, r.2))) (leaf, rowid, payload) later
    ∙ ap (λ (o : Option SchemaRow). with_leaf leaf o ++ placed_of later) is

-- a name is taken where a row that is placed has it
pub free_is : (placed : List (ℕ × SchemaRow)) (leaf : ℕ) (rowid : ℤ) (payload : List ℕ) (later : List LeafRow) (row : SchemaRow)
    → schema_row_of (rowid, payload) ≡ Some row → row.rowid ≡ rowid → floor_of placed ≤ rank rowid
    → is_free placed row ≡ is_right_row (rows_in (placed ++ placed_of ((leaf, rowid, payload) ∷ later))) (schema_row_of (rowid, payload))
free_is placed leaf rowid payload later row is own low =
    let low2 : floor_of placed ≤ rank row.rowid = subst (λ (n : ℤ). floor_of placed ≤ rank n) (sym own) low in
    let all : rows_in (placed ++ placed_of ((leaf, rowid, payload) ∷ later)) ≡ rows_in placed ++ row ∷ rows_in (placed_of later) =
    ap (λ (ps : List (ℕ × SchemaRow)). rows_in (placed ++ ps)) (placed_first leaf rowid payload later row is)
    ∙ map-append (λ (r : ℕ × SchemaRow). r.1) placed ((leaf, row) ∷ placed_of later) in
    let those : before row.rowid (rows_in (placed ++ placed_of ((leaf, rowid, payload) ∷ later))) ≡ rows_in placed =
    ap (λ (rs : List SchemaRow). before row.rowid rs) all ∙ all_before placed row (rows_in (placed_of later)) low2 in
    ap (λ (rs : List SchemaRow). not (is_table_row row && list_any (is_named row.name) rs)) (sym those)
    ∙ ap (λ (o : Option SchemaRow). is_right_row (rows_in (placed ++ placed_of ((leaf, rowid, payload) ∷ later))) o) (sym is)

abbrev outlook_at : List (ℕ × SchemaRow) → Outlook
outlook_at placed = record { marks = schema_marks (rows_in placed); placed = placed; count = 0 }

-- what comes of rows once one of them is placed
pub outlook_next : (old new : List (ℕ × SchemaRow)) (leaf : ℕ) (rowid : ℤ) (payload : List ℕ) (later : List LeafRow) (row : SchemaRow)
    → schema_row_of (rowid, payload) ≡ Some row → new ≡ old ++ (leaf, row) ∷ []
    → schema_outlook new later ≡ schema_outlook old ((leaf, rowid, payload) ∷ later)
outlook_next old new leaf rowid payload later row is more =
    let grown : new ++ placed_of later ≡ old ++ placed_of ((leaf, rowid, payload) ∷ later) =
    ap (λ (ps : List (ℕ × SchemaRow)). ps ++ placed_of later) more ∙ append_assoc old ((leaf, row) ∷ []) (placed_of later)
    ∙ ap (λ (ps : List (ℕ × SchemaRow)). old ++ ps) (sym (placed_first leaf rowid payload later row is)) in
    ap outlook_at grown

floor_more : (placed : List (ℕ × SchemaRow)) (p : ℕ × SchemaRow) (n : ℕ) → floor_of placed ≤ n → rank p.1.rowid + 1 ≤ n → floor_of (placed ++ p ∷ []) ≤ n
floor_more [] p n low one = omega (arith, one)
floor_more (q ∷ qs) p n low one =
    let others = floor_more qs p n (omega (arith, low)) one in
    omega (arith, low, others)

pub floor_next : (old new : List (ℕ × SchemaRow)) (leaf : ℕ) (row : SchemaRow) (rowid : ℤ) → new ≡ old ++ (leaf, row) ∷ [] → row.rowid ≡ rowid
    → floor_of old ≤ rank rowid → floor_of new ≤ rank rowid + 1
floor_next old new leaf row rowid more own low =
    let same = ap rank own in
    let there = floor_more old (leaf, row) (rank rowid + 1) (omega (arith, low)) (omega (arith, same)) in
    subst (λ (ps : List (ℕ × SchemaRow)). floor_of ps ≤ rank rowid + 1) (sym more) there

pub on_ok : {X A B : Type 0} (r : Result X Halt) → (A → B) → OnOk r A → OnOk r B
on_ok (Ok x) f a = f a
on_ok (Err halt) f a = tt

-- a row whose record is read is the row of its values
pub row_read : (rowid : ℤ) (payload : List ℕ) (values : List Value) (found : Option SchemaRow) → record_of payload ≡ Ok values → found ≡ schema_row rowid values
    → schema_row_of (rowid, payload) ≡ found
row_read rowid payload values found read is = ap (λ (r : Result (List Value) RecordFault). result_ok r >>= schema_row rowid) read ∙ sym is
