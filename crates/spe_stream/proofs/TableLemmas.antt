-- A table that is put while its tree is walked.
use Rattle.std.proofs.Common.{◌≡◌, inl, inr, ℕ, zero, suc, ℤ, ◌≤◌, Bool, true, false, nat_le, List, [], ◌∷◌, ◌++◌, length, map, codes, decimal, Option, Some, None, Result, Ok, Err, refl, sym, ap, subst, ◌∙◌, append_assoc, append-nil, arith}
use Rattle.std.specs.Prelude.{OnOk, OnErr}
use Rattle.std.specs.List.{Contains}
use Rattle.std.proofs.lemmas.List.{map-append}
use Rattle.std.proofs.lemmas.List.Elements.{Contains-append_left, Contains-append_right}
use Rattle.spe_model.specs.declared.table.TableDef.{TableDef}
use Rattle.spe_model.specs.Database.{Row}
use Rattle.spe_model.specs.Paging.{Paging}
use Rattle.spe_model.specs.Standing.{AreTableRows, IsTableRow}
use Rattle.spe_disk.specs.declared.disk.Failed.{Failed}
use Rattle.spe_disk.specs.Sink.{Appends, AppendsFront}
use Rattle.spe_space.specs.declared.fault.TreeFault.{TreeFault}
use Rattle.spe_space.specs.declared.fault.TreeFault.TheVariants.{Space, Corrupt}
use Rattle.spe_search.specs.declared.pairs.Pair.{Pair}
use Rattle.spe_search.specs.Found.{HasDamage}
use Rattle.spe_search.specs.Leaves.{IsRead}
use Rattle.spe_search.specs.Pairs.{pair_seen}
use Rattle.spe_search.specs.Taking.{AreFirst, AreTaken, Each, wants_more}
use Rattle.spe_render.specs.Passes.{CountsAtEnd, CountsOnce, Ends, Passes}
use Rattle.spe_render.specs.Values.{line, rows_text, table_text}
use Rattle.spe_render.proofs.PassesLemmas.{printed, then, whole_ok, whole_err}
use Rattle.spe_stream.specs.Row.{row_of}
use Rattle.spe_stream.specs.Shown.{Puts, Stops, row_at}
use Rattle.spe_stream.specs.Table.{ArePut, HasBadRecord, HasRowsCause, IsShownRow, SayBefore, SayPut, end_of, last_line, text_put}

-- ---- from a printer that is new

pub from_new : {table made : TableDef} {t u : Option (List ℕ)} {f g : ℕ} {p q : Option (List ℕ)} {count count_now : ℕ} {shown shown_now : List Row} {flaw flaw_now : Option ℕ} {pairs : List Pair} {more : Bool}
    → made ≡ table → p ≡ Some [] → count ≡ 0 → shown ≡ [] → flaw ≡ None
    → Puts made t u f g p q count count_now shown shown_now flaw flaw_now pairs more
    → Puts table t u f g (Some []) q 0 count_now [] shown_now None flaw_now pairs more
from_new same new none empty unflawed puts = rw (same, new, none, empty, unflawed) at puts

-- ---- the text

text_is : (count : ℕ) (shown rows : List Row) (walk : Result (Unit {0}) TreeFault) → shown ≡ rows → count ≡ length rows
    → rows_text rows ++ last_line count walk ≡ text_put shown walk
text_is count shown rows (Ok whole) same counts =
    ap (λ (n : ℕ). rows_text rows ++ line (codes "rows " ++ decimal n)) counts ∙ ap table_text (sym same)
text_is count shown rows (Err fault) same counts = append-nil (rows_text rows) ∙ ap rows_text (sym same)

text_given : {table : TableDef} {t u v : Option (List ℕ)} {f g h : ℕ} {p q : Option (List ℕ)} {count : ℕ} {shown : List Row} {flaw : Option ℕ} {pairs : List Pair} {more : Bool}
    (walk : Result (Unit {0}) TreeFault)
    → Puts table t u f g (Some []) p 0 count [] shown None flaw pairs more → Passes u v g h p q (last_line count walk)
    → Passes t v f h (Some []) q (text_put shown walk)
text_given {count = count} {shown = shown} walk puts last =
    let counts = puts.counts in
    let number : count ≡ length puts.rows = omega (arith, counts) in
    printed (text_is count shown puts.rows walk puts.shows number) (then puts.puts last)

pub all_put : {table : TableDef} {t u v w : Option (List ℕ)} {f g h i : ℕ} {p q : Option (List ℕ)} {count : ℕ} {shown : List Row} {flaw : Option ℕ} {pairs : List Pair} {more : Bool}
    {sink : Result (Unit {0}) Failed} (walk : Result (Unit {0}) TreeFault)
    → Puts table t u f g (Some []) p 0 count [] shown None flaw pairs more → Passes u v g h p q (last_line count walk) → Ends v w h i q sink
    → OnOk sink (Appends t w (text_put shown walk))
all_put walk puts last ends = whole_ok refl (text_given walk puts last) ends

pub front_put : {table : TableDef} {t u v w : Option (List ℕ)} {f g h i : ℕ} {p q : Option (List ℕ)} {count : ℕ} {shown : List Row} {flaw : Option ℕ} {pairs : List Pair} {more : Bool}
    {sink : Result (Unit {0}) Failed} (walk : Result (Unit {0}) TreeFault)
    → Puts table t u f g (Some []) p 0 count [] shown None flaw pairs more → Passes u v g h p q (last_line count walk) → Ends v w h i q sink
    → OnErr sink (AppendsFront t w (text_put shown walk))
front_put walk puts last ends = whole_err refl (text_given walk puts last) ends

-- ---- the cause of Corrupt

bad_record : (usable : ℕ) (pages : Paging) (table : TableDef) (root page : ℕ) (good rest pairs : List Pair) → pairs ≡ good ++ rest → Stops table rest None (Some page) false
    → Each (IsRead usable pages 20 root) pairs → HasBadRecord usable pages table root page
bad_record usable pages table root page good rest pairs parts (inl none) read = absurd cc
bad_record usable pages table root page good rest pairs parts (inr (bad, only, is_bad, leaf)) read =
    let here : pairs ≡ good ++ bad ∷ [] = parts ∙ ap (λ (l : List Pair). good ++ l) only in
    record {
      row = bad;
      leaf_is = cc;
      read = read bad (subst (λ (l : List Pair). Contains l bad) (sym here) (Contains-append_right good (bad ∷ []) bad (0, omega arith, refl)));
      bad = is_bad;
    }

pub walk_cause : (usable : ℕ) (pages : Paging) (table : TableDef) (root : ℕ) (result : Result Bool TreeFault) (flaw : Option ℕ) (p : Option (List ℕ))
    {t u : Option (List ℕ)} {f g count : ℕ} {shown : List Row} {pairs : List Pair}
    → Puts table t u f g (Some []) p 0 count [] shown None flaw pairs (wants_more result) → Each (IsRead usable pages 20 root) pairs
    → HasDamage usable pages root 20 result → HasRowsCause usable pages table root (end_of result flaw p)
walk_cause usable pages table root (Ok true) flaw p puts read damage = tt
walk_cause usable pages table root (Ok false) None None puts read damage = tt
walk_cause usable pages table root (Ok false) None (Some waiting) puts read damage = tt
walk_cause usable pages table root (Ok false) (Some page) p {pairs = pairs} puts read damage =
    inl (bad_record usable pages table root page puts.good puts.rest pairs puts.parts puts.stops read)
walk_cause usable pages table root (Err (Space f)) flaw p puts read damage = tt
walk_cause usable pages table root (Err (Corrupt at)) flaw p puts read damage = inr damage

-- ---- the rows

le_yes : (a b : ℕ) → a ≤ b → nat_le a b ≡ true
le_yes a b h = grind arith

row_is : (table : TableDef) (stored : ℤ × List ℕ) (row : Row) → IsTableRow table stored row → row_of table stored ≡ Some row
row_is table (rowid, payload) row (values, is, few, e) = rw (is, e, le_yes (length values) (length table.columns) few) refl

-- rows that were read are the first of all
front_rows : (table : TableDef) (good : List Pair) (rows : List Row) (more : List (ℤ × List ℕ)) (all : List Row) → map (row_at table) good ≡ map Some rows
    → AreTableRows table (map pair_seen good ++ more) all → (rest : List Row) × (all ≡ rows ++ rest) × AreTableRows table more rest
front_rows table [] [] more all read are = (all, refl, are)
front_rows table [] (r ∷ rs) more all read are = absurd cc
front_rows table (x ∷ xs) [] more all read are = absurd cc
front_rows table (x ∷ xs) (r ∷ rs) more [] read are = absurd are
front_rows table (x ∷ xs) (r ∷ rs) more (a ∷ bs) read are =
    let first : row_at table x ≡ Some r = cc in
    let later : map (row_at table) xs ≡ map Some rs = cc in
    let there : row_at table x ≡ Some a = row_is table (pair_seen x) a are.0 in
    let same : a ≡ r = cc in
    add same (front_rows table xs rs more bs later are.1)
  where
    add : a ≡ r → (rest : List Row) × (bs ≡ rs ++ rest) × AreTableRows table more rest → (rest : List Row) × ((a ∷ bs) ≡ (r ∷ rs) ++ rest) × AreTableRows table more rest
    add same (rest, is, left) = (rest, ap (λ (z : Row). z ∷ bs) same ∙ ap (λ (l : List Row). r ∷ l) is, left)

parted : (table : TableDef) (pairs good rest : List Pair) (rows shown all : List Row) (stored more : List (ℤ × List ℕ)) → pairs ≡ good ++ rest → map (row_at table) good ≡ map Some rows
    → shown ≡ rows → stored ≡ map pair_seen pairs ++ more → AreTableRows table stored all
    → (left : List Row) × (all ≡ shown ++ left) × AreTableRows table (map pair_seen rest ++ more) left
parted table pairs good rest rows shown all stored more parts read shows taken are =
    let behind : stored ≡ map pair_seen good ++ (map pair_seen rest ++ more) =
    taken ∙ ap (λ (l : List Pair). map pair_seen l ++ more) parts ∙ ap (λ l. l ++ more) (map-append pair_seen good rest) ∙ append_assoc (map pair_seen good) (map pair_seen rest) more in
    rw shows (front_rows table good rows (map pair_seen rest ++ more) all read (subst (λ (s : List (ℤ × List ℕ)). AreTableRows table s all) behind are))

-- no row is left
none_left : (table : TableDef) (shown all : List Row) (rest : List Pair) → rest ≡ [] → (left : List Row) × (all ≡ shown ++ left) × AreTableRows table (map pair_seen rest ++ []) left → shown ≡ all
none_left table shown all rest none (left, is, are) = go left is (subst (λ (l : List Pair). AreTableRows table (map pair_seen l ++ []) left) none are)
  where
    go : (left : List Row) → all ≡ shown ++ left → AreTableRows table [] left → shown ≡ all
    go [] is are = sym (is ∙ append-nil shown)
    go (r ∷ rs) is are = absurd are

first_ones : (table : TableDef) (shown all : List Row) (later : List (ℤ × List ℕ)) → (left : List Row) × (all ≡ shown ++ left) × AreTableRows table later left → AreFirst shown all
first_ones table shown all later (left, is, are) = (left, is)

-- a row that is none of the table is no row of it
no_flaw : (table : TableDef) (page : ℕ) (shown all : List Row) (rest : List Pair) (more : List (ℤ × List ℕ)) → Stops table rest None (Some page) false
    → (left : List Row) × (all ≡ shown ++ left) × AreTableRows table (map pair_seen rest ++ more) left → ⊥
no_flaw table page shown all rest more (inl none) parts = absurd cc
no_flaw table page shown all rest more (inr (bad, only, is_bad, leaf)) (left, is, are) =
    go left (subst (λ (l : List Pair). AreTableRows table (map pair_seen l ++ more) left) only are)
  where
    go : (left : List Row) → AreTableRows table (map pair_seen (bad ∷ []) ++ more) left → ⊥
    go [] are = are
    go (r ∷ rs) are = let good : row_at table bad ≡ Some r = row_is table (pair_seen bad) r are.0 in absurd cc

-- where the sink failed before, it did not end well
no_end : (f g h : ℕ) (q : Option (List ℕ)) (done : Unit {0}) → CountsOnce f g None q → CountsAtEnd g h q (Ok done) → ⊥
no_end f g h q done counts ends = subst (λ (k : Option (List ℕ)). CountsAtEnd g h k (Ok done)) counts.0 ends

put_whole : (shown all : List Row) (sink : Result (Unit {0}) Failed) → shown ≡ all → ArePut shown all (Ok tt) sink
put_whole shown all (Ok done) same = same
put_whole shown all (Err failed) same = ([], sym (append-nil shown ∙ same))

put_failed : (shown all : List Row) (g h i : ℕ) (q : Option (List ℕ)) (sink : Result (Unit {0}) Failed) → AreFirst shown all → CountsOnce g h None q → CountsAtEnd h i q sink
    → ArePut shown all (Ok tt) sink
put_failed shown all g h i q (Ok done) first counts ends = absurd (no_end g h i q done counts ends)
put_failed shown all g h i q (Err failed) first counts ends = first

pub walk_puts : (table : TableDef) (stored : List (ℤ × List ℕ)) (all : List Row) (result : Result Bool TreeFault) (flaw : Option ℕ) (g h i : ℕ) (p q : Option (List ℕ)) (sink : Result (Unit {0}) Failed)
    {t u : Option (List ℕ)} {f count : ℕ} {shown : List Row} {pairs : List Pair}
    → Puts table t u f g (Some []) p 0 count [] shown None flaw pairs (wants_more result) → AreTaken (map pair_seen pairs) stored result → AreTableRows table stored all
    → CountsOnce g h p q → CountsAtEnd h i q sink → ArePut shown all (end_of result flaw p) sink
walk_puts table stored all (Ok true) flaw g h i p q sink {shown = shown} {pairs = pairs} puts taken are counts ends =
    put_whole shown all sink
    (none_left table shown all puts.rest puts.stops.0
    (parted table pairs puts.good puts.rest puts.rows shown all stored [] puts.parts puts.read puts.shows (sym taken ∙ sym (append-nil (map pair_seen pairs))) are))
walk_puts table stored all (Ok false) None g h i None q sink {shown = shown} {pairs = pairs} puts taken are counts ends =
    put_failed shown all g h i q sink
    (first_ones table shown all (map pair_seen puts.rest ++ taken.0) (parted table pairs puts.good puts.rest puts.rows shown all stored taken.0 puts.parts puts.read puts.shows taken.1 are))
    counts ends
walk_puts table stored all (Ok false) None g h i (Some waiting) q sink {shown = shown} {pairs = pairs} puts taken are counts ends =
    first_ones table shown all (map pair_seen puts.rest ++ taken.0) (parted table pairs puts.good puts.rest puts.rows shown all stored taken.0 puts.parts puts.read puts.shows taken.1 are)
walk_puts table stored all (Ok false) (Some page) g h i p q sink {shown = shown} {pairs = pairs} puts taken are counts ends =
    absurd
    (no_flaw table page shown all puts.rest taken.0 puts.stops
    (parted table pairs puts.good puts.rest puts.rows shown all stored taken.0 puts.parts puts.read puts.shows taken.1 are))
walk_puts table stored all (Err (Space f)) flaw g h i p q sink {shown = shown} {pairs = pairs} puts taken are counts ends =
    first_ones table shown all (map pair_seen puts.rest ++ taken.0) (parted table pairs puts.good puts.rest puts.rows shown all stored taken.0 puts.parts puts.read puts.shows taken.1 are)
walk_puts table stored all (Err (Corrupt page)) flaw g h i p q sink puts taken are counts ends = absurd taken

-- ---- the stored rows, whatever they are

seen_read : (table : TableDef) (good : List Pair) (rows : List Row) → map (row_at table) good ≡ map Some rows → map (row_of table) (map pair_seen good) ≡ map Some rows
seen_read table [] rows read = read
seen_read table (x ∷ xs) [] read = absurd cc
seen_read table (x ∷ xs) (r ∷ rs) read =
    let first : row_at table x ≡ Some r = cc in
    let later : map (row_at table) xs ≡ map Some rs = cc in
    ap (λ (o : Option Row). o ∷ map (row_of table) (map pair_seen xs)) first ∙ ap (λ (l : List (Option Row)). Some r ∷ l) (seen_read table xs rs later)

said : (table : TableDef) (pairs good rest : List Pair) (rows shown : List Row) (stored more : List (ℤ × List ℕ)) → pairs ≡ good ++ rest → map (row_at table) good ≡ map Some rows
    → shown ≡ rows → stored ≡ map pair_seen pairs ++ more → SayBefore table stored (map pair_seen rest ++ more) shown
said table pairs good rest rows shown stored more parts read shows taken = (
  map pair_seen good,
  taken ∙ ap (λ (l : List Pair). map pair_seen l ++ more) parts ∙ ap (λ (l : List (ℤ × List ℕ)). l ++ more) (map-append pair_seen good rest)
      ∙ append_assoc (map pair_seen good) (map pair_seen rest) more,
  seen_read table good rows read ∙ ap (λ (l : List Row). map Some l) (sym shows),
)

say_whole : (table : TableDef) (stored : List (ℤ × List ℕ)) (shown : List Row) (sink : Result (Unit {0}) Failed) → map (row_of table) stored ≡ map Some shown → SayPut table stored shown (Ok tt) sink
say_whole table stored shown (Ok done) is = is
say_whole table stored shown (Err failed) is = ([], (stored, sym (append-nil stored), is))

say_failed : (table : TableDef) (stored later : List (ℤ × List ℕ)) (shown : List Row) (g h i : ℕ) (q : Option (List ℕ)) (sink : Result (Unit {0}) Failed) → SayBefore table stored later shown
    → CountsOnce g h None q → CountsAtEnd h i q sink → SayPut table stored shown (Ok tt) sink
say_failed table stored later shown g h i q (Ok done) say counts ends = absurd (no_end g h i q done counts ends)
say_failed table stored later shown g h i q (Err failed) say counts ends = (later, say)

say_bad : (table : TableDef) (page : ℕ) (stored more : List (ℤ × List ℕ)) (shown : List Row) (rest : List Pair) (sink : Result (Unit {0}) Failed) → Stops table rest None (Some page) false
    → SayBefore table stored (map pair_seen rest ++ more) shown → SayPut table stored shown (Err (Corrupt page)) sink
say_bad table page stored more shown rest sink (inl none) say = absurd cc
say_bad table page stored more shown rest sink (inr (bad, only, is_bad, leaf)) say =
    (pair_seen bad, is_bad, more, subst (λ (l : List Pair). SayBefore table stored (map pair_seen l ++ more) shown) only say)

pub walk_says : (table : TableDef) (stored : List (ℤ × List ℕ)) (result : Result Bool TreeFault) (flaw : Option ℕ) (g h i : ℕ) (p q : Option (List ℕ)) (sink : Result (Unit {0}) Failed)
    {t u : Option (List ℕ)} {f count : ℕ} {shown : List Row} {pairs : List Pair}
    → Puts table t u f g (Some []) p 0 count [] shown None flaw pairs (wants_more result) → AreTaken (map pair_seen pairs) stored result
    → CountsOnce g h p q → CountsAtEnd h i q sink → SayPut table stored shown (end_of result flaw p) sink
walk_says table stored (Ok true) flaw g h i p q sink {shown = shown} {pairs = pairs} puts taken counts ends =
    let whole : pairs ≡ puts.good = puts.parts ∙ ap (λ (l : List Pair). puts.good ++ l) puts.stops.0 ∙ append-nil puts.good in
    let seen : stored ≡ map pair_seen puts.good = sym taken ∙ ap (λ (l : List Pair). map pair_seen l) whole in
    say_whole table stored shown sink
    (ap (λ (l : List (ℤ × List ℕ)). map (row_of table) l) seen ∙ seen_read table puts.good puts.rows puts.read ∙ ap (λ (l : List Row). map Some l) (sym puts.shows))
walk_says table stored (Ok false) None g h i None q sink {shown = shown} {pairs = pairs} puts taken counts ends =
    say_failed table stored (map pair_seen puts.rest ++ taken.0) shown g h i q sink
    (said table pairs puts.good puts.rest puts.rows shown stored taken.0 puts.parts puts.read puts.shows taken.1) counts ends
walk_says table stored (Ok false) None g h i (Some waiting) q sink {shown = shown} {pairs = pairs} puts taken counts ends =
    (map pair_seen puts.rest ++ taken.0, said table pairs puts.good puts.rest puts.rows shown stored taken.0 puts.parts puts.read puts.shows taken.1)
walk_says table stored (Ok false) (Some page) g h i p q sink {shown = shown} {pairs = pairs} puts taken counts ends =
    say_bad table page stored taken.0 shown puts.rest sink puts.stops
    (said table pairs puts.good puts.rest puts.rows shown stored taken.0 puts.parts puts.read puts.shows taken.1)
walk_says table stored (Err (Space f)) flaw g h i p q sink {shown = shown} {pairs = pairs} puts taken counts ends =
    (map pair_seen puts.rest ++ taken.0, said table pairs puts.good puts.rest puts.rows shown stored taken.0 puts.parts puts.read puts.shows taken.1)
walk_says table stored (Err (Corrupt page)) flaw g h i p q sink puts taken counts ends = absurd taken

-- ---- each row is shown by its leaf

all_shown : (usable : ℕ) (pages : Paging) (table : TableDef) (root : ℕ) (good : List Pair) (rows : List Row) → map (row_at table) good ≡ map Some rows
    → Each (IsRead usable pages 20 root) good → (row : Row) → Contains rows row → IsShownRow usable pages table root row
all_shown usable pages table root [] [] read each row (k, less, is) = absurd (omega (arith, less))
all_shown usable pages table root [] (r ∷ rs) read each row has = absurd cc
all_shown usable pages table root (x ∷ xs) [] read each row has = absurd cc
all_shown usable pages table root (x ∷ xs) (r ∷ rs) read each row (zero, less, is) =
    let first : row_at table x ≡ Some r = cc in
    record { from = x; read = each x (zero, omega arith, refl); is = first ∙ ap Some is }
all_shown usable pages table root (x ∷ xs) (r ∷ rs) read each row (suc k, less, is) =
    let later : map (row_at table) xs ≡ map Some rs = cc in
    all_shown usable pages table root xs rs later (λ pair has. each pair (further pair has)) row (k, omega (arith, less), is)
  where
    further : (pair : Pair) → Contains xs pair → Contains (x ∷ xs) pair
    further pair (k, less, is) = (suc k, omega (arith, less), is)

pub walk_shows : (usable : ℕ) (pages : Paging) (table : TableDef) (root : ℕ) {t u : Option (List ℕ)} {f g : ℕ} {p : Option (List ℕ)} {count : ℕ} {shown : List Row} {flaw : Option ℕ} {pairs : List Pair} {more : Bool}
    → Puts table t u f g (Some []) p 0 count [] shown None flaw pairs more → Each (IsRead usable pages 20 root) pairs
    → (row : Row) → Contains shown row → IsShownRow usable pages table root row
walk_shows usable pages table root {pairs = pairs} puts each row has =
    all_shown usable pages table root puts.good puts.rows puts.read
    (λ pair among. each pair (subst (λ (l : List Pair). Contains l pair) (sym puts.parts) (Contains-append_left puts.good puts.rest pair among))) row
    (subst (λ (l : List Row). Contains l row) puts.shows has)
