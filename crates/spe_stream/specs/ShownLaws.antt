-- Rows that are printed while a table's tree is walked.
use Rattle.std.proofs.Common.{◌≡◌, ℕ, Bool, true, List, [], ◌∷◌, ◌++◌, map, Option, Some, refl, sym, ap, subst, ◌∙◌, append_assoc, append-nil, arith, length-append}
use Rattle.spe_model.specs.declared.table.TableDef.{TableDef}
use Rattle.spe_model.specs.Database.{Row}
use Rattle.spe_search.specs.declared.pairs.Pair.{Pair}
use Rattle.spe_render.specs.Values.{row_text, rows_text}
use Rattle.spe_render.proofs.PassesLemmas.{nothing, printed, then}
use Rattle.spe_stream.specs.Shown.{Puts, Stops, row_at}

rows_text_both : (xs ys : List Row) → rows_text xs ++ rows_text ys ≡ rows_text (xs ++ ys)
rows_text_both [] ys = refl
rows_text_both (x ∷ xs) ys = append_assoc (row_text x) (rows_text xs) (rows_text ys) ∙ ap (λ (t : List ℕ). row_text x ++ t) (rows_text_both xs ys)

read_both : (table : TableDef) (xs ys : List Pair) (rows others : List Row) → map (row_at table) xs ≡ map Some rows → map (row_at table) ys ≡ map Some others
    → map (row_at table) (xs ++ ys) ≡ map Some (rows ++ others)
read_both table [] ys [] others a b = b
read_both table [] ys (r ∷ rows) others a b = absurd cc
read_both table (x ∷ xs) ys [] others a b = absurd cc
read_both table (x ∷ xs) ys (r ∷ rows) others a b =
    let first : row_at table x ≡ Some r = cc in
    let later : map (row_at table) xs ≡ map Some rows = cc in
    let all = read_both table xs ys rows others later b in cc

pub puts_none : (table : TableDef) {t : Option (List ℕ)} {f : ℕ} {p : Option (List ℕ)} {count : ℕ} {shown : List Row} {flaw : Option ℕ}
    → Puts table t t f f p p count count shown shown flaw flaw [] true
puts_none table {count = count} {shown = shown} = record {
  good = [];
  rest = [];
  parts = refl;
  rows = [];
  read = refl;
  puts = nothing;
  counts = omega arith;
  shows = sym (append-nil shown);
  stops = (refl, refl);
}

pub puts_both : (table other : TableDef) → other ≡ table → {t u v : Option (List ℕ)} {f g h : ℕ} {p q r : Option (List ℕ)} {count count_mid count_now : ℕ} {shown shown_mid shown_now : List Row}
    {flaw flaw_mid flaw_now : Option ℕ} {some others : List Pair} {more : Bool}
    → Puts table t u f g p q count count_mid shown shown_mid flaw flaw_mid some true
    → Puts other u v g h q r count_mid count_now shown_mid shown_now flaw_mid flaw_now others more
    → Puts table t v f h p r count count_now shown shown_now flaw flaw_now (some ++ others) more
puts_both table other same {t} {u} {v} {f} {g} {h} {p} {q} {r} {count} {count_mid} {count_now} {shown} {shown_mid} {shown_now} {flaw} {flaw_mid} {flaw_now} {some} {others} {more} a two =
    let b = subst (λ (x : TableDef). Puts x u v g h q r count_mid count_now shown_mid shown_now flaw_mid flaw_now others more) same two in
    let whole : some ≡ a.good = a.parts ∙ ap (λ (l : List Pair). a.good ++ l) a.stops.0 ∙ append-nil a.good in
    let first = a.counts in
    let second = b.counts in
    let sizes = length-append a.rows b.rows in
    record {
      good = a.good ++ b.good;
      rest = b.rest;
      parts = ap (λ (l : List Pair). l ++ others) whole ∙ ap (λ (l : List Pair). a.good ++ l) b.parts ∙ sym (append_assoc a.good b.good b.rest);
      rows = a.rows ++ b.rows;
      read = read_both table a.good b.good a.rows b.rows a.read b.read;
      puts = printed (rows_text_both a.rows b.rows) (then a.puts b.puts);
      counts = omega (arith, first, second, sizes);
      shows = b.shows ∙ ap (λ (l : List Row). l ++ b.rows) a.shows ∙ append_assoc shown a.rows b.rows;
      stops = subst (λ (k : Option ℕ). Stops table b.rest k flaw_now more) a.stops.1 b.stops;
    }
