-- One row that is taken.
use Rattle.std.proofs.Common.{◌≡◌, ℕ, ◌+◌, Bool, true, false, List, [], ◌∷◌, ◌++◌, Option, Some, None, refl, sym, ap, append-nil, arith, inl, inr}
use Rattle.spe_model.specs.declared.table.TableDef.{TableDef}
use Rattle.spe_model.specs.Database.{Row}
use Rattle.spe_search.specs.declared.pairs.Pair.{Pair}
use Rattle.spe_render.specs.Stored.{PutsRow}
use Rattle.spe_render.specs.Values.{row_text}
use Rattle.spe_render.proofs.PassesLemmas.{nothing, printed}
use Rattle.spe_stream.specs.Row.{rows_in}
use Rattle.spe_stream.specs.Shown.{Puts, Stops, row_at}

pub puts_full : (table : TableDef) (pair : Pair) {t : Option (List ℕ)} {f : ℕ} {p : Option (List ℕ)} {count : ℕ} {shown : List Row} {flaw : Option ℕ}
    → Puts table t t f f p p count count shown shown flaw flaw (pair ∷ []) false
puts_full table pair {count = count} {shown = shown} = record {
  good = [];
  rest = pair ∷ [];
  parts = refl;
  rows = [];
  read = refl;
  puts = nothing;
  counts = omega arith;
  shows = sym (append-nil shown);
  stops = inl refl;
}

pub puts_flaw : (table : TableDef) (pair : Pair) {t u : Option (List ℕ)} {f g : ℕ} {p q : Option (List ℕ)} {count : ℕ} {shown : List Row} {flaw : Option ℕ} (result : Bool)
    → result ≡ false → PutsRow t u f g p q (row_at table pair) result → Puts table t u f g p q count count shown shown flaw (Some pair.leaf) (pair ∷ []) false
puts_flaw table pair {t} {u} {f} {g} {p} {q} {count} {shown} {flaw} result none put = go (row_at table pair) refl put
  where
    go : (o : Option Row) → row_at table pair ≡ o → PutsRow t u f g p q o result
        → Puts table t u f g p q count count shown shown flaw (Some pair.leaf) (pair ∷ []) false
    go None is put = record {
      good = [];
      rest = pair ∷ [];
      parts = refl;
      rows = [];
      read = refl;
      puts = put.1;
      counts = omega arith;
      shows = sym (append-nil shown);
      stops = inr (pair, refl, is, refl);
    }
    go (Some row) is put = absurd (let e = put.0 in let n = none in cc)

stops_after : (table : TableDef) (flaw : Option ℕ) (more : Bool) → Stops table [] flaw flaw more
stops_after table flaw true = (refl, refl)
stops_after table flaw false = inl refl

pub puts_row : (table : TableDef) (pair : Pair) {t u : Option (List ℕ)} {f g : ℕ} {p q : Option (List ℕ)} {count : ℕ} {shown shown_now : List Row} {flaw : Option ℕ} (result more : Bool)
    → result ≡ true → PutsRow t u f g p q (row_at table pair) result → shown_now ≡ shown ++ rows_in (row_at table pair)
    → Puts table t u f g p q count (count + 1) shown shown_now flaw flaw (pair ∷ []) more
puts_row table pair {t} {u} {f} {g} {p} {q} {count} {shown} {shown_now} {flaw} result more yes_put put shows = go (row_at table pair) refl put shows
  where
    go : (o : Option Row) → row_at table pair ≡ o → PutsRow t u f g p q o result → shown_now ≡ shown ++ rows_in o
        → Puts table t u f g p q count (count + 1) shown shown_now flaw flaw (pair ∷ []) more
    go None is put shows = absurd (let e = put.0 in let n = yes_put in cc)
    go (Some row) is put shows = record {
      good = pair ∷ [];
      rest = [];
      parts = refl;
      rows = row ∷ [];
      read = ap (λ o. o ∷ []) is;
      puts = printed (sym (append-nil (row_text row))) put.1;
      counts = refl;
      shows = shows;
      stops = stops_after table flaw more;
    }
