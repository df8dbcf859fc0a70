-- Listing the children and pushing the rows of one page.
use Rattle.std.proofs.Common.{◌≡◌, ℕ, zero, suc, ℤ, ◌+◌, ◌<◌, ◌≤◌, ◌∙◌, ◌&&◌, true, false, List, [], ◌∷◌, ◌++◌, length, map, drop, get_or, All, Option, Some, None, Ok, Err, refl, sym, ap, subst, arith, leb, append_assoc, append-nil, inl, inr}
use Rattle.std.proofs.lemmas.Bool.Decides.{leb_tells}
use Rattle.std.proofs.lemmas.List.{drop_more, length-map}
use Rattle.std.proofs.lemmas.List.Elements.{All-push}
use Rattle.spe_model.specs.declared.page.Cell.{Cell}
use Rattle.spe_model.specs.Paging.{Paging}
use Rattle.spe_model.specs.Chain.{IsChain}
use Rattle.spe_model.specs.Tree.{rank, rest_of, payload_of, AreRows, rows_of}
use Rattle.spe_model.specs.Range.{is_between, between, touched}
use Rattle.spe_space.specs.Calls.{Reads, sight}
use Rattle.spe_space.specs.declared.pages.Pages.{Ghosts}
use Rattle.spe_space.specs.declared.fault.TreeFault.{TreeFault}
use Rattle.spe_space.specs.declared.fault.TreeFault.TheVariants.{Space, Corrupt}
use Rattle.spe_search.specs.Step.{HasChild}
use Rattle.spe_search.specs.Range.{PushesRow, PushesRows, RowDamage, RowsDamage, AddsOfRow, AddsOfRows, HasListed, HasPushed}
use Rattle.spe_search.proofs.PlaceLemmas.{cell_there, le_true, le_false}

-- the cells from a place on begin with the one that is shown there
pub at_front : (shown : List (Option Cell)) (cells : List Cell) (i : ℕ) (c : Cell) → shown ≡ map Some cells → Some c ≡ get_or shown i None → i < length shown → drop i cells ≡ c ∷ drop (i + 1) cells
at_front shown cells i c e is within =
    let all : i < length cells = omega (arith, within, ap length e, length-map cells Some) in
    drop_more cells i c all ∙ ap (λ x. x ∷ drop (i + 1) cells) (cell_there shown cells i c c e is within)

touched_skip : (low high right : ℕ) (c : Cell) (cs : List Cell) → rank c.key < low → touched low high (c ∷ cs) right ≡ touched low high cs right
touched_skip low high right c cs under = rw (le_true (suc (rank c.key)) low (omega (arith, under))) refl

touched_last : (low high right : ℕ) (c : Cell) (cs : List Cell) → low ≤ rank c.key → high ≤ rank c.key → touched low high (c ∷ cs) right ≡ c.left ∷ []
touched_last low high right c cs from to = rw (le_false (suc (rank c.key)) low (omega (arith, from)), le_true high (rank c.key) to) refl

touched_more : (low high right : ℕ) (c : Cell) (cs : List Cell) → low ≤ rank c.key → rank c.key < high → touched low high (c ∷ cs) right ≡ c.left ∷ touched low high cs right
touched_more low high right c cs from to = rw (le_false (suc (rank c.key)) low (omega (arith, from)), le_false high (rank c.key) to) refl

pub listed_skip : (shown : List (Option Cell)) (right low high i : ℕ) (c : Cell) (children : List ℕ) → HasListed shown right low high i children
    → Some c ≡ get_or shown i None → i < length shown → rank c.key < low → HasListed shown right low high (i + 1) children
listed_skip shown right low high i c children listed is within under cells e =
    ap (λ cs. children ++ cs) (sym (ap (λ cs. touched low high cs right) (at_front shown cells i c e is within) ∙ touched_skip low high right c (drop (i + 1) cells) under)) ∙ listed cells e

pub listed_more : (shown : List (Option Cell)) (right low high i : ℕ) (c : Cell) (children : List ℕ) → HasListed shown right low high i children
    → Some c ≡ get_or shown i None → i < length shown → low ≤ rank c.key → rank c.key < high → HasListed shown right low high (i + 1) (children ++ c.left ∷ [])
listed_more shown right low high i c children listed is within from to cells e =
    append_assoc children (c.left ∷ []) (touched low high (drop (i + 1) cells) right)
    ∙ ap (λ cs. children ++ cs) (sym (ap (λ cs. touched low high cs right) (at_front shown cells i c e is within) ∙ touched_more low high right c (drop (i + 1) cells) from to)) ∙ listed cells e

pub listed_last : (shown : List (Option Cell)) (right low high i : ℕ) (c : Cell) (children : List ℕ) → HasListed shown right low high i children
    → Some c ≡ get_or shown i None → i < length shown → low ≤ rank c.key → high ≤ rank c.key → (cells : List Cell) → shown ≡ map Some cells → children ++ c.left ∷ [] ≡ touched low high cells right
listed_last shown right low high i c children listed is within from to cells e =
    ap (λ cs. children ++ cs) (sym (ap (λ cs. touched low high cs right) (at_front shown cells i c e is within) ∙ touched_last low high right c (drop (i + 1) cells) from to)) ∙ listed cells e

pub drop_out : (cells : List Cell) (i : ℕ) → length cells ≤ i → drop i cells ≡ []
drop_out [] zero h = refl
drop_out [] (suc i) h = refl
drop_out (c ∷ cs) zero h = absurd (omega (arith, h))
drop_out (c ∷ cs) (suc i) h = drop_out cs i (omega (arith, h))

pub listed_end : (shown : List (Option Cell)) (right low high i : ℕ) (children : List ℕ) → HasListed shown right low high i children
    → length shown ≤ i → (cells : List Cell) → shown ≡ map Some cells → children ++ right ∷ [] ≡ touched low high cells right
listed_end shown right low high i children listed out cells e =
    let past : length cells ≤ i = omega (arith, out, ap length e, length-map cells Some) in
    ap (λ cs. children ++ cs) (sym (ap (λ cs. touched low high cs right) (drop_out cells i past))) ∙ listed cells e

-- a row of a leaf has its chain
row_chain : (usable : ℕ) (pages : Paging) (a b : ℕ) (cells : List Cell) (i : ℕ) (d : Cell) → AreRows usable pages a b cells → i < length cells
    → IsChain usable pages (rest_of (get_or cells i d)) (get_or cells i d).chain
row_chain usable pages a b [] i d rows within = absurd (omega (arith, within))
row_chain usable pages a b (c ∷ cs) zero d rows within = rows.2
row_chain usable pages a b (c ∷ cs) (suc i) d rows within = row_chain usable pages (rank c.key + 1) b cs i d rows.3 (omega (arith, within))

pub shown_chain : (usable : ℕ) (pages : Paging) (a b : ℕ) (shown : List (Option Cell)) (cells : List Cell) (i : ℕ) (c : Cell) → shown ≡ map Some cells → Some c ≡ get_or shown i None → i < length shown
    → AreRows usable pages a b cells → IsChain usable pages (rest_of c) c.chain
shown_chain usable pages a b shown cells i c e is within rows =
    let all : i < length cells = omega (arith, within, ap length e, length-map cells Some) in
    let P : Cell → Type 0 = λ x. IsChain usable pages (rest_of x) x.chain in
    subst P (cell_there shown cells i c c e is within) (row_chain usable pages a b cells i c rows all)

between_in : (low high : ℕ) (r : ℤ × List ℕ) (rs : List (ℤ × List ℕ)) → is_between low high r ≡ true → between low high (r ∷ rs) ≡ r ∷ between low high rs
between_in low high r rs h = rw h refl

between_out : (low high : ℕ) (r : ℤ × List ℕ) (rs : List (ℤ × List ℕ)) → is_between low high r ≡ false → between low high (r ∷ rs) ≡ between low high rs
between_out low high r rs h = rw h refl

pub pushed_skip : {P : Type 0} (g : Ghosts P) (early now : P) (shown : List (Option Cell)) (low high i : ℕ) (c : Cell) (old new : List (ℤ × List ℕ))
    → HasPushed g early now shown low high i old new → Some c ≡ get_or shown i None → i < length shown → (leb low (rank c.key) && leb (rank c.key) high) ≡ false
    → HasPushed g early now shown low high (i + 1) old new
pushed_skip g early now shown low high i c old new pushed is within out pages agrees cells e a b rows =
    let seen = rows_of (g.used early) (sight g early pages) in
    ap (λ rs. new ++ rs) (sym (ap (λ cs. between low high (seen cs)) (at_front shown cells i c e is within) ∙ between_out low high (c.key, payload_of (g.used early) (sight g early pages) c) (seen (drop (i + 1) cells)) out))
    ∙ pushed pages agrees cells e a b rows

pub pushed_more : {P : Type 0} (X : Type 0) (x : X) (g : Ghosts P) (early now later : P) (shown : List (Option Cell)) (low high i : ℕ) (c : Cell) (old mid new : List (ℤ × List ℕ))
    → Reads g early now → Reads g now later → HasPushed g early now shown low high i old mid → Some c ≡ get_or shown i None → i < length shown
    → (leb low (rank c.key) && leb (rank c.key) high) ≡ true → PushesRow {X = X} g now later c mid new (Ok x)
    → HasPushed g early later shown low high (i + 1) old new
pushed_more X x g early now later shown low high i c old mid new kept keeps pushed is within inside pushes pages agrees cells e a b rows =
    let seen = rows_of (g.used early) (sight g early pages) in
    let row : ℤ × List ℕ = (c.key, payload_of (g.used early) (sight g early pages) c) in
    let all = rw (kept.used, kept.laid) at (pushes pages agrees) in
    let step = all (shown_chain (g.used early) (sight g early pages) a b shown cells i c e is within rows) in
    ap (λ rs. rs ++ between low high (seen (drop (i + 1) cells))) step
    ∙ append_assoc mid (row ∷ []) (between low high (seen (drop (i + 1) cells)))
    ∙ ap (λ rs. mid ++ rs) (sym (ap (λ cs. between low high (seen cs)) (at_front shown cells i c e is within) ∙ between_in low high row (seen (drop (i + 1) cells)) inside))
    ∙ pushed pages (keeps.earlier pages agrees) cells e a b rows

pub pushed_fault : {P : Type 0} (X Y : Type 0) (g : Ghosts P) (early now later : P) (shown : List (Option Cell)) (low high i : ℕ) (c : Cell) (f : TreeFault) (old mid new all : List (ℤ × List ℕ))
    → Reads g early now → Some c ≡ get_or shown i None → i < length shown → PushesRow {X = X} g now later c mid new (Err f)
    → PushesRows {X = Y} g early later shown low high old all (Err f)
pushed_fault X Y g early now later shown low high i c (Space f) old mid new all kept is within pushes pages agrees cells e a b rows = tt
pushed_fault X Y g early now later shown low high i c (Corrupt at) old mid new all kept is within pushes pages agrees cells e a b rows =
    let whole = rw (kept.used, kept.laid) at (pushes pages agrees) in
    whole (shown_chain (g.used early) (sight g early pages) a b shown cells i c e is within rows)

pub pushed_all : {P : Type 0} (g : Ghosts P) (early now : P) (shown : List (Option Cell)) (low high i : ℕ) (old new : List (ℤ × List ℕ))
    → HasPushed g early now shown low high i old new → length shown ≤ i → PushesRows {X = Unit {0}} g early now shown low high old new (Ok tt)
pushed_all g early now shown low high i old new pushed out pages agrees cells e a b rows =
    let past : length cells ≤ i = omega (arith, out, ap length e, length-map cells Some) in
    let seen = rows_of (g.used early) (sight g early pages) in
    sym (append-nil new) ∙ ap (λ cs. new ++ between low high (seen cs)) (sym (drop_out cells i past)) ∙ pushed pages agrees cells e a b rows

pub damage_row : {P : Type 0} (X Y : Type 0) (g : Ghosts P) (early now later : P) (page : ℕ) (shown : List (Option Cell)) (i : ℕ) (c : Cell) (f : TreeFault)
    → Reads g early now → Some c ≡ get_or shown i None → RowDamage {X = X} g now later page c (Err f) → RowsDamage {X = Y} g early later page shown (Err f)
damage_row X Y g early now later page shown i c (Space f) kept is damage pages agrees = tt
damage_row X Y g early now later page shown i c (Corrupt at) kept is damage pages agrees =
    let all = rw (kept.used, kept.laid) at (damage pages agrees) in
    inr (c, record { index = i; is = sym is }, all)

pub both_in : (low k high : ℕ) → (leb low k && leb k high) ≡ true → (low ≤ k) × (k ≤ high)
both_in low k high h = elim (leb_tells low k) [
  | inl from ↦ (elim (leb_tells k high) [
    | inl to ↦ (from.1, to.1)
    | inr over ↦ absurd (let e : true ≡ false = sym h ∙ rw (from.0, over.0) refl in cc)
  ])
  | inr under ↦ absurd (let e : true ≡ false = sym h ∙ rw under.0 refl in cc)
]

pub adds_row_more : {P : Type 0} (g : Ghosts P) (early now later : P) (shown : List (Option Cell)) (low high i : ℕ) (c : Cell)
    → Reads g early now → Reads g now later → Some c ≡ get_or shown i None → (leb low (rank c.key) && leb (rank c.key) high) ≡ true
    → AddsOfRows g early now shown low high → AddsOfRow g now later c → AddsOfRows g early later shown low high
adds_row_more g early now later shown low high i c kept keeps is inside before adds pages agrees n =
    let all = rw (kept.used, kept.laid) at (adds pages agrees n) in
    let bounds = both_in low (rank c.key) high inside in
    elim all [
      | inl same ↦ (elim (before pages (keeps.earlier pages agrees) n) [
        | inl as_before ↦ inl (same ∙ as_before)
        | inr has ↦ inr has
      ])
      | inr link ↦ inr (record { row = c; is = record { index = i; is = sym is }; from = bounds.0; to = bounds.1; link = link })
    ]

pub shown_push : (shown : List (Option Cell)) (right i : ℕ) (c : Cell) (children more : List ℕ) → Some c ≡ get_or shown i None → All (HasChild shown right) children
    → more ≡ children ++ c.left ∷ [] → All (HasChild shown right) more
shown_push shown right i c children more is before e =
    let P : List ℕ → Type 0 = All (HasChild shown right) in
    subst P (sym e) (All-push (HasChild shown right) children c.left before (inr (c, record { index = i; is = sym is }, refl)))

pub listed_push : (shown : List (Option Cell)) (right low high i : ℕ) (c : Cell) (children more : List ℕ) → HasListed shown right low high i children
    → Some c ≡ get_or shown i None → i < length shown → low ≤ rank c.key → rank c.key < high → more ≡ children ++ c.left ∷ [] → HasListed shown right low high (i + 1) more
listed_push shown right low high i c children more listed is within from to e =
    let P : List ℕ → Type 0 = HasListed shown right low high (i + 1) in
    subst P (sym e) (listed_more shown right low high i c children listed is within from to)
