-- Runs of bytes that are marked one after the other find no mark exactly where no two share a byte.
use Rattle.std.proofs.Common.{◌≡◌, ℕ, suc, ◌+◌, ◌-◌, ◌<◌, ◌≤◌, List, [], ◌∷◌, ◌++◌, length, take, drop, get_or, replicate, Bool, true, false, refl, sym, ◌∙◌, ap, subst, arith, inl, inr, length-append, length-drop}
use Rattle.std.specs.Prelude.{◌⊎◌, slice_range, not, ◌&&◌, ◌||◌, nat_le, max, min}
use Rattle.std.specs.List.{list_all, list_any}
use Rattle.std.proofs.lemmas.Bool.{cases_lt, lt-ltb, ltb-true, leb-true, false_from_ne_true, false≢true}
use Rattle.std.proofs.lemmas.List.{get_or-drop, get_or-take, get_or-replicate, get_or_append_left, get_or-append_right, length-take-le, length-replicate}
use Rattle.std.proofs.lemmas.List.Edits.{get_or-between, length-between}
use Rattle.std.proofs.lemmas.List.Folds.{list_any_at}
use Rattle.spe_model.specs.Page.{share, apart}
use Rattle.spe_format.specs.Layout.{is_span, is_taken, with_taken, are_free}

-- some byte from a to b is marked
abbrev Marked : List Bool → ℕ → ℕ → Type 0
Marked marks a b = (k : ℕ) × (a ≤ k) × (k < b) × (get_or marks k false ≡ true)

or_both : {a b c d : Bool} → a ≡ c → b ≡ d → (a || b) ≡ (c || d)
or_both e f = rw (e, f) refl

any_get : (bs : List Bool) → list_any (λ b. b) bs ≡ true → (k : ℕ) × (k < length bs) × (get_or bs k false ≡ true)
any_get [] e = absurd cc
any_get (true ∷ bs) e = (0, omega arith, refl)
any_get (false ∷ bs) e = let rest = any_get bs e in (suc rest.0, omega (arith, rest.1), rest.2)

taken_marked : (marks : List Bool) (s : ℕ × ℕ) → s.1 ≤ length marks → is_taken marks s ≡ true → Marked marks s.0 s.1
taken_marked marks s within e =
    let found = any_get (slice_range marks s.0 s.1) e in
    let long : length (slice_range marks s.0 s.1) ≡ s.1 - s.0 = length-between marks s.0 s.1 within in
    let few : found.0 < s.1 - s.0 = rw long at found.1 in
    (s.0 + found.0, omega arith, omega arith, sym (get_or-between marks s.0 s.1 found.0 false (omega arith)) ∙ found.2)

marked_taken : (marks : List Bool) (s : ℕ × ℕ) → s.1 ≤ length marks → Marked marks s.0 s.1 → is_taken marks s ≡ true
marked_taken marks s within m =
    let place : s.0 + (m.0 - s.0) ≡ m.0 = omega (arith, m.1, m.2) in
    let long : length (slice_range marks s.0 s.1) ≡ s.1 - s.0 = length-between marks s.0 s.1 within in
    list_any_at (λ b. b) (slice_range marks s.0 s.1) (m.0 - s.0) false (rw long (omega (arith, m.1, m.2)))
    (get_or-between marks s.0 s.1 (m.0 - s.0) false (omega (arith, m.1, m.2)) ∙ rw place m.3)

length_taken : (marks : List Bool) (s : ℕ × ℕ) → s.0 ≤ s.1 → s.1 ≤ length marks → length (with_taken marks s) ≡ length marks
length_taken marks s low high =
    let front : length (take s.0 marks) ≡ s.0 = length-take-le s.0 marks (omega arith) in
    rw (length-append, length-append, front, length-replicate, length-drop) (omega arith)

-- the bytes of the run are marked, and the others are as they were
taken_in : (marks : List Bool) (s : ℕ × ℕ) (k : ℕ) → s.0 ≤ s.1 → s.1 ≤ length marks → s.0 ≤ k → k < s.1 → get_or (with_taken marks s) k false ≡ true
taken_in marks s k low high from to =
    let front : length (take s.0 marks) ≡ s.0 = length-take-le s.0 marks (omega arith) in
    let below : k - s.0 < s.1 - s.0 = omega arith in
    let inner : k - s.0 < length (replicate (s.1 - s.0) true) = rw length-replicate below in
    get_or-append_right (take s.0 marks) (replicate (s.1 - s.0) true ++ drop s.1 marks) s.0 k false front from
    ∙ (get_or_append_left (replicate (s.1 - s.0) true) (drop s.1 marks) false (k - s.0) inner ∙ get_or-replicate (s.1 - s.0) (k - s.0) true false below)

taken_before : (marks : List Bool) (s : ℕ × ℕ) (k : ℕ) → s.0 ≤ s.1 → s.1 ≤ length marks → k < s.0 → get_or (with_taken marks s) k false ≡ get_or marks k false
taken_before marks s k low high out =
    let front : length (take s.0 marks) ≡ s.0 = length-take-le s.0 marks (omega arith) in
    get_or_append_left (take s.0 marks) (replicate (s.1 - s.0) true ++ drop s.1 marks) false k (omega arith) ∙ get_or-take s.0 marks k false out

taken_after : (marks : List Bool) (s : ℕ × ℕ) (k : ℕ) → s.0 ≤ s.1 → s.1 ≤ length marks → s.1 ≤ k → get_or (with_taken marks s) k false ≡ get_or marks k false
taken_after marks s k low high out =
    let front : length (take s.0 marks) ≡ s.0 = length-take-le s.0 marks (omega arith) in
    let place : s.1 + (k - s.0 - (s.1 - s.0)) ≡ k = omega arith in
    get_or-append_right (take s.0 marks) (replicate (s.1 - s.0) true ++ drop s.1 marks) s.0 k false front (omega arith)
    ∙ (get_or-append_right (replicate (s.1 - s.0) true) (drop s.1 marks) (s.1 - s.0) (k - s.0) false (length-replicate (s.1 - s.0) true) (omega arith)
    ∙ (get_or-drop s.1 marks (k - s.0 - (s.1 - s.0)) false ∙ rw place refl))

by_place : (P : Type 0) (s : ℕ × ℕ) (k : ℕ) → (k < s.0 → P) → (s.0 ≤ k → k < s.1 → P) → (s.1 ≤ k → P) → P
by_place P s k before in_it behind =
    elim (cases_lt k s.0) [ inl l ↦ before l | inr from ↦ elim (cases_lt k s.1) [ inl to ↦ in_it from to | inr l ↦ behind l ] ]

-- a mark stays
stays : (marks : List Bool) (s : ℕ × ℕ) (k : ℕ) → s.0 ≤ s.1 → s.1 ≤ length marks → get_or marks k false ≡ true → get_or (with_taken marks s) k false ≡ true
stays marks s k low high e =
    by_place (get_or (with_taken marks s) k false ≡ true) s k (λ l. taken_before marks s k low high l ∙ e)
    (λ from to. taken_in marks s k low high from to) (λ l. taken_after marks s k low high l ∙ e)

or_left : (a b : Bool) → a ≡ true → (a || b) ≡ true
or_left a b e = rw e refl

or_right : (a b : Bool) → b ≡ true → (a || b) ≡ true
or_right true b e = refl
or_right false b e = e

or_cases : (a b : Bool) → (a || b) ≡ true → (a ≡ true) ⊎ (b ≡ true)
or_cases true b e = inl refl
or_cases false b e = inr e

and_parts : (a b : Bool) → (a && b) ≡ true → (a ≡ true) × (b ≡ true)
and_parts true b e = (refl, e)
and_parts false b e = absurd cc

same_bool : (a b : Bool) → (a ≡ true → b ≡ true) → (b ≡ true → a ≡ true) → a ≡ b
same_bool true b to from = sym (to refl)
same_bool false true to from = from refl
same_bool false false to from = refl

span_parts : (size : ℕ) (s : ℕ × ℕ) → is_span size s ≡ true → (s.0 ≤ s.1) × (s.1 ≤ size)
span_parts size s e = let parts = and_parts (nat_le s.0 s.1) (nat_le s.1 size) e in (leb-true _ _ parts.0, leb-true _ _ parts.1)

share_at : (s t : ℕ × ℕ) (k : ℕ) → s.0 ≤ k → k < s.1 → t.0 ≤ k → k < t.1 → share s t ≡ true
share_at s t k a b c d = lt-ltb (max s.0 t.0) (min s.1 t.1) (omega arith)

-- a run finds a mark where there was one, or where it shares a byte with the run that was marked
taken_more : (marks : List Bool) (s t : ℕ × ℕ) → s.0 ≤ s.1 → s.1 ≤ length marks → t.1 ≤ length marks
    → is_taken (with_taken marks s) t ≡ (is_taken marks t || share s t)
taken_more marks s t low high within =
    let long : length (with_taken marks s) ≡ length marks = length_taken marks s low high in
    let cap : t.1 ≤ length (with_taken marks s) = omega arith in
    same_bool (is_taken (with_taken marks s) t) (is_taken marks t || share s t)
    (λ e.
    let m : Marked (with_taken marks s) t.0 t.1 = taken_marked (with_taken marks s) t cap e in
    by_place ((is_taken marks t || share s t) ≡ true) s m.0
    (λ l. or_left _ _ (marked_taken marks t within (m.0, m.1, m.2, sym (taken_before marks s m.0 low high l) ∙ m.3)))
    (λ from to. or_right (is_taken marks t) (share s t) (share_at s t m.0 from to m.1 m.2))
    (λ l. or_left _ _ (marked_taken marks t within (m.0, m.1, m.2, sym (taken_after marks s m.0 low high l) ∙ m.3))))
    (λ e.
    elim (or_cases (is_taken marks t) (share s t) e) [
      | inl old ↦
          let m : Marked marks t.0 t.1 = taken_marked marks t within old in
          marked_taken (with_taken marks s) t cap (m.0, m.1, m.2, stays marks s m.0 low high m.3)
      | inr both ↦
          let inside : max s.0 t.0 < min s.1 t.1 = ltb-true (max s.0 t.0) (min s.1 t.1) both in
          marked_taken (with_taken marks s) t cap
          (max s.0 t.0, omega arith, omega arith, taken_in marks s (max s.0 t.0) low high (omega arith) (omega arith))
    ])

or_swap : (a b c d : Bool) → ((a || b) || (c || d)) ≡ ((a || c) || (b || d))
or_swap true b c d = refl
or_swap false true true d = refl
or_swap false true false d = refl
or_swap false false c d = refl

any_more : (marks : List Bool) (s : ℕ × ℕ) (ss : List (ℕ × ℕ)) → s.0 ≤ s.1 → s.1 ≤ length marks → list_all (is_span (length marks)) ss ≡ true
    → list_any (is_taken (with_taken marks s)) ss ≡ (list_any (is_taken marks) ss || list_any (share s) ss)
any_more marks s [] low high all = refl
any_more marks s (t ∷ ts) low high all =
    let parts = and_parts (is_span (length marks) t) (list_all (is_span (length marks)) ts) all in
    let span = span_parts (length marks) t parts.0 in
    let first : is_taken (with_taken marks s) t ≡ (is_taken marks t || share s t) = taken_more marks s t low high span.1 in
    let rest : list_any (is_taken (with_taken marks s)) ts ≡ (list_any (is_taken marks) ts || list_any (share s) ts) = any_more marks s ts low high parts.1 in
    or_both first rest ∙ or_swap (is_taken marks t) (share s t) (list_any (is_taken marks) ts) (list_any (share s) ts)

not_both : (t a b c : Bool) → (not t && (not (a || b) && c)) ≡ (not (t || a) && (not b && c))
not_both true a b c = refl
not_both false true b c = refl
not_both false false b c = refl

-- each run is free in its turn where none finds a mark at first and no two share a byte
free_from : (marks : List Bool) (ss : List (ℕ × ℕ)) → list_all (is_span (length marks)) ss ≡ true
    → are_free marks ss ≡ (not (list_any (is_taken marks) ss) && apart ss)
free_from marks [] all = refl
free_from marks (s ∷ ss) all =
    let parts = and_parts (is_span (length marks) s) (list_all (is_span (length marks)) ss) all in
    let span = span_parts (length marks) s parts.0 in
    let long : length (with_taken marks s) ≡ length marks = length_taken marks s span.0 span.1 in
    let rest : are_free (with_taken marks s) ss ≡ (not (list_any (is_taken (with_taken marks s)) ss) && apart ss)
    = free_from (with_taken marks s) ss (subst (λ (n : ℕ). list_all (is_span n) ss ≡ true) (sym long) parts.1) in
    let more : list_any (is_taken (with_taken marks s)) ss ≡ (list_any (is_taken marks) ss || list_any (share s) ss)
    = any_more marks s ss span.0 span.1 parts.1 in
    let whole : are_free (with_taken marks s) ss ≡ (not (list_any (is_taken marks) ss || list_any (share s) ss) && apart ss)
    = rest ∙ ap (λ (b : Bool). not b && apart ss) more in
    ap (λ (b : Bool). not (is_taken marks s) && b) whole
    ∙ not_both (is_taken marks s) (list_any (is_taken marks) ss) (list_any (share s) ss) (apart ss)

none_taken : (size : ℕ) (s : ℕ × ℕ) → s.1 ≤ size → is_taken (replicate size false) s ≡ false
none_taken size s within =
    let long : length (replicate size false) ≡ size = length-replicate size false in
    let cap : s.1 ≤ length (replicate size false) = omega arith in
    false_from_ne_true (is_taken (replicate size false) s)
    (λ (e : is_taken (replicate size false) s ≡ true).
    let m : Marked (replicate size false) s.0 s.1 = taken_marked (replicate size false) s cap e in
    false≢true (sym (get_or-replicate size m.0 false false (omega (arith, m.2))) ∙ m.3))

none_any : (size : ℕ) (ss : List (ℕ × ℕ)) → list_all (is_span size) ss ≡ true → list_any (is_taken (replicate size false)) ss ≡ false
none_any size [] all = refl
none_any size (s ∷ ss) all =
    let parts = and_parts (is_span size s) (list_all (is_span size) ss) all in
    or_both (none_taken size s (span_parts size s parts.0).1) (none_any size ss parts.1)

pub free_is_apart : (size : ℕ) (spans : List (ℕ × ℕ)) → list_all (is_span size) spans ≡ true → are_free (replicate size false) spans ≡ apart spans
free_is_apart size spans all =
    let long : length (replicate size false) ≡ size = length-replicate size false in
    free_from (replicate size false) spans (subst (λ (n : ℕ). list_all (is_span n) spans ≡ true) (sym long) all)
    ∙ ap (λ (b : Bool). not b && apart spans) (none_any size spans all)
