-- Journals that are made one after another.
use Rattle.std.proofs.Common.{◌≡◌, ◌≢◌, ℕ, suc, zero, ◌+◌, ◌-◌, ◌<◌, true, false, List, [], ◌∷◌, ◌++◌, length, get_or, ap, ◌∙◌, sym, refl, arith, Option, Some, None, unwrap_or, append_assoc, append-nil, length-append, add-one, add-zero, zero-add}
use Rattle.std.specs.Prelude.{slice_get, is_none}
use Rattle.std.specs.List.{range_with_len}
use Rattle.std.proofs.lemmas.List.{map-append, get_or-set_other}
use Rattle.std.proofs.lemmas.List.Elements.{filter-append}
use Rattle.std.proofs.lemmas.Option.{unwrap_or-slice_get}
use Rattle.spe_model.specs.declared.file.FileNo.TheVariants.{Journal}
use Rattle.spe_model.specs.Content.{Content, flatten, file_of}
use Rattle.spe_model.specs.Trace.{Operation, made_by}
use Rattle.spe_model.specs.Trace.Operation.{Cut}
use Rattle.spe_disk.specs.Told.{absent_among, absent_below, absent_journals, makings}

pub absent_is : (content : Content) (n : ℕ) → is_none (file_of content (Journal n)) ≡ true → absent_among content (n ∷ []) ≡ n ∷ []
unfolding absent_among
absent_is content n gone = rw gone refl

pub there_is : (content : Content) (n : ℕ) → is_none (file_of content (Journal n)) ≡ false → absent_among content (n ∷ []) ≡ []
unfolding absent_among
there_is content n there = rw there refl

pub absent_same : (now content : Content) (n : ℕ) → file_of now (Journal n) ≡ file_of content (Journal n) → absent_among now (n ∷ []) ≡ absent_among content (n ∷ [])
unfolding absent_among
absent_same now content n same = rw same refl

-- a cut of a journal leaves the others
flat : (content : Content) (i : ℕ) → flatten (slice_get content i) ≡ get_or content i None
flat content i = by (slice_get content i) ∙ unwrap_or-slice_get content i None
  where
    by : (o : Option (Option (List ℕ))) → flatten o ≡ unwrap_or o None
    by None = refl
    by (Some x) = refl

pub other_file : (content : Content) (n j size : ℕ) → j ≢ n → file_of (made_by (Cut (Journal n) size) content) (Journal j) ≡ file_of content (Journal j)
other_file content n j size other =
    let apart : j + 1 ≢ n + 1 = λ e. other (omega arith) in
    flat _ (j + 1) ∙ get_or-set_other content (n + 1) (j + 1) _ None apart ∙ sym (flat content (j + 1))

range_more : (a n : ℕ) → range_with_len a (suc n) ≡ range_with_len a n ++ (a + n) ∷ []
range_more a zero = ap (λ (k : ℕ). k ∷ []) (sym (add-zero a))
range_more a (suc n) =
    let next = range_more (a + 1) n in
    let same : a + 1 + n ≡ a + suc n = omega arith in
    let last : range_with_len (a + 1) n ++ (a + 1 + n) ∷ [] ≡ range_with_len (a + 1) n ++ (a + suc n) ∷ [] = ap (λ (k : ℕ). range_with_len (a + 1) n ++ k ∷ []) same in
    ap (λ (l : List ℕ). a ∷ l) (next ∙ last)

pub below_none : (content : Content) → absent_below content 0 ≡ []
unfolding absent_below absent_among
below_none content = refl

pub below_more : (content : Content) (n : ℕ) → absent_below content (n + 1) ≡ absent_below content n ++ absent_among content (n ∷ [])
unfolding absent_below absent_among
below_more content n =
    let range : range_with_len 0 (n + 1) ≡ range_with_len 0 n ++ n ∷ [] = ap (range_with_len 0) (add-one n) ∙ range_more 0 n ∙ ap (λ (k : ℕ). range_with_len 0 n ++ k ∷ []) (zero-add n) in
    rw range (filter-append _ (range_with_len 0 n) (n ∷ []))

pub below_front : (content : Content) (n k : ℕ) → (rest : List ℕ) × (absent_below content (n + k) ≡ absent_below content n ++ rest)
below_front content n zero = ([], ap (absent_below content) (add-zero n) ∙ sym (append-nil (absent_below content n)))
below_front content n (suc k) =
    let before = below_front content n k in
    let next = below_more content (n + k) in
    let at : n + suc k ≡ n + k + 1 = omega arith in
    let index = ap (absent_below content) at in
    let grouped = append_assoc (absent_below content n) before.0 (absent_among content ((n + k) ∷ [])) in
    let whole : absent_below content (n + suc k) ≡ absent_below content n ++ before.0 ++ absent_among content ((n + k) ∷ []) = index ∙ next ∙ ap (λ (l : List ℕ). l ++ absent_among content ((n + k) ∷ [])) before.1 in
    (before.0 ++ absent_among content ((n + k) ∷ []), whole ∙ grouped)

-- one more number is done
pub making_more : (content now : Content) (first before after : List Operation) (n : ℕ) → file_of now (Journal n) ≡ file_of content (Journal n) → before ≡ first ++ makings (absent_below content n)
    → after ≡ before ++ makings (absent_among now (n ∷ [])) → after ≡ first ++ makings (absent_below content (n + 1))
making_more content now first before after n same b a =
    let more = below_more content n in
    let one = absent_same now content n same in
    let both : makings (absent_below content n ++ absent_among content (n ∷ [])) ≡ makings (absent_below content n) ++ makings (absent_among content (n ∷ [])) = map-append _ (absent_below content n) (absent_among content (n ∷ [])) in
    let grouped = append_assoc first (makings (absent_below content n)) (makings (absent_among content (n ∷ []))) in
    cc

pub counting_more : (content now : Content) (n made count : ℕ) → file_of now (Journal n) ≡ file_of content (Journal n) → made ≡ length (absent_below content n)
    → count ≡ length (absent_among now (n ∷ [])) → made + count ≡ length (absent_below content (n + 1))
counting_more content now n made count same m c =
    let one = ap length (absent_same now content n same) in
    let more = ap length (below_more content n) in
    let sum = length-append (absent_below content n) (absent_among content (n ∷ [])) in
    omega arith

regrouped : (a b c d : List ℕ) → a ++ (b ++ c) ++ d ≡ a ++ b ++ (c ++ d)
regrouped a b c d = ap (λ (l : List ℕ). l ++ d) (sym (append_assoc a b c)) ∙ append_assoc (a ++ b) c d

-- some first ones were made where the last has failed
pub making_failed : (content now : Content) (first before after : List Operation) (n : ℕ) (front rest : List ℕ) → n < 16 → file_of now (Journal n) ≡ file_of content (Journal n)
    → before ≡ first ++ makings (absent_below content n) → absent_among now (n ∷ []) ≡ front ++ rest → after ≡ before ++ makings front
    → (x : List ℕ) × (y : List ℕ) × (absent_journals content ≡ x ++ y) × (after ≡ first ++ makings x)
making_failed content now first before after n front rest below same b parts a =
    let tail = below_front content (n + 1) (15 - n) in
    let whole : n + 1 + (15 - n) ≡ 16 = omega arith in
    let more = below_more content n in
    let one = absent_same now content n same in
    let both : makings (absent_below content n ++ front) ≡ makings (absent_below content n) ++ makings front = map-append _ (absent_below content n) front in
    let grouped = append_assoc first (makings (absent_below content n)) (makings front) in
    let all : absent_journals content ≡ absent_below content (n + 1) ++ tail.0 = ap (absent_below content) (sym whole) ∙ tail.1 in
    let joined : absent_below content (n + 1) ≡ absent_below content n ++ (front ++ rest) = more ∙ ap (λ (l : List ℕ). absent_below content n ++ l) (sym one ∙ parts) in
    let four = regrouped (absent_below content n) front rest tail.0 in
    (absent_below content n ++ front, rest ++ tail.0, all ∙ ap (λ (l : List ℕ). l ++ tail.0) joined ∙ four, cc)
