-- Texts among the values of a record.
use Rattle.std.proofs.Common.{◌≡◌, ℕ, List, [], ◌∷◌, ◌++◌, refl, append_assoc, append-nil, take, drop, ap, length, ◌-◌, ◌<◌, ◌≤◌, arith, length-drop, true, false, subst, sym, ◌∙◌, Option, Some, None}
use Rattle.std.proofs.Math.Bool.{and-false}
use Rattle.std.proofs.lemmas.Bool.{false_from_ne_true}
use Rattle.std.proofs.lemmas.List.Folds.{list_all-append}
use Rattle.std.proofs.lemmas.Str.{IsUtf8-from_is_utf8, is_utf8-from_IsUtf8}
use Rattle.std.specs.List.{list_all}
use Rattle.std.specs.Str.{IsUtf8, is_utf8}
use Rattle.spe_model.specs.declared.value.Value.{Value}
use Rattle.spe_model.specs.declared.record.RecordFault.{RecordFault}
use Rattle.spe_model.specs.declared.record.RecordFault.TheVariants.{HeaderLength, ReservedType, Short, Trailing, NotUtf8, Memory}
use Rattle.spe_model.specs.Record.{is_text, are_texts, value_of}
use Rattle.spe_model.specs.Serial.{size_of, types_at}
use Rattle.spe_model.specs.Varint.{varint_of}
use Rattle.spe_record.specs.Answers.{Fills, NoTexts, values_at}
use Rattle.spe_record.proofs.TypesLemmas.{found, led_by, types_none, types_one}

-- the test agrees with the word of `from_utf8`
pub is_utf8_true : (bytes : List ℕ) → IsUtf8 bytes → is_utf8 bytes ≡ true
is_utf8_true bytes text = is_utf8-from_IsUtf8 bytes text

pub is_utf8_false : (bytes : List ℕ) → ¬ IsUtf8 bytes → is_utf8 bytes ≡ false
is_utf8_false bytes none = false_from_ne_true (is_utf8 bytes) (λ (e : is_utf8 bytes ≡ true). none (IsUtf8-from_is_utf8 bytes e))

texts_push : (vs : List Value) (v : Value) → are_texts vs ≡ true → is_text v ≡ true → are_texts (vs ++ v ∷ []) ≡ true
texts_push vs v all one = rw (list_all-append is_text vs (v ∷ []), all, one) refl

pub texts_turn : (found : List Value) (v w : Value) → are_texts found ≡ true → v ≡ w → is_text w ≡ true → are_texts (found ++ v ∷ []) ≡ true
texts_turn found v w all e one = texts_push found v all (rw e one)

no_text_at : (vs : List Value) (v : Value) (ws : List Value) → is_text v ≡ false → are_texts (vs ++ v ∷ ws) ≡ false
no_text_at vs v ws none = rw (list_all-append is_text vs (v ∷ ws), none) (and-false (list_all is_text vs))

-- a value that could not be made stops the list
no_values : (fault : RecordFault) (front : List Value) (v : Value) (back all : List Value) → front ++ v ∷ back ≡ all → NoTexts fault (is_text v) → NoTexts fault (are_texts all)
no_values NotUtf8 front v back all e fails = rw (← e) (no_text_at front v back fails)
no_values Memory front v back all e fails = tt
no_values HeaderLength front v back all e fails = absurd fails
no_values ReservedType front v back all e fails = absurd fails
no_values Short front v back all e fails = absurd fails
no_values Trailing front v back all e fails = absurd fails

-- the values of serial types of which one is known
abbrev Led : ℕ → Option (List ℕ) → List ℕ → Type 0
Led t rest body = (size_of t ≤ length body) × Fills rest (length body - size_of t) × (values_at (led_by t rest) body ≡ value_of t (take (size_of t) body) ∷ values_at rest (drop (size_of t) body))

led_is : (t : ℕ) (rest : Option (List ℕ)) (body : List ℕ) → Fills (led_by t rest) (length body) → Led t rest body
led_is t None body fills = absurd fills
led_is t (Some ts) body fills = (omega (arith, fills), omega (arith, fills), refl)

led : (left body : List ℕ) (t n : ℕ) → varint_of left ≡ found t n → Fills (types_at left) (length body) → Led t (types_at (drop n left)) body
led left body t n e fills =
    let P : Option (List ℕ) → Type 0 = λ ts. Fills ts (length body) in
    led_is t (types_at (drop n left)) body (subst P (types_one left t n e) fills)

-- the first value is there
pub fills_first : (left body : List ℕ) (t n : ℕ) → varint_of left ≡ found t n → Fills (types_at left) (length body) → size_of t ≤ length body
fills_first left body t n e fills = (led left body t n e fills).0

-- and so are those behind it
pub fills_rest : (left body back : List ℕ) (t n : ℕ) → varint_of left ≡ found t n → Fills (types_at left) (length body) → back ≡ drop (size_of t) body
    → Fills (types_at (drop n left)) (length back)
fills_rest left body back t n e fills b =
    let P : ℕ → Type 0 = λ k. Fills (types_at (drop n left)) k in
    subst P (sym (ap length b ∙ length-drop (size_of t) body)) (led left body t n e fills).1

-- bytes that are serial types begin with one
pub fills_none : (left body : List ℕ) → 0 < length left → varint_of left ≡ None → Fills (types_at left) (length body) → ⊥
fills_none left body some e fills = let P : Option (List ℕ) → Type 0 = λ ts. Fills ts (length body) in subst P (types_none left some e) fills

values_led : (vs : List Value) (left body front : List ℕ) (all : List Value) (t n : ℕ) → varint_of left ≡ found t n → Fills (types_at left) (length body)
    → vs ++ values_at (types_at left) body ≡ all → front ≡ take (size_of t) body → vs ++ value_of t front ∷ values_at (types_at (drop n left)) (drop (size_of t) body) ≡ all
values_led vs left body front all t n e fills same f =
    ap (λ (bytes : List ℕ). vs ++ value_of t bytes ∷ values_at (types_at (drop n left)) (drop (size_of t) body)) f
    ∙ ap (λ (ws : List Value). vs ++ ws) (sym (led left body t n e fills).2) ∙ ap (λ (ts : Option (List ℕ)). vs ++ values_at ts body) (sym (types_one left t n e)) ∙ same

-- a value more
pub values_first : (vs : List Value) (left body : List ℕ) (v : Value) (front back : List ℕ) (all : List Value) (t n : ℕ) → varint_of left ≡ found t n
    → Fills (types_at left) (length body) → vs ++ values_at (types_at left) body ≡ all → v ≡ value_of t front → front ≡ take (size_of t) body
    → back ≡ drop (size_of t) body → (vs ++ v ∷ []) ++ values_at (types_at (drop n left)) back ≡ all
values_first vs left body v front back all t n e fills same w f b =
    rw (w, b, append_assoc) (values_led vs left body front all t n e fills same f)

-- a value that could not be made
pub values_stop : (fault : RecordFault) (vs : List Value) (left body front : List ℕ) (all : List Value) (t n : ℕ) → varint_of left ≡ found t n
    → Fills (types_at left) (length body) → vs ++ values_at (types_at left) body ≡ all → front ≡ take (size_of t) body
    → NoTexts fault (is_text (value_of t front)) → NoTexts fault (are_texts all)
values_stop fault vs left body front all t n e fills same f fails =
    no_values fault vs (value_of t front) (values_at (types_at (drop n left)) (drop (size_of t) body)) all (values_led vs left body front all t n e fills same f) fails

-- no value is left
pub values_end : (vs : List Value) (left body : List ℕ) (all : List Value) → length left ≡ 0 → vs ++ values_at (types_at left) body ≡ all → are_texts vs ≡ true
    → (vs ≡ all) × (are_texts all ≡ true)
unfolding types_at
values_end vs [] body all none same texts = let whole = sym (append-nil vs) ∙ same in (whole, rw (← whole) texts)
values_end vs (b ∷ bs) body all none same texts = absurd (omega (arith, none))
