-- Texts with their quotes doubled, and the hexadecimal digits of bytes.
use Rattle.std.proofs.Common.{◌≡◌, ℕ, zero, suc, ◌<◌, ◌==◌, Bool, true, false, List, [], ◌∷◌, ◌++◌, ap, ◌∙◌, arith, length, take, drop, refl}
use Rattle.std.proofs.lemmas.Bool.{eqb-true}
use Rattle.memchr.specs.Find.{Nowhere, Passes, is_byte}
use Rattle.hex.specs.Hex.{encode_lower, encode_with}
use Rattle.spe_render.specs.Values.{quoted, quoted_byte}

pub encode_nil : encode_lower [] ≡ []
unfolding encode_with
encode_nil = refl

pub encode_cons : (b : ℕ) (bs : List ℕ) → encode_lower (b ∷ bs) ≡ encode_lower (b ∷ []) ++ encode_lower bs
unfolding encode_with
encode_cons b bs = refl

-- a byte that is no quote stands once
once : (b : ℕ) (found : Bool) → (b == 39) ≡ found → ¬ (found ≡ true) → quoted_byte b ≡ b ∷ []
once b true is other = absurd (other refl)
once b false is other = rw is refl

-- a text without quotes
pub quoted_none : (text : List ℕ) → Nowhere (Passes (is_byte 39) text) 0 (length text) → quoted text ≡ text
quoted_none [] none = refl
quoted_none (b ∷ bs) none =
    ap (λ (front : List ℕ). front ++ quoted bs) (once b (b == 39) refl (none 0 (omega arith) (omega arith)))
    ∙ ap (λ (rest : List ℕ). b ∷ rest) (quoted_none bs (λ k low high. none (suc k) (omega arith) (omega (arith, high))))

-- a text up to its first quote, the quote twice, and the rest
pub quoted_run : (text : List ℕ) (place : ℕ) → place < length text → Nowhere (Passes (is_byte 39) text) 0 place → Passes (is_byte 39) text place
    → quoted text ≡ (take place text ++ 39 ∷ 39 ∷ []) ++ quoted (drop 1 (drop place text))
quoted_run [] place high none here = absurd (omega (arith, high))
quoted_run (b ∷ bs) zero high none here = let quote : b ≡ 39 = eqb-true b 39 here in rw quote refl
quoted_run (b ∷ bs) (suc place) high none here =
    ap (λ (front : List ℕ). front ++ quoted bs) (once b (b == 39) refl (none 0 (omega arith) (omega arith)))
    ∙ ap (λ (rest : List ℕ). b ∷ rest) (quoted_run bs place (omega (arith, high)) (λ k low under. none (suc k) (omega arith) (omega (arith, under))) here)
