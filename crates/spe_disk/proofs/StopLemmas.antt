-- Operations made one after another, and what a stop leaves of them.
use Rattle.std.proofs.Common.{◌≡◌, ℕ, zero, suc, inl, inr, List, [], ◌∷◌, ◌++◌, length, take, drop, ap, ◌∙◌, sym, refl, min}
use Rattle.std.proofs.lemmas.List.{take_min, drop_min, take-map, drop-map, take-append-drop}
use Rattle.spe_model.specs.Content.{Content}
use Rattle.spe_model.specs.Trace.{Operation, after, made_by, IsCut}
use Rattle.spe_disk.specs.declared.entry.Entry.{Entry}
use Rattle.spe_disk.specs.Log.{operation_in, operations_in}
use Rattle.spe_disk.specs.Stop.{torn, cut_at}

pub after-append : (content : Content) (xs ys : List Operation) → after content (xs ++ ys) ≡ after (after content xs) ys
after-append content [] ys = refl
after-append content (x ∷ xs) ys = after-append (made_by x content) xs ys

-- the operations before a stop, and then the bytes of the next
pub stopped : (store : List ℕ) (entries front rest : List Entry) (content first played : Content) (trace : List Operation) (n bytes whole : ℕ)
    → operations_in store entries ≡ trace → whole ≡ min n (length entries) → front ≡ take whole entries → rest ≡ drop whole entries
    → played ≡ after first (operations_in store front) → content ≡ after played (torn (operations_in store rest) bytes)
    → content ≡ after first (cut_at trace n bytes)
stopped store entries front rest content first played trace n bytes whole t w f r p c =
    let before : take whole entries ≡ take n entries = ap (λ (i : ℕ). take i entries) w ∙ take_min n entries in
    let behind : drop whole entries ≡ drop n entries = ap (λ (i : ℕ). drop i entries) w ∙ drop_min n entries in
    let made : operations_in store front ≡ take n trace = ap (operations_in store) (f ∙ before) ∙ sym (take-map (operation_in store) n entries) ∙ ap (λ (os : List Operation). take n os) t in
    let next : operations_in store rest ≡ drop n trace = ap (operations_in store) (r ∙ behind) ∙ sym (drop-map (operation_in store) n entries) ∙ ap (λ (os : List Operation). drop n os) t in
    c ∙ rw (p, made, next) (sym (after-append first (take n trace) (torn (drop n trace) bytes)))

pub made_last : (content : Content) (made : List Operation) (last : Operation) → after content (made ++ last ∷ []) ≡ made_by last (after content made)
made_last content made last = after-append content made (last ∷ [])

-- it is a cut of the trace
pub cut_is : (trace : List Operation) (n bytes : ℕ) → IsCut trace (cut_at trace n bytes)
cut_is [] zero bytes = tt
cut_is [] (suc n) bytes = tt
cut_is (Operation.Write file at whole ∷ os) zero bytes = inr ((refl, refl, (drop bytes whole, sym (take-append-drop bytes whole))), refl)
cut_is (Operation.Cut file size ∷ os) zero bytes = tt
cut_is (o ∷ os) (suc n) bytes = inl (refl, cut_is os n bytes)
