-- What is kept of records that are read one after the other.
use Rattle.std.proofs.Common.{◌≡◌, ℕ, List, [], ◌∷◌, ◌++◌, refl, sym, ap, ◌∙◌, Option}
use Rattle.spe_recover.specs.Seen.{Entry, Held, Notes, with_holder, held_after, rest_after, rest_in, or_else}
use Rattle.spe_recover.specs.declared.seen.Seen.{Seen}

pub held_after-append : (held : Held) (es fs : List Entry) → held_after held (es ++ fs) ≡ held_after (held_after held es) fs
held_after-append held [] fs = refl
held_after-append held (e ∷ es) fs = held_after-append (with_holder held e.0 e.1.page) es fs

pub rest_after-append : (rest : Option (List ℕ)) (es fs : List Entry) → rest_after rest (es ++ fs) ≡ rest_after (rest_after rest es) fs
rest_after-append rest [] fs = refl
rest_after-append rest (e ∷ es) fs = rest_after-append (or_else rest (rest_in e.1)) es fs

pub Notes-nothing : (seen : Seen) → Notes [] seen seen
Notes-nothing seen = record { held = λ held is. is; rest = refl }

pub Notes-append : (es fs : List Entry) (first middle last : Seen) → Notes es first middle → Notes fs middle last → Notes (es ++ fs) first last
Notes-append es fs first middle last a b = record {
  held = λ held is. rw held_after-append (b.held (held_after held es) (a.held held is));
  rest = b.rest ∙ ap (λ (rest : Option (List ℕ)). rest_after rest fs) a.rest ∙ sym (rest_after-append first.rest es fs);
}
