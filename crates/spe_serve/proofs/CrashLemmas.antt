-- What a crash leaves of an answer.
use Rattle.std.proofs.Common.{◌≡◌, ◌≢◌, ℕ, zero, suc, ◌+◌, List, [], ◌∷◌, refl, arith, sym, ap, subst, ◌∙◌, Bool, true, false, Option, Some, None, Result, Ok, Err, ⊎_elim}
use Rattle.std.specs.Prelude.{is_some, slice_get, slice_set, unwrap_or}
use Rattle.spe_model.specs.declared.file.FileNo.{FileNo}
use Rattle.spe_model.specs.declared.file.FileNo.TheVariants.{Database, Journal}
use Rattle.spe_model.specs.declared.recovery.RecoverFault.{RecoverFault}
use Rattle.spe_model.specs.Content.{Content, bytes_of, file_of, flatten, with_file}
use Rattle.spe_model.specs.Covered.{Covered, IsCovered}
use Rattle.spe_model.specs.Recovery.{recovered}
use Rattle.spe_model.specs.Trace.{Operation, IsCut, IsTorn, after, made_by}
use Rattle.spe_model.specs.Trace.Operation.{Write, Cut}

get_other : {X : Type 0} (xs : List X) (i j : ℕ) (x : X) → i ≢ j → slice_get (slice_set xs i x) j ≡ slice_get xs j
get_other [] i j x apart = refl
get_other (y ∷ ys) zero zero x apart = absurd (apart refl)
get_other (y ∷ ys) zero (suc j) x apart = refl
get_other (y ∷ ys) (suc i) zero x apart = refl
get_other (y ∷ ys) (suc i) (suc j) x apart = get_other ys i j x (λ same. apart (ap suc same))

-- a write of a journal, or a cut of one, leaves the database file
journal_leaves : (content : Content) (id : ℕ) (bytes : List ℕ) → file_of (with_file content (Journal id) bytes) Database ≡ file_of content Database
journal_leaves content id bytes = ap flatten (get_other content (id + 1) 0 (Some bytes) (λ same. omega (arith, same)))

write_leaves : (content : Content) (id at : ℕ) (bytes : List ℕ) → file_of (made_by (Write (Journal id) at bytes) content) Database ≡ file_of content Database
write_leaves content id at [] = refl
write_leaves content id at (b ∷ bs) = journal_leaves content id _

set_there : (content : Content) (bytes : List ℕ) → is_some (file_of content Database) ≡ true → is_some (file_of (with_file content Database bytes) Database) ≡ true
set_there [] bytes there = there
set_there (f ∷ fs) bytes there = refl

made_there : (o : Operation) (content : Content) → is_some (file_of content Database) ≡ true → is_some (file_of (made_by o content) Database) ≡ true
made_there (Write Database at []) content there = there
made_there (Write Database at (b ∷ bs)) content there = set_there content _ there
made_there (Write (Journal id) at bytes) content there = ap is_some (write_leaves content id at bytes) ∙ there
made_there (Cut Database size) content there = set_there content _ there
made_there (Cut (Journal id) size) content there = ap is_some (journal_leaves content id _) ∙ there

pub after_there : (os : List Operation) (content : Content) → is_some (file_of content Database) ≡ true → is_some (file_of (after content os) Database) ≡ true
after_there [] content there = there
after_there (o ∷ os) content there = after_there os (made_by o content) (made_there o content there)

-- without a file nothing is recovered
abbrev pub is_refused : Result (List (List ℕ)) RecoverFault → Bool
is_refused (Ok pages) = false
is_refused (Err fault) = true

pub absent_refused : (content : Content) → file_of content Database ≡ None → is_refused (recovered content) ≡ true
unfolding recovered
absent_refused content absent =
    let none : bytes_of content Database ≡ [] = ap (λ (f : Option (List ℕ)). unwrap_or f []) absent in
    rw none refl

not_recovered : (content : Content) (pages : List (List ℕ)) → file_of content Database ≡ None → recovered content ≡ Ok pages → ⊥
not_recovered content pages absent recovers = let refused = sym (ap is_refused recovers) ∙ absent_refused content absent in cc

made_absent : (o : Operation) (content : Content) → IsCovered content o → file_of content Database ≡ None → file_of (made_by o content) Database ≡ None
made_absent (Write Database at bytes) content covered absent = absurd (not_recovered content covered.pages absent covered.recovers)
made_absent (Write (Journal id) at bytes) content covered absent = write_leaves content id at bytes ∙ absent
made_absent (Cut Database size) content covered absent = absurd (not_recovered content covered.pages absent covered.recovers)
made_absent (Cut (Journal id) size) content covered absent = journal_leaves content id _ ∙ absent

torn_absent : (o t : Operation) (content : Content) → IsCovered content o → IsTorn o t → file_of content Database ≡ None → file_of (made_by t content) Database ≡ None
torn_absent (Write Database at bytes) t content covered torn absent = absurd (not_recovered content covered.pages absent covered.recovers)
torn_absent (Write (Journal id) at bytes) (Write file place front) content covered torn absent =
    subst (λ (f : FileNo). file_of (made_by (Write f place front) content) Database ≡ None) torn.0 (write_leaves content id place front ∙ absent)
torn_absent (Write (Journal id) at bytes) (Cut file size) content covered torn absent = absurd torn
torn_absent (Cut file size) t content covered torn absent = absurd torn

pub cut_absent : (os cut : List Operation) (content : Content) → Covered content os → IsCut os cut → file_of content Database ≡ None → file_of (after content cut) Database ≡ None
cut_absent os [] content covered is absent = absent
cut_absent [] (c ∷ cs) content covered is absent = absurd is
cut_absent (o ∷ os) (c ∷ cs) content covered is absent = ⊎_elim
    (λ (whole : (c ≡ o) × IsCut os cs).
    rw whole.0 (cut_absent os cs (made_by o content) covered.1 whole.1 (made_absent o content covered.0 absent)))
    (λ (torn : IsTorn o c × (cs ≡ [])). rw torn.1 (torn_absent o c content covered.0 torn.0 absent))
    is
