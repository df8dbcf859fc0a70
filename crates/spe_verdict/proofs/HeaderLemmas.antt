-- The law for pages with a legal header.
use Rattle.std.proofs.Common.{◌≡◌, ℕ, ◌+◌, ◌≤◌, List, [], ◌∷◌, take, refl, sym, subst, ◌∙◌, arith, Bool, true, false, Option, Some, None, Ok}
use Rattle.std.specs.Prelude.{cond, slice_index}
use Rattle.std.specs.List.{find}
use Rattle.std.proofs.lemmas.Bool.{ltb-false}
use Rattle.spe_model.specs.declared.header.Header.{Header}
use Rattle.spe_model.specs.declared.header.HeaderFault.{HeaderFault}
use Rattle.spe_model.specs.Header.{faults, fields, has_fault, header_of, page_size_at, unless}
use Rattle.spe_model.specs.Served.{usable_in}
use Rattle.spe_model.specs.Standing.{StandsFor}
use Rattle.spe_verdict.specs.Law.{LegalUnbrokenStand, LegalStandingAreUnbroken}
use Rattle.spe_verdict.proofs.StandLemmas.{complete, sound}

-- no element passes
abbrev NonePasses : {X : Type 0} → (X → Bool) → List X → Type 0
NonePasses test [] = Unit {0}
NonePasses test (x ∷ xs) = (test x ≡ false) × NonePasses test xs

found_or : {X : Type 0} (b : Bool) (x : X) (rest : Option X) → cond b (Some x) rest ≡ None → (b ≡ false) × (rest ≡ None)
found_or true x rest none = absurd cc
found_or false x rest none = (refl, none)

none_passes : {X : Type 0} (test : X → Bool) (xs : List X) → find test xs ≡ None → NonePasses test xs
none_passes test [] none = tt
none_passes test (x ∷ xs) none =
    let first = found_or (test x) x (find test xs) none in (first.0, none_passes test xs first.1)

no_fault : (fault : Option HeaderFault) (made header : Header) → unless fault made ≡ Ok header → (fault ≡ None) × (made ≡ header)
no_fault None made header is = (refl, cc)
no_fault (Some fault) made header is = absurd cc

-- a legal header leaves enough of each page
pub legal_usable : (bytes : List ℕ) (header : Header) → header_of bytes ≡ Ok header → 480 ≤ usable_in header
legal_usable bytes header is =
    let found = no_fault (find (has_fault bytes) faults) (fields bytes) header is in
    let none = none_passes (has_fault bytes) faults found.0 in
    let few : slice_index bytes 20 + 480 ≤ page_size_at bytes = ltb-false (page_size_at bytes) (slice_index bytes 20 + 480) none.1.1.1.1.1.1.0 in
    subst (λ (h : Header). 480 ≤ usable_in h) found.1 (omega arith)

pub legal_sound : LegalUnbrokenStand
legal_sound count pages header legal none =
    let found = sound (usable_in header) count pages (legal_usable (take 100 (pages 1)) header legal) none in
    (found.0, record { header = header; legal = legal; body = found.1 })

pub legal_complete : LegalStandingAreUnbroken
legal_complete count pages db header legal standing =
    let both : Ok header ≡ Ok standing.header = sym legal ∙ standing.legal in
    let same : standing.header ≡ header = cc in
    complete (usable_in header) count pages db (legal_usable (take 100 (pages 1)) header legal)
    (subst (λ (h : Header). StandsFor (usable_in h) count pages db) same standing.body)
