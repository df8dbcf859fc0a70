-- One of some files is looked at or changed.
use Rattle.std.proofs.Common.{◌≡◌, ℕ, ◌+◌, ◌<◌, List, [], ◌∷◌, length, get_or, set, ap, ◌∙◌, refl, Some, arith, inl, inr}
use Rattle.std.specs.Prelude.{slice_get}
use Rattle.std.proofs.lemmas.List.{map-set, get_or-set_same, get_or-set_other}
use Rattle.std.proofs.Math.Seq.{map-set_same}
use Rattle.std.proofs.lemmas.Bool.{cases_eq}
use Rattle.std.proofs.lemmas.Option.{slice_get-map, slice_get-get_or}
use Rattle.spe_model.specs.declared.file.FileNo.{FileNo}
use Rattle.spe_model.specs.Content.{Content, place_of, file_of, bytes_of, with_file}
use Rattle.spe_model.specs.Trace.{made_by, laid_over}
use Rattle.spe_model.specs.Trace.Operation.{Write}
use Rattle.spe_disk.specs.Held.{HeldFile, HasRoom, contents}

-- the file at a place
pub found : (fs : List HeldFile) (content : Content) (file : FileNo) (i : ℕ) (f : HeldFile) → contents fs ≡ content → i ≡ place_of file → i < length fs → f ≡ get_or fs i f
    → f.bytes ≡ file_of content file
found fs content file i f c p below is =
    let at : slice_get (contents fs) i ≡ Some f.bytes = rw (slice_get-map (λ (x : HeldFile). x.bytes) fs i, slice_get-get_or fs i f below, ← is) refl in
    rw (← c, ← p, at) refl

-- another in its place
pub changed : (fs : List HeldFile) (content : Content) (file : FileNo) (i : ℕ) (new : HeldFile) (bytes : List ℕ) → contents fs ≡ content → i ≡ place_of file → new.bytes ≡ Some bytes
    → contents (set fs i new) ≡ with_file content file bytes
changed fs content file i new bytes c p b =
    let moved = map-set (λ (x : HeldFile). x.bytes) fs i new in
    rw (moved, b, c, p) refl

-- the same in its place
pub unchanged : (fs : List HeldFile) (content : Content) (i : ℕ) (old new : HeldFile) → contents fs ≡ content → old ≡ get_or fs i old → new.bytes ≡ old.bytes
    → contents (set fs i new) ≡ content
unchanged fs content i old new c is same =
    map-set_same (λ (x : HeldFile). x.bytes) fs i new old (same ∙ ap (λ (x : HeldFile). x.bytes) is) ∙ c

-- some bytes written to a file
pub written : (content : Content) (file : FileNo) (at : ℕ) (bytes : List ℕ) → 0 < length bytes → made_by (Write file at bytes) content ≡ with_file content file (laid_over (bytes_of content file) at bytes)
written content file at [] some = absurd (omega (arith, some))
written content file at (b ∷ bs) some = refl

-- one more of the files has room
pub room_more : (fs : List HeldFile) (i room : ℕ) (new : HeldFile) → i < length fs → HasRoom room new → ((k : ℕ) (d : HeldFile) → k < i → HasRoom room (get_or fs k d))
    → (k : ℕ) (d : HeldFile) → k < i + 1 → HasRoom room (get_or (set fs i new) k d)
room_more fs i room new below is all k d less = elim (cases_eq k i) [
  | inl same ↦ let at : get_or (set fs i new) k d ≡ new = rw same (get_or-set_same fs i new d below) in rw at is
  | inr other ↦ rw (get_or-set_other fs i k new d other) (all k d (omega arith))
]
