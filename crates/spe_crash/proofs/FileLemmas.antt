-- Bytes that are laid over a file, and the files of a content.
use Rattle.std.proofs.Common.{◌≡◌, ◌≢◌, ℕ, zero, suc, ◌+◌, ◌-◌, ◌<◌, ◌≤◌, max, List, [], ◌∷◌, ◌++◌, length, take, drop, refl, arith, sym, ap, ◌∙◌, Option, Some, append_assoc, length-append, length-take, length-drop}
use Rattle.std.specs.Prelude.{slice_get, slice_set, unwrap_or}
use Rattle.std.proofs.lemmas.List.{drop-drop, drop_at, drop-append-le, take-append-le, drop-take, take-take, take_at, length-replicate}
use Rattle.spe_model.specs.declared.file.FileNo.{FileNo}
use Rattle.spe_model.specs.declared.file.FileNo.TheVariants.{Database, Journal}
use Rattle.spe_model.specs.Content.{Content, bytes_of, with_file, place_of, flatten, zeros}
use Rattle.spe_model.specs.Recovery.{journal_of}
use Rattle.spe_model.specs.Trace.{laid_over}

-- what a write of so many bytes leaves
pub record IsLaid (old new : List ℕ) (at size : ℕ) : Type 0 where
  pub long : length new ≡ max (length old) (at + size)
  pub before : (from n : ℕ) → from + n ≤ at → from + n ≤ length old → take n (drop from new) ≡ take n (drop from old)
  pub behind : (from : ℕ) → at + size ≤ from → drop from new ≡ drop from old

-- the part of a file before a place, with zeros up to it
abbrev front_to : List ℕ → ℕ → List ℕ
front_to old at = take at (old ++ zeros (at - length old))

front_length : (old : List ℕ) (at : ℕ) → length (front_to old at) ≡ at
front_length old at =
    let size : length (zeros (at - length old)) ≡ at - length old = length-replicate (at - length old) 0 in
    omega (arith, length-take at (old ++ zeros (at - length old)), length-append old (zeros (at - length old)), size)

front_part : (old : List ℕ) (at from n : ℕ) → from + n ≤ at → from + n ≤ length old → take n (drop from (front_to old at)) ≡ take n (drop from old)
front_part old at from n fits within =
    let padded = old ++ zeros (at - length old) in
    let split : at ≡ from + (at - from) = omega arith in
    ap (λ (m : ℕ). take n (drop from (take m padded))) split
    ∙ ap (take n) (drop-take from (at - from) padded)
    ∙ take-take n (at - from) (drop from padded) (omega arith)
    ∙ ap (take n) (drop-append-le from old (zeros (at - length old)) (omega arith))
    ∙ take-append-le n (drop from old) (zeros (at - length old)) (omega (arith, length-drop from old))

pub laid : (old : List ℕ) (at : ℕ) (bytes : List ℕ) → IsLaid old (laid_over old at bytes) at (length bytes)
laid old at bytes =
    let front = front_to old at in
    let back = drop (at + length bytes) old in
    let size : length front ≡ at = front_length old at in
    let apart : laid_over old at bytes ≡ front ++ (bytes ++ back) = append_assoc front bytes back in
    record {
      long = omega (arith, length-append (front ++ bytes) back, length-append front bytes, size, length-drop (at + length bytes) old);
      before = λ from n fits within.
          ap (λ (file : List ℕ). take n (drop from file)) apart
          ∙ ap (take n) (drop-append-le from front (bytes ++ back) (omega (arith, size)))
          ∙ take-append-le n (drop from front) (bytes ++ back) (omega (arith, size, length-drop from front))
          ∙ front_part old at from n fits within;
      behind = λ from past.
          let split : from ≡ at + length bytes + (from - (at + length bytes)) = omega arith in
          ap (λ (m : ℕ). drop m (laid_over old at bytes)) split
          ∙ sym (drop-drop (from - (at + length bytes)) (at + length bytes) (laid_over old at bytes))
          ∙ ap (drop (from - (at + length bytes))) (drop_at (front ++ bytes) back (at + length bytes) (omega (arith, size, length-append front bytes)))
          ∙ drop-drop (from - (at + length bytes)) (at + length bytes) old
          ∙ ap (λ (m : ℕ). drop m old) (sym split);
    }

-- the bytes that were laid
pub laid_there : (old : List ℕ) (at : ℕ) (bytes : List ℕ) → take (length bytes) (drop at (laid_over old at bytes)) ≡ bytes
laid_there old at bytes =
    let front = front_to old at in
    let back = drop (at + length bytes) old in
    ap (λ (file : List ℕ). take (length bytes) (drop at file)) (append_assoc front bytes back)
    ∙ ap (take (length bytes)) (drop_at front (bytes ++ back) at (front_length old at))
    ∙ take_at bytes back (length bytes) refl

get_set : {X : Type 0} (xs : List X) (i j : ℕ) (x : X) → i ≢ j → slice_get (slice_set xs i x) j ≡ slice_get xs j
get_set [] i j x apart = refl
get_set (y ∷ ys) zero zero x apart = absurd (apart refl)
get_set (y ∷ ys) zero (suc j) x apart = refl
get_set (y ∷ ys) (suc i) zero x apart = refl
get_set (y ∷ ys) (suc i) (suc j) x apart = get_set ys i j x (λ same. apart (ap suc same))

-- another file stays
pub file_stays : (content : Content) (file other : FileNo) (bytes : List ℕ) → place_of file ≢ place_of other → bytes_of (with_file content file bytes) other ≡ bytes_of content other
file_stays content file other bytes apart =
    ap (λ (f : Option (Option (List ℕ))). unwrap_or (flatten f) []) (get_set content (place_of file) (place_of other) (Some bytes) apart)

-- a file that has bytes can be replaced
replaced : (content : Content) (n : ℕ) (bytes : List ℕ) → 0 < length (unwrap_or (flatten (slice_get content n)) [])
    → unwrap_or (flatten (slice_get (slice_set content n (Some bytes)) n)) [] ≡ bytes
replaced [] n bytes some = absurd (omega arith)
replaced (f ∷ fs) zero bytes some = refl
replaced (f ∷ fs) (suc n) bytes some = replaced fs n bytes some

pub file_replaced : (content : Content) (file : FileNo) (bytes : List ℕ) → 0 < length (bytes_of content file) → bytes_of (with_file content file bytes) file ≡ bytes
file_replaced content file bytes some = replaced content (place_of file) bytes some

-- the database alone changes
pub database_leaves : (content : Content) (bytes : List ℕ) (id : ℕ) → journal_of (with_file content Database bytes) id ≡ journal_of content id
database_leaves content bytes id = file_stays content Database (Journal id) bytes (omega arith)

-- a journal changes, and the database stays
pub journal_leaves : (content : Content) (id : ℕ) (bytes : List ℕ) → bytes_of (with_file content (Journal id) bytes) Database ≡ bytes_of content Database
journal_leaves content id bytes = file_stays content (Journal id) Database bytes (omega arith)
