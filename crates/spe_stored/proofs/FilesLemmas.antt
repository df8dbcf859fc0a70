-- One file of a content is changed, and becomes again what it was.
use Rattle.std.proofs.Common.{◌≡◌, ℕ, zero, suc, ◌+◌, ◌≤◌, List, [], ◌∷◌, length, set, ap, refl, Some, unwrap_or, add-one, arith}
use Rattle.std.specs.Prelude.{Option, slice_get}
use Rattle.spe_model.specs.declared.file.FileNo.{FileNo}
use Rattle.spe_model.specs.declared.file.FileNo.TheVariants.{Database, Journal}
use Rattle.spe_model.specs.Content.{Content, place_of, flatten, bytes_of}
use Rattle.spe_model.specs.Trace.{laid_over, made_by}
use Rattle.spe_model.specs.Trace.Operation.{Write}
use Rattle.spe_stored.specs.declared.stored.Kept.{Kept}
use Rattle.spe_stored.specs.Kept.{Keeps, TakesFileBack}
use Rattle.spe_stored.proofs.KeptLemmas.{laid_longer}

-- a place that was set, and set to what it was
got_at : {X : Type 0} (xs : List X) (i : ℕ) (x y : X) → slice_get xs i ≡ Some x → slice_get (set xs i y) i ≡ Some y
got_at [] i x y found = absurd cc
got_at (z ∷ zs) zero x y found = refl
got_at (z ∷ zs) (suc i) x y found = got_at zs i x y found

set_back : {X : Type 0} (xs : List X) (i : ℕ) (x y : X) → slice_get xs i ≡ Some x → set (set xs i y) i x ≡ xs
set_back [] i x y found = absurd cc
set_back (z ∷ zs) zero x y found = cc
set_back {X = X} (z ∷ zs) (suc i) x y found = ap (λ (l : List X). z ∷ l) (set_back zs i x y found)

set_same : {X : Type 0} (xs : List X) (i : ℕ) (x : X) → slice_get xs i ≡ Some x → set xs i x ≡ xs
set_same [] i x found = absurd cc
set_same (z ∷ zs) zero x found = cc
set_same {X = X} (z ∷ zs) (suc i) x found = ap (λ (l : List X). z ∷ l) (set_same zs i x found)

bytes_at : (content : Content) (file : FileNo) (held : Option (List ℕ)) → slice_get content (place_of file) ≡ Some held → bytes_of content file ≡ unwrap_or held []
bytes_at content file held found = ap (λ (o : Option (Option (List ℕ))). unwrap_or (flatten o) []) found

-- what is kept of a file is kept of the content
pub file_keeps : (content : Content) (file : FileNo) (held : Option (List ℕ)) (at count : ℕ) (kept : Kept) → slice_get content (place_of file) ≡ Some held → Keeps kept held at count
    → (bytes : List ℕ) → length bytes ≡ count → TakesFileBack kept file (made_by (Write file at bytes) content) content
file_keeps content file held at count kept found keeps [] n =
    let now = bytes_at content file held found in
    record {
      fits = rw now keeps.same.fits;
      is = rw (now, keeps.same.is) (set_same content (place_of file) held found);
    }
file_keeps content file held at count kept found keeps (b ∷ bs) n =
    let w = keeps.written (b ∷ bs) n in
    let old = bytes_at content file held found in
    let new : Option (List ℕ) = Some (laid_over (bytes_of content file) at (b ∷ bs)) in
    let after : Content = set content (place_of file) new in
    let now : bytes_of after file ≡ laid_over (bytes_of content file) at (b ∷ bs) =
    bytes_at after file new (got_at content (place_of file) held new found) in
    record {
      fits = rw (now, old) w.fits;
      is = rw (now, old, w.is) (set_back content (place_of file) held (Some (laid_over (unwrap_or held []) at (b ∷ bs))) found);
    }

-- a write takes no bytes from a file
database_longer : (content : Content) (at : ℕ) (bytes : List ℕ) → 1 ≤ length (bytes_of content Database) → length (bytes_of content Database) ≤ length (bytes_of (made_by (Write Database at bytes) content) Database)
database_longer content at [] there = omega arith
database_longer [] at (b ∷ bs) there = absurd (omega arith)
database_longer (f ∷ fs) at (b ∷ bs) there = laid_longer (bytes_of (f ∷ fs) Database) (b ∷ bs) at

journal_apart : (content : Content) (n : ℕ) (x : Option (List ℕ)) → bytes_of (set content (n + 1) x) Database ≡ bytes_of content Database
journal_apart [] n x = refl
journal_apart (f ∷ fs) n x = rw (add-one n) refl

pub front_stays : (content : Content) (file : FileNo) (at : ℕ) (bytes : List ℕ) → 100 ≤ length (bytes_of content Database) → 100 ≤ length (bytes_of (made_by (Write file at bytes) content) Database)
front_stays content Database at bytes long = omega (arith, database_longer content at bytes (omega arith))
front_stays content (Journal n) at [] long = long
front_stays content (Journal n) at (b ∷ bs) long = rw (journal_apart content n (Some (laid_over (bytes_of content (Journal n)) at (b ∷ bs)))) long
