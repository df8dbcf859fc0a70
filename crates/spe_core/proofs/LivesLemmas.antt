-- Live transactions as the entries of a map.
use Rattle.std.proofs.Common.{◌≡◌, ℕ, List, [], ◌∷◌, ap, ◌∙◌, sym, refl, false, arith, Some, None, Less, Equal, Greater}
use Rattle.std.specs.Ordering.{nat_cmp}
use Rattle.std.specs.declared.cmp.Ordering.{Ordering}
use Rattle.std.specs.List.{AllByRecursion}
use Rattle.std.specs.List.Sorted.{IsStrictlySortedBy}
use Rattle.std.specs.BTreeMap.{insert_entry, is_at}
use Rattle.std.specs.Map.{keys_of, lookup, set_value}
use Rattle.std.proofs.lemmas.Bool.Decides.{nat_tests}
use Rattle.std.proofs.lemmas.Map.Steps.{set_value_same}
use Rattle.spe_core.specs.State.{Live, live_in}
use Rattle.spe_core.specs.Lives.{updated_in, with_live_in}
use Rattle.spe_stored.proofs.SheetsLemmas.{at_is}

-- a look-up finds the transaction
pub live_is : (id : ℕ) (es : List (ℕ × Live)) → lookup (is_at (nat_cmp id)) es ≡ live_in id es
live_is id [] = refl
live_is id (t ∷ ts) = rw (at_is id t.0, live_is id ts) refl

-- none is found below the first
none_above : (id k : ℕ) (es : List (ℕ × Live)) → nat_cmp id k ≡ Less → AllByRecursion (λ (y : ℕ). nat_cmp k y ≡ Less) (keys_of es) → lookup (is_at (nat_cmp id)) es ≡ None
none_above id k [] below above = refl
none_above id k (t ∷ ts) below above =
    let other : is_at (nat_cmp id) t.0 ≡ false = grind (arith, nat_tests, above.0) in
    rw other (none_above id k ts below above.1)

set_by : (id : ℕ) (t w : Live) (e : ℕ × Live) (es : List (ℕ × Live)) (o : Ordering) → nat_cmp id e.0 ≡ o → AllByRecursion (λ (y : ℕ). nat_cmp e.0 y ≡ Less) (keys_of es)
    → lookup (is_at (nat_cmp id)) (e ∷ es) ≡ Some t → (lookup (is_at (nat_cmp id)) es ≡ Some t → set_value (is_at (nat_cmp id)) es w ≡ insert_entry nat_cmp es id w)
    → set_value (is_at (nat_cmp id)) (e ∷ es) w ≡ insert_entry nat_cmp (e ∷ es) id w
set_by id t w e es Less is above found rest =
    let here : lookup (is_at (nat_cmp id)) es ≡ Some t = rw is at found in
    let none = none_above id e.0 es is above in
    absurd cc
set_by id t w e es Equal is above found rest = rw is refl
set_by id t w e es Greater is above found rest = rw is (ap (λ (l : List (ℕ × Live)). e ∷ l) (rest (rw is at found)))

-- a transaction that was found is set
set_is : (id : ℕ) (t w : Live) (es : List (ℕ × Live)) → IsStrictlySortedBy nat_cmp (keys_of es) → lookup (is_at (nat_cmp id)) es ≡ Some t
    → set_value (is_at (nat_cmp id)) es w ≡ insert_entry nat_cmp es id w
unfolding IsStrictlySortedBy
set_is id t w [] sorted found = absurd cc
set_is id t w (e ∷ es) sorted found = set_by id t w e es (nat_cmp id e.0) refl sorted.0 found (set_is id t w es sorted.1)

pub written_is : (id : ℕ) (f : Live → Live) (es new : List (ℕ × Live)) (t w : Live) → IsStrictlySortedBy nat_cmp (keys_of es) → lookup (is_at (nat_cmp id)) es ≡ Some t
    → new ≡ set_value (is_at (nat_cmp id)) es w → w ≡ f t → new ≡ updated_in id f es
written_is id f es new t w sorted found set is =
    let at : live_in id es ≡ Some t = sym (live_is id es) ∙ found in
    rw at (set ∙ set_is id t w es sorted found ∙ ap (λ (x : Live). with_live_in id x es) is)

pub absent_is : (id : ℕ) (f : Live → Live) (es : List (ℕ × Live)) → lookup (is_at (nat_cmp id)) es ≡ None → es ≡ updated_in id f es
absent_is id f es none = let at : live_in id es ≡ None = sym (live_is id es) ∙ none in rw at refl

-- a transaction that stays what it is
pub same_is : (id : ℕ) (f : Live → Live) (es : List (ℕ × Live)) (t : Live) → IsStrictlySortedBy nat_cmp (keys_of es) → live_in id es ≡ Some t → f t ≡ t → updated_in id f es ≡ es
same_is id f es t sorted at same =
    let found : lookup (is_at (nat_cmp id)) es ≡ Some t = live_is id es ∙ at in
    rw at (ap (λ (x : Live). with_live_in id x es) same ∙ sym (set_is id t t es sorted found) ∙ set_value_same (is_at (nat_cmp id)) es t found)

-- transactions that become the same
pub both_is : (id : ℕ) (f g : Live → Live) (es : List (ℕ × Live)) (t : Live) → live_in id es ≡ Some t → f t ≡ g t → updated_in id f es ≡ updated_in id g es
both_is id f g es t at same = rw at (ap (λ (x : Live). with_live_in id x es) same)
