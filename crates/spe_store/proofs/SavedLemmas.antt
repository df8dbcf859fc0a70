-- Pages that were journalled, as the entries of a map.
use Rattle.std.proofs.Common.{◌≡◌, ◌≢◌, ◌+◌, ◌-◌, ◌<◌, ◌≤◌, ◌++◌, ℕ, suc, List, [], ◌∷◌, length, take, refl, sym, ap, ◌∙◌, subst, arith, Bool, true, false, Option, Some, None, cond, ⊎_elim, length-append, Less, Equal, Greater}
use Rattle.std.specs.Prelude.{◌==◌, is_some, slice_get, if◌then◌else◌}
use Rattle.std.specs.BTreeMap.{insert_entry, is_at}
use Rattle.std.specs.Map.{lookup, set_value}
use Rattle.std.specs.Option.{option_map}
use Rattle.std.specs.Ordering.{nat_cmp}
use Rattle.std.specs.declared.cmp.Ordering.{Ordering}
use Rattle.std.proofs.lemmas.Bool.{cases_Bool, cases_eq, eq-eqb, ne_eqb}
use Rattle.std.proofs.lemmas.Bool.Decides.{nat_tests}
use Rattle.std.proofs.lemmas.List.Sums.{sum_by_push}
use Rattle.spe_store.specs.declared.saved.Saved.{Saved}
use Rattle.spe_store.specs.Saved.{Adds, AreSaved, Marks, SavedPages, changed_at, changed_of, entry_at, has_saved, saved_at, times_in, unwritten_count}

abbrev bit : Bool → ℕ
bit b = if b then 1 else 0

at_is : (p k : ℕ) → is_at (nat_cmp p) k ≡ (k == p)
at_is p k = grind (arith, nat_tests)

-- a page has bytes where it has an entry
pub saved_some : (p : ℕ) (s : SavedPages) → is_some (saved_at p s) ≡ has_saved p s
saved_some p s = by_entry (entry_at p s.entries)
  where
    by_entry : (o : Option Saved) → is_some (option_map (λ (e : Saved). e.bytes) o) ≡ is_some o
    by_entry None = refl
    by_entry (Some e) = refl

pub absent_changed : (p : ℕ) (s : SavedPages) → saved_at p s ≡ None → changed_at p s ≡ false
absent_changed p s none = by_entry (entry_at p s.entries) none
  where
    by_entry : (o : Option Saved) → option_map (λ (e : Saved). e.bytes) o ≡ None → changed_of o ≡ false
    by_entry None e = refl
    by_entry (Some x) e = absurd cc

-- what a map has after one entry was put into it
abbrev Puts : (page : ℕ) → Saved → (old new : List (ℕ × Saved)) → Type 0
Puts page e old new = (q : ℕ) → entry_at q new ≡ cond (is_at (nat_cmp page) q) (Some e) (entry_at q old)

module _ (page : ℕ) (e : Saved) (old new : List (ℕ × Saved)) (puts : Puts page e old new) where
  pub put_here : entry_at page new ≡ Some e
  put_here = puts page ∙ ap (λ (b : Bool). cond b (Some e) (entry_at page old)) (at_is page page ∙ eq-eqb page page refl)

  pub put_other : (q : ℕ) → q ≢ page → entry_at q new ≡ entry_at q old
  put_other q apart = puts q ∙ ap (λ (b : Bool). cond b (Some e) (entry_at q old)) (at_is page q ∙ ne_eqb q page apart)

  -- a page was journalled
  pub added_is : e.changed ≡ false → entry_at page old ≡ None → (cs : List ℕ) → Adds page e.bytes (record { entries = old; changed = cs }) (record { entries = new; changed = cs })
  added_is fresh none cs = record {
    here = ap (option_map (λ (x : Saved). x.bytes)) put_here;
    other = λ p apart. ap (option_map (λ (x : Saved). x.bytes)) (put_other p apart);
    changed = λ p. ⊎_elim
        (λ (same : p ≡ page). ap (λ (q : ℕ). changed_of (entry_at q new)) same ∙ ap changed_of put_here ∙ fresh ∙ sym (ap (λ (q : ℕ). changed_of (entry_at q old)) same ∙ ap changed_of none))
        (λ (apart : p ≢ page). ap changed_of (put_other p apart))
        (cases_eq p page);
  }

  -- it was noted of a page whether it is written
  pub marked_is : (x : Saved) → entry_at page old ≡ Some x → e.bytes ≡ x.bytes → (cs ds : List ℕ) → Marks page e.changed (record { entries = old; changed = cs }) (record { entries = new; changed = ds })
  marked_is x found same_bytes cs ds = record {
    saved = λ p. ⊎_elim
        (λ (same : p ≡ page).
        ap (λ (q : ℕ). option_map (λ (y : Saved). y.bytes) (entry_at q new)) same
        ∙ ap (option_map (λ (y : Saved). y.bytes)) put_here ∙ ap (λ (b : List ℕ). Some b) same_bytes
        ∙ sym (ap (λ (q : ℕ). option_map (λ (y : Saved). y.bytes) (entry_at q old)) same ∙ ap (option_map (λ (y : Saved). y.bytes)) found))
        (λ (apart : p ≢ page). ap (option_map (λ (y : Saved). y.bytes)) (put_other p apart))
        (cases_eq p page);
    here = λ has. ap changed_of put_here;
    other = λ p apart. ap changed_of (put_other p apart);
  }

-- the page is not among these, which stay
pub unmarked_is : (page : ℕ) (b : Bool) (old new : List (ℕ × Saved)) (cs : List ℕ) → entry_at page old ≡ None → new ≡ old → Marks page b (record { entries = old; changed = cs }) (record { entries = new; changed = cs })
unmarked_is page b old new cs none same = record {
  saved = λ p. ap (λ (es : List (ℕ × Saved)). option_map (λ (y : Saved). y.bytes) (entry_at p es)) same;
  here = λ has. absurd (let impossible : false ≡ true = sym (ap is_some none) ∙ has in cc);
  other = λ p apart. ap (λ (es : List (ℕ × Saved)). changed_of (entry_at p es)) same;
}

-- it was written already
pub again_is : (page : ℕ) (old new : List (ℕ × Saved)) (cs : List ℕ) (x : Saved) → entry_at page old ≡ Some x → x.changed ≡ true → new ≡ old → Marks page true (record { entries = old; changed = cs }) (record { entries = new; changed = cs })
again_is page old new cs x found was same = record {
  saved = λ p. ap (λ (es : List (ℕ × Saved)). option_map (λ (y : Saved). y.bytes) (entry_at p es)) same;
  here = λ has. ap (λ (es : List (ℕ × Saved)). changed_of (entry_at page es)) same ∙ ap changed_of found ∙ was;
  other = λ p apart. ap (λ (es : List (ℕ × Saved)). changed_of (entry_at p es)) same;
}

-- how many are not written
pub few_unwritten : (es : List (ℕ × Saved)) → unwritten_count es ≤ length es
few_unwritten [] = omega arith
few_unwritten (e ∷ es) =
    let rest = few_unwritten es in
    ⊎_elim (λ (is : e.1.changed ≡ true). rw is (omega (arith, rest))) (λ (is_not : e.1.changed ≡ false). rw is_not (omega (arith, rest))) (cases_Bool e.1.changed)

one_more : (test : ℕ → Bool) (es : List (ℕ × Saved)) (w : Saved) → unwritten_count (set_value test es w) ≤ suc (unwritten_count es)
one_more test [] w = omega arith
one_more test (e ∷ es) w =
    let rest = one_more test es w in
    ⊎_elim
    (λ (here : test e.0 ≡ true).
    rw here
    (⊎_elim
    (λ (is : w.changed ≡ true). rw is (⊎_elim (λ (was : e.1.changed ≡ true). rw was (omega arith)) (λ (was : e.1.changed ≡ false). rw was (omega arith)) (cases_Bool e.1.changed)))
    (λ (is_not : w.changed ≡ false). rw is_not (⊎_elim (λ (was : e.1.changed ≡ true). rw was (omega arith)) (λ (was : e.1.changed ≡ false). rw was (omega arith)) (cases_Bool e.1.changed)))
    (cases_Bool w.changed)))
    (λ (other : test e.0 ≡ false).
    rw other (⊎_elim (λ (was : e.1.changed ≡ true). rw was (omega (arith, rest))) (λ (was : e.1.changed ≡ false). rw was (omega (arith, rest))) (cases_Bool e.1.changed)))
    (cases_Bool (test e.0))

one_less : (test : ℕ → Bool) (es : List (ℕ × Saved)) (x w : Saved) → lookup test es ≡ Some x → x.changed ≡ false → w.changed ≡ true → suc (unwritten_count (set_value test es w)) ≡ unwritten_count es
one_less test [] x w found was now = absurd cc
one_less test (e ∷ es) x w found was now = ⊎_elim
    (λ (here : test e.0 ≡ true).
    let same : Some e.1 ≡ Some x = rw here at found in
    let is : e.1 ≡ x = cc in
    let fresh : e.1.changed ≡ false = ap (λ (y : Saved). y.changed) is ∙ was in
    rw (here, now, fresh) refl)
    (λ (other : test e.0 ≡ false).
    let rest = one_less test es x w (rw other at found) was now in
    rw other (⊎_elim (λ (is : e.1.changed ≡ true). rw is rest) (λ (is_not : e.1.changed ≡ false). rw is_not (ap suc rest)) (cases_Bool e.1.changed)))
    (cases_Bool (test e.0))

one_added : (es : List (ℕ × Saved)) (page : ℕ) (w : Saved) → unwritten_count (insert_entry nat_cmp es page w) ≤ suc (unwritten_count es)
one_added [] page w = ⊎_elim (λ (is : w.changed ≡ true). rw is (omega arith)) (λ (is_not : w.changed ≡ false). rw is_not (omega arith)) (cases_Bool w.changed)
one_added (e ∷ es) page w = by_order (nat_cmp page e.0) refl (one_added es page w)
  where
    by_order : (o : Ordering) → nat_cmp page e.0 ≡ o → unwritten_count (insert_entry nat_cmp es page w) ≤ suc (unwritten_count es) → unwritten_count (insert_entry nat_cmp (e ∷ es) page w) ≤ suc (unwritten_count (e ∷ es))
    by_order Less is rest = rw is (⊎_elim (λ (w_is : w.changed ≡ true). rw w_is (omega arith)) (λ (w_not : w.changed ≡ false). rw w_not (omega arith)) (cases_Bool w.changed))
    by_order Equal is rest = rw is
        (⊎_elim
        (λ (w_is : w.changed ≡ true). rw w_is (⊎_elim (λ (was : e.1.changed ≡ true). rw was (omega arith)) (λ (was : e.1.changed ≡ false). rw was (omega arith)) (cases_Bool e.1.changed)))
        (λ (w_not : w.changed ≡ false). rw w_not (⊎_elim (λ (was : e.1.changed ≡ true). rw was (omega arith)) (λ (was : e.1.changed ≡ false). rw was (omega arith)) (cases_Bool e.1.changed)))
        (cases_Bool w.changed))
    by_order Greater is rest = rw is (⊎_elim (λ (was : e.1.changed ≡ true). rw was (omega (arith, rest))) (λ (was : e.1.changed ≡ false). rw was (omega (arith, rest))) (cases_Bool e.1.changed))

-- one number more among some
times_more : (cs : List ℕ) (page q : ℕ) → times_in (cs ++ page ∷ []) q ≡ times_in cs q + bit (page == q)
times_more cs page q = sum_by_push (λ (x : ℕ). cond (x == q) 1 0) cs page

module _ (page : ℕ) (old new : List (ℕ × Saved)) (cs : List ℕ) (capacity : ℕ) (was : AreSaved (record { entries = old; changed = cs }) capacity) where
  -- a page was journalled
  pub add_saved : (e : Saved) → e.changed ≡ false → entry_at page old ≡ None → Puts page e old new → new ≡ insert_entry nat_cmp old page e → (more : ℕ) → suc (length old) + length cs ≤ more
      → AreSaved (record { entries = new; changed = cs }) more
  add_saved e fresh none puts is more room = record {
    each = λ p. was.each p ∙ sym (ap (λ (b : Bool). bit b) ((added_is page e old new puts fresh none cs).changed p));
    room = let few = few_unwritten old in let one : unwritten_count new ≤ suc (unwritten_count old) = subst (λ (es : List (ℕ × Saved)). unwritten_count es ≤ suc (unwritten_count old)) (sym is) (one_added old page e) in omega (arith, few, one, room);
  }

  -- there is room to note a page that was not written
  pub room_left : (x w : Saved) → entry_at page old ≡ Some x → x.changed ≡ false → w.changed ≡ true → length cs < capacity
  room_left x w found fresh now = let less = one_less (is_at (nat_cmp page)) old x w found fresh now in let room = was.room in omega (arith, less, room)

  -- it was noted as written
  pub mark_saved : (x w : Saved) → entry_at page old ≡ Some x → x.changed ≡ false → w.changed ≡ true → Puts page w old new → new ≡ set_value (is_at (nat_cmp page)) old w → (ds : List ℕ) → ds ≡ cs ++ page ∷ [] → (more : ℕ) → capacity ≤ more
      → AreSaved (record { entries = new; changed = ds }) more
  mark_saved x w found fresh now puts is ds list more high = record {
    each = λ p. ap (λ (l : List ℕ). times_in l p) list ∙ times_more cs page p ∙ ⊎_elim
        (λ (same : p ≡ page).
        let before : times_in cs p ≡ 0 = was.each p ∙ ap (λ (b : Bool). bit b) (ap (λ (q : ℕ). changed_of (entry_at q old)) same ∙ ap changed_of found ∙ fresh) in
        let one : bit (page == p) ≡ 1 = ap (λ (b : Bool). bit b) (eq-eqb page p (sym same)) in
        let after : bit (changed_of (entry_at p new)) ≡ 1 = ap (λ (b : Bool). bit b) (ap (λ (q : ℕ). changed_of (entry_at q new)) same ∙ ap changed_of (put_here page w old new puts) ∙ now) in
        omega (arith, before, one, after))
        (λ (apart : p ≢ page).
        let before = was.each p in
        let none : bit (page == p) ≡ 0 = ap (λ (b : Bool). bit b) (ne_eqb page p (λ same. apart (sym same))) in
        let after : bit (changed_of (entry_at p new)) ≡ bit (changed_of (entry_at p old)) = ap (λ (b : Bool). bit b) (ap changed_of (put_other page w old new puts p apart)) in
        omega (arith, before, none, after))
        (cases_eq p page);
    room =
        let less = one_less (is_at (nat_cmp page)) old x w found fresh now in
        let set : unwritten_count new ≡ unwritten_count (set_value (is_at (nat_cmp page)) old w) = ap unwritten_count is in
        let long : length ds ≡ length cs + 1 = ap length list ∙ length-append cs (page ∷ []) in
        let room = was.room in
        omega (arith, less, set, long, room, high);
  }

  -- how often the last page is listed, and that it is written
  last_once : (ds : List ℕ) → cs ≡ ds ++ page ∷ [] → (times_in ds page ≡ 0) × (changed_of (entry_at page old) ≡ true)
  last_once ds list =
      let sum : times_in ds page + bit (page == page) ≡ bit (changed_of (entry_at page old)) = sym (times_more ds page page) ∙ ap (λ (l : List ℕ). times_in l page) (sym list) ∙ was.each page in
      let one : bit (page == page) ≡ 1 = ap (λ (b : Bool). bit b) (eq-eqb page page refl) in
      ⊎_elim
      (λ (is : changed_of (entry_at page old) ≡ true). (let all : bit (changed_of (entry_at page old)) ≡ 1 = ap (λ (b : Bool). bit b) is in omega (arith, sum, one, all), is))
      (λ (is_not : changed_of (entry_at page old) ≡ false). absurd (let all : bit (changed_of (entry_at page old)) ≡ 0 = ap (λ (b : Bool). bit b) is_not in omega (arith, sum, one, all)))
      (cases_Bool (changed_of (entry_at page old)))

  -- the last page has an entry
  pub last_there : (ds : List ℕ) → cs ≡ ds ++ page ∷ [] → entry_at page old ≡ None → ⊥
  last_there ds list none = let both : false ≡ true = sym (ap changed_of none) ∙ (last_once ds list).1 in cc

  -- it was noted as not written any more
  pub unmark_saved : (w : Saved) → w.changed ≡ false → Puts page w old new → new ≡ set_value (is_at (nat_cmp page)) old w → (ds : List ℕ) → cs ≡ ds ++ page ∷ [] → (more : ℕ) → more ≡ capacity
      → AreSaved (record { entries = new; changed = ds }) more
  unmark_saved w now puts is ds list more same_room = record {
    each = λ p. ⊎_elim
        (λ (same : p ≡ page).
        ap (times_in ds) same ∙ (last_once ds list).0 ∙ sym (ap (λ (b : Bool). bit b) (ap (λ (q : ℕ). changed_of (entry_at q new)) same ∙ ap changed_of (put_here page w old new puts) ∙ now)))
        (λ (apart : p ≢ page).
        let sum : times_in ds p + bit (page == p) ≡ bit (changed_of (entry_at p old)) = sym (times_more ds page p) ∙ ap (λ (l : List ℕ). times_in l p) (sym list) ∙ was.each p in
        let none : bit (page == p) ≡ 0 = ap (λ (b : Bool). bit b) (ne_eqb page p (λ same. apart (sym same))) in
        let after : bit (changed_of (entry_at p new)) ≡ bit (changed_of (entry_at p old)) = ap (λ (b : Bool). bit b) (ap changed_of (put_other page w old new puts p apart)) in
        omega (arith, sum, none, after))
        (cases_eq p page);
    room =
        let more_unwritten = one_more (is_at (nat_cmp page)) old w in
        let set : unwritten_count new ≡ unwritten_count (set_value (is_at (nat_cmp page)) old w) = ap unwritten_count is in
        let long : length cs ≡ length ds + 1 = ap length list ∙ length-append ds (page ∷ []) in
        let room = was.room in
        omega (arith, more_unwritten, set, long, room, same_room);
  }

-- none is written where none is listed
pub none_changed : (s : SavedPages) (capacity : ℕ) → AreSaved s capacity → s.changed ≡ [] → (p : ℕ) → changed_at p s ≡ false
none_changed s capacity was none p =
    let sum : bit (changed_at p s) ≡ 0 = sym (was.each p) ∙ ap (λ (l : List ℕ). times_in l p) none in
    ⊎_elim
    (λ (is : changed_at p s ≡ true). absurd (let all : bit (changed_at p s) ≡ 1 = ap (λ (b : Bool). bit b) is in omega (arith, sum, all)))
    (λ (is_not : changed_at p s ≡ false). is_not)
    (cases_Bool (changed_at p s))

-- the last of a list, behind the others
pub last_taken : (cs : List ℕ) (page : ℕ) → slice_get cs (length cs - 1) ≡ Some page → cs ≡ take (length cs - 1) cs ++ page ∷ []
last_taken [] page found = absurd cc
last_taken (c ∷ []) page found =
    let first : length (c ∷ []) - 1 ≡ 0 = omega arith in
    let same : Some c ≡ Some page = ap (slice_get (c ∷ [])) (sym first) ∙ found in
    let is : c ≡ page = cc in
    ap (λ (n : ℕ). n ∷ []) is ∙ sym (ap (λ (n : ℕ). take n (c ∷ []) ++ page ∷ []) first)
last_taken (c ∷ d ∷ cs) page found =
    let later : length (c ∷ d ∷ cs) - 1 ≡ suc (length (d ∷ cs) - 1) = omega arith in
    ap (λ (l : List ℕ). c ∷ l) (last_taken (d ∷ cs) page (ap (slice_get (c ∷ d ∷ cs)) (sym later) ∙ found))
    ∙ sym (ap (λ (n : ℕ). take n (c ∷ d ∷ cs) ++ page ∷ []) later)

pub no_entry : (o : Option Saved) → is_some o ≡ false → o ≡ None
no_entry None e = refl
no_entry (Some x) e = absurd cc
