-- Which journals hold a page, once all records were read.
use Rattle.std.proofs.Common.{◌≡◌, ℕ, zero, suc, ◌+◌, ◌≤◌, List, [], ◌∷◌, ◌++◌, take, drop, map, refl, arith, sym, ap, ◌∙◌, Bool, true, false, cond, Option, Some, None, append_assoc, ⊎_elim}
use Rattle.std.specs.Prelude.{◌==◌, ◌||◌, is_some, filter}
use Rattle.std.specs.List.{list_any, flat_map, find}
use Rattle.std.specs.Option.{option_map, option_or}
use Rattle.std.proofs.lemmas.List.{map-append, append-nil}
use Rattle.std.proofs.lemmas.List.Folds.{list_any-append, find-append}
use Rattle.std.proofs.lemmas.Bool.{cases_Bool}
use Rattle.std.proofs.lemmas.Bool.Decides.{nat_tests}
use Rattle.spe_model.specs.Content.{Content}
use Rattle.spe_model.specs.Journal.{Saved, hot_records, numbers_from}
use Rattle.spe_model.specs.Recovery.{is_of, journal_of}
use Rattle.spe_recover.specs.Seen.{Entry, Held, entries_of, entries_from, joined, with_holder, held_after, first_of, rest_after}
use Rattle.spe_recover.proofs.SeenLemmas.{held_after-append}

joined-has : (id : ℕ) (ids : List ℕ) → list_any (λ i. i == id) (joined id ids) ≡ true
joined-has id ids = ⊎_elim
    (λ (has : list_any (λ i. i == id) ids ≡ true). rw (has, has) refl)
    (λ (lacks : list_any (λ i. i == id) ids ≡ false). rw lacks (rw (list_any-append (λ i. i == id) ids (id ∷ []), lacks) (grind (arith, nat_tests))))
    (cases_Bool (list_any (λ i. i == id) ids))

joined-twice : (id : ℕ) (ids : List ℕ) → joined id (joined id ids) ≡ joined id ids
joined-twice id ids = ap (λ (b : Bool). cond b (joined id ids) (joined id ids ++ id ∷ [])) (joined-has id ids)

abbrev if_holds : Bool → ℕ → List ℕ → List ℕ
if_holds b id ids = cond b (joined id ids) ids

by_first : (a b : Bool) (id : ℕ) (ids : List ℕ) → if_holds b id (cond a (joined id ids) ids) ≡ if_holds (a || b) id ids
by_first true true id ids = joined-twice id ids
by_first true false id ids = refl
by_first false b id ids = refl

-- what the records of one journal add
pub held_by_one : (id p : ℕ) (held : Held) (saved : List Saved) → held_after held (entries_of id saved) p ≡ if_holds (list_any (is_of p) saved) id (held p)
held_by_one id p held [] = refl
held_by_one id p held (s ∷ ss) =
    held_by_one id p (with_holder held id s.page) ss ∙ by_first (s.page == p) (list_any (is_of p) ss) id (held p)

-- no journal from n on is among these
abbrev IsFresh : ℕ → List ℕ → Type 0
IsFresh n ids = (i : ℕ) → n ≤ i → list_any (λ j. j == i) ids ≡ false

fresh_next : (b : Bool) (n : ℕ) (ids : List ℕ) → IsFresh n ids → IsFresh (n + 1) (if_holds b n ids)
fresh_next true n ids fresh = λ i above.
    rw (fresh n (omega arith)) (list_any-append (λ j. j == i) ids (n ∷ []) ∙ rw (fresh i (omega arith)) (grind (arith, nat_tests)))
fresh_next false n ids fresh = λ i above. fresh i (omega arith)

joined_fresh : (n : ℕ) (ids rest : List ℕ) → IsFresh n ids → joined n ids ++ rest ≡ ids ++ n ∷ rest
joined_fresh n ids rest fresh = rw (fresh n (omega arith)) (append_assoc ids (n ∷ []) rest)

next_holder : (b : Bool) (n : ℕ) (ids rest : List ℕ) → IsFresh n ids → if_holds b n ids ++ rest ≡ ids ++ cond b (n ∷ rest) rest
next_holder true n ids rest fresh = joined_fresh n ids rest fresh
next_holder false n ids rest fresh = refl

-- the hot records of some journals
abbrev pub entries_in : (ℕ → List Saved) → (n count : ℕ) → List Entry
entries_in hot n count = flat_map (λ i. entries_of i (hot i)) (numbers_from n count)

abbrev pub holds : (ℕ → List Saved) → (p id : ℕ) → Bool
holds hot p id = list_any (is_of p) (hot id)

held_by_all : (hot : ℕ → List Saved) (p n count : ℕ) (held : Held) → IsFresh n (held p)
    → held_after held (entries_in hot n count) p ≡ held p ++ filter (holds hot p) (numbers_from n count)
held_by_all hot p n zero held fresh = sym (append-nil (held p))
held_by_all hot p n (suc count) held fresh =
    let now = held_after held (entries_of n (hot n)) in
    let one : now p ≡ if_holds (holds hot p n) n (held p) = held_by_one n p held (hot n) in
    let next : IsFresh (n + 1) (now p) = rw one (fresh_next (holds hot p n) n (held p) fresh) in
    ap (λ (h : Held). h p) (held_after-append held (entries_of n (hot n)) (entries_in hot (n + 1) count))
    ∙ held_by_all hot p (n + 1) count now next
    ∙ ap (λ (ids : List ℕ). ids ++ filter (holds hot p) (numbers_from (n + 1) count)) one
    ∙ next_holder (holds hot p n) n (held p) (filter (holds hot p) (numbers_from (n + 1) count)) fresh

-- all journals that hold a page, at the end
pub held_at_end : (content : Content) (page_size p : ℕ)
    → held_after (λ q. []) (entries_from content page_size 0 16) p ≡ filter (holds (λ i. hot_records page_size (journal_of content i)) p) (numbers_from 0 16)
unfolding entries_from
held_at_end content page_size p = held_by_all (λ i. hot_records page_size (journal_of content i)) p 0 16 (λ q. []) (λ i above. refl)

-- the rest of the header, at the end
abbrev pub rest_of : Saved → List ℕ
rest_of s = take 76 (drop 24 s.content)

rest_kept : (x : List ℕ) (es : List Entry) → rest_after (Some x) es ≡ Some x
rest_kept x [] = refl
rest_kept x (e ∷ es) = rest_kept x es

abbrev saved_in : List Entry → List Saved
saved_in es = map (λ e. e.1) es

rest_found : (es : List Entry) → rest_after None es ≡ option_map rest_of (find (is_of 1) (saved_in es))
rest_found [] = refl
rest_found (e ∷ es) = by_page (e.1.page == 1) e.1 es (rest_found es)
  where
    by_page : (b : Bool) (s : Saved) (es : List Entry) → rest_after None es ≡ option_map rest_of (find (is_of 1) (saved_in es))
        → rest_after (cond b (Some (rest_of s)) None) es ≡ option_map rest_of (cond b (Some s) (find (is_of 1) (saved_in es)))
    by_page true s es more = rest_kept (rest_of s) es
    by_page false s es more = more

saved_of_one : (id : ℕ) (saved : List Saved) → saved_in (entries_of id saved) ≡ saved
saved_of_one id [] = refl
saved_of_one id (s ∷ ss) = ap (λ (more : List Saved). s ∷ more) (saved_of_one id ss)

saved_of_all : (hot : ℕ → List Saved) (n count : ℕ) → saved_in (entries_in hot n count) ≡ flat_map hot (numbers_from n count)
saved_of_all hot n zero = refl
saved_of_all hot n (suc count) =
    map-append (λ (e : Entry). e.1) (entries_of n (hot n)) (entries_in hot (n + 1) count)
    ∙ ap (λ (front : List Saved). front ++ saved_in (entries_in hot (n + 1) count)) (saved_of_one n (hot n))
    ∙ ap (λ (more : List Saved). hot n ++ more) (saved_of_all hot (n + 1) count)

pub rest_at_end : (content : Content) (page_size : ℕ)
    → rest_after None (entries_from content page_size 0 16)
    ≡ option_map rest_of (find (is_of 1) (flat_map (λ i. hot_records page_size (journal_of content i)) (numbers_from 0 16)))
unfolding entries_from
rest_at_end content page_size =
    rest_found (entries_in (λ i. hot_records page_size (journal_of content i)) 0 16)
    ∙ ap (λ (saved : List Saved). option_map rest_of (find (is_of 1) saved)) (saved_of_all (λ i. hot_records page_size (journal_of content i)) 0 16)

pub find_any : (p : ℕ) (saved : List Saved) → is_some (find (is_of p) saved) ≡ list_any (is_of p) saved
find_any p [] = refl
find_any p (s ∷ ss) = by_test (s.page == p) s (find (is_of p) ss) (list_any (is_of p) ss) (find_any p ss)
  where
    by_test : (b : Bool) (s : Saved) (found : Option Saved) (more : Bool) → is_some found ≡ more → is_some (cond b (Some s) found) ≡ (b || more)
    by_test true s found more same = refl
    by_test false s found more same = same

-- a page that some journal holds is among the hot records, and the other way round
pub first_of-any : (hot : ℕ → List Saved) (p n count : ℕ)
    → is_some (first_of (filter (holds hot p) (numbers_from n count))) ≡ is_some (find (is_of p) (flat_map hot (numbers_from n count)))
first_of-any hot p n zero = refl
first_of-any hot p n (suc count) =
    by_one (holds hot p n) n (filter (holds hot p) (numbers_from (n + 1) count)) (find (is_of p) (hot n)) (find (is_of p) (flat_map hot (numbers_from (n + 1) count)))
    (find_any p (hot n)) (first_of-any hot p (n + 1) count)
    ∙ ap is_some (sym (find-append (is_of p) (hot n) (flat_map hot (numbers_from (n + 1) count))))
  where
    by_one : (b : Bool) (n : ℕ) (ids : List ℕ) (here there : Option Saved) → is_some here ≡ b → is_some (first_of ids) ≡ is_some there
        → is_some (first_of (cond b (n ∷ ids) ids)) ≡ is_some (option_or here there)
    by_one true n ids None there e f = absurd cc
    by_one true n ids (Some s) there e f = refl
    by_one false n ids None there e f = f
    by_one false n ids (Some s) there e f = absurd cc
