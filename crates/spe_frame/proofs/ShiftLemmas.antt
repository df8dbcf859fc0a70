-- Changes follow one another.
use Rattle.std.proofs.Common.{◌≡◌, ◌⊎◌, ℕ, ◌+◌, ◌<◌, ◌≤◌, ◌∙◌, inl, inr, List, [], ◌∷◌, ◌++◌, true, false, refl, sym, ap, ⊎_elim, arith}
use Rattle.std.specs.Prelude.{◌==◌, if◌then◌else◌, IsTrue}
use Rattle.std.proofs.lemmas.Bool.{cases_Bool, cases_lt, eqb-true}
use Rattle.spe_model.specs.Paging.{Paging}
use Rattle.spe_space.specs.declared.pages.Pages.{Ghosts}
use Rattle.spe_space.specs.Calls.{sight}
use Rattle.spe_space.specs.Front.{list_in, number_in}
use Rattle.spe_frame.specs.Times.{AreSame, times}
use Rattle.spe_frame.specs.Held.{AreHeld, IsAtHand, IsOthers, Shifts}
use Rattle.spe_frame.specs.Laws.{HeldApart, HeldNone, ShiftsAlike, ShiftsBeside, ShiftsBoth, ShiftsNone, SparesAlike, SparesBeside, SparesBoth, SparesMore}
use Rattle.spe_frame.proofs.HeadLemmas.{body_both, head_both}
use Rattle.spe_frame.proofs.HeldLemmas.{held_again, held_left}
use Rattle.spe_frame.proofs.TimesLemmas.{times-append}

pub shifts_none : {P : Type 0} (g : Ghosts P) → ShiftsNone g
shifts_none g s pages own ready = record {
  spares = record {
    seen = λ n other not_first. refl;
    laid = λ n other not_first. refl;
    head = record { first = refl; middle = refl; last = refl };
    body = λ lacks. record { bytes = refl; long = refl };
    counted = λ counted. counted;
    bound = inl refl;
    few = omega arith;
    sizes = record { size = refl; used = refl; limit = refl };
  };
  others = λ n other. other;
  front = λ lacks. lacks;
  held = λ held. held;
  ready = ready;
  more = omega arith;
  found = λ n here. here;
  added = λ n above under. absurd (omega (arith, above, under));
}

bound_both : (a b c limit limit' : ℕ) → limit' ≡ limit → (b ≡ a) ⊎ (b ≤ limit) → (c ≡ b) ⊎ (c ≤ limit') → (c ≡ a) ⊎ (c ≤ limit)
bound_both a b c limit limit' same (inl e) (inl f) = inl (f ∙ e)
bound_both a b c limit limit' same (inr under) (inl f) = inr (omega (arith, f, under))
bound_both a b c limit limit' same x (inr under) = inr (omega (arith, same, under))

pub spares_both : {P : Type 0} (g : Ghosts P) → SparesBoth g
spares_both g a b c pages xs ys m n x y =
    let z = x.spares in
    record {
      seen = λ k other not_first. y.seen k (x.others k other) not_first ∙ z.seen k other not_first;
      laid = λ k other not_first. y.laid k (x.others k other) not_first ∙ z.laid k other not_first;
      head = head_both (sight g a pages 1) (sight g b pages 1) (sight g c pages 1) z.head y.head;
      body = λ lacks. body_both (sight g a pages 1) (sight g b pages 1) (sight g c pages 1) (z.body lacks) (y.body (x.front lacks));
      counted = λ counted. y.counted (z.counted counted);
      bound = bound_both (number_in (sight g a pages)) (number_in (sight g b pages)) (number_in (sight g c pages)) (g.limit a) (g.limit b) z.sizes.limit z.bound y.bound;
      few = omega (arith, z.few, y.few);
      sizes = record { size = y.sizes.size ∙ z.sizes.size; used = y.sizes.used ∙ z.sizes.used; limit = y.sizes.limit ∙ z.sizes.limit };
    }

pub spares_more : {P : Type 0} (g : Ghosts P) → SparesMore g
spares_more g old new pages xs m n less x = record {
  seen = x.seen;
  laid = x.laid;
  head = x.head;
  body = x.body;
  counted = x.counted;
  bound = x.bound;
  few = omega (arith, x.few, less);
  sizes = x.sizes;
}

pub shifts_both : {P : Type 0} (g : Ghosts P) → ShiftsBoth g
shifts_both g a b c pages xs ys zs m n x y = record {
  spares = spares_both g a b c pages xs ys m n x y.spares;
  others = λ k other. y.others k (x.others k other);
  front = λ lacks. y.front (x.front lacks);
  held = λ held. y.held (x.held held);
  ready = y.ready;
  more = omega (arith, x.more, y.more);
  found = λ k here. y.found k (x.found k here);
  added = λ k above under. ⊎_elim
      (λ (later : number_in (sight g b pages) < k). y.added k later under)
      (λ (sooner : k ≤ number_in (sight g b pages)). y.found k (x.added k above sooner))
      (cases_lt (number_in (sight g b pages)) k);
}

hand_left : {P : Type 0} (g : Ghosts P) (s : P) (pages : Paging) (xs more : List ℕ) (n : ℕ) → IsAtHand g s pages xs n → IsAtHand g s pages (xs ++ more) n
hand_left g s pages xs more n here = ⊎_elim
    (λ (free : IsTrue (g.is_free s pages n)). inl free)
    (λ (some : 0 < times n xs). inr (omega (arith, some, times-append n xs more)))
    here

hand_beside : {P : Type 0} (g : Ghosts P) (old new : P) (pages : Paging) (xs ys more : List ℕ) (n : ℕ) → (IsAtHand g old pages xs n → IsAtHand g new pages ys n)
    → IsAtHand g old pages (xs ++ more) n → IsAtHand g new pages (ys ++ more) n
hand_beside g old new pages xs ys more n found here = ⊎_elim
    (λ (free : IsTrue (g.is_free old pages n)). hand_left g new pages ys more n (found (inl free)))
    (λ (some : 0 < times n (xs ++ more)). ⊎_elim
    (λ (mine : 0 < times n xs). hand_left g new pages ys more n (found (inr mine)))
    (λ (none : times n xs ≤ 0). inr (omega (arith, some, none, times-append n xs more, times-append n ys more)))
    (cases_lt 0 (times n xs)))
    here

hand_alike : {P : Type 0} (g : Ghosts P) (s : P) (pages : Paging) (xs ys : List ℕ) (n : ℕ) → AreSame xs ys → IsAtHand g s pages xs n → IsAtHand g s pages ys n
hand_alike g s pages xs ys n same here = ⊎_elim
    (λ (free : IsTrue (g.is_free s pages n)). inl free)
    (λ (some : 0 < times n xs). inr (omega (arith, some, same n)))
    here

others_less : {P : Type 0} (g : Ghosts P) (s : P) (pages : Paging) (xs more : List ℕ) (n : ℕ) → IsOthers g s pages (xs ++ more) n → IsOthers g s pages xs n
others_less g s pages xs more n other = record { used = other.used; lacks = omega (arith, other.lacks, times-append n xs more) }

pub spares_beside : {P : Type 0} (g : Ghosts P) → SparesBeside g
spares_beside g old new pages xs more k x = record {
  seen = λ n other. x.seen n (others_less g old pages xs more n other);
  laid = λ n other. x.laid n (others_less g old pages xs more n other);
  head = x.head;
  body = λ lacks. x.body (omega (arith, lacks, times-append 1 xs more));
  counted = x.counted;
  bound = x.bound;
  few = x.few;
  sizes = x.sizes;
}

pub shifts_beside : {P : Type 0} (g : Ghosts P) → ShiftsBeside g
shifts_beside g old new pages xs ys more n x = record {
  spares = spares_beside g old new pages xs more n x.spares;
  others = λ k other. let mine = x.others k (others_less g old pages xs more k other) in
      record { used = mine.used; lacks = omega (arith, mine.lacks, other.lacks, times-append k xs more, times-append k ys more) };
  front = λ lacks. let mine = x.front (omega (arith, lacks, times-append 1 xs more)) in omega (arith, lacks, mine, times-append 1 xs more, times-append 1 ys more);
  held = held_again g old new pages xs ys more n x;
  ready = x.ready;
  more = x.more;
  found = λ k here. hand_beside g old new pages xs ys more k (x.found k) here;
  added = λ k above under. hand_left g new pages ys more k (x.added k above under);
}

pub held_alike : {P : Type 0} (g : Ghosts P) (s : P) (pages : Paging) (xs ys : List ℕ) → AreSame xs ys → AreHeld g s pages xs → AreHeld g s pages ys
held_alike g s pages xs ys same held = record {
  single = λ n. omega (arith, same n, held.single n);
  used = λ n some. held.used n (omega (arith, same n, some));
  unnamed = sym (same (list_in (sight g s pages))) ∙ held.unnamed;
}

others_alike : {P : Type 0} (g : Ghosts P) (s : P) (pages : Paging) (xs ys : List ℕ) (n : ℕ) → AreSame xs ys → IsOthers g s pages xs n → IsOthers g s pages ys n
others_alike g s pages xs ys n same other = record { used = other.used; lacks = sym (same n) ∙ other.lacks }

pub spares_alike : {P : Type 0} (g : Ghosts P) → SparesAlike g
spares_alike g old new pages xs xs' n from x =
    let back : AreSame xs' xs = λ k. sym (from k) in
    record {
      seen = λ k other. x.seen k (others_alike g old pages xs' xs k back other);
      laid = λ k other. x.laid k (others_alike g old pages xs' xs k back other);
      head = x.head;
      body = λ lacks. x.body (from 1 ∙ lacks);
      counted = x.counted;
      bound = x.bound;
      few = x.few;
      sizes = x.sizes;
    }

pub held_apart : {P : Type 0} (g : Ghosts P) → HeldApart g
held_apart g s pages xs ys held = (
  held_left g s pages xs ys held,
  record {
    single = λ n. omega (arith, held.single n, times-append n xs ys);
    used = λ n some. held.used n (rw (times-append n xs ys) (omega (arith, some)));
    unnamed = omega (arith, held.unnamed, times-append (list_in (sight g s pages)) xs ys);
  },
)

pub held_none : {P : Type 0} (g : Ghosts P) → HeldNone g
held_none g s pages = record { single = λ n. omega arith; used = λ n some. absurd (omega (arith, some)); unnamed = refl }

pub shifts_alike : {P : Type 0} (g : Ghosts P) → ShiftsAlike g
shifts_alike g old new pages xs ys xs' ys' n from to x =
    let back : AreSame xs' xs = λ k. sym (from k) in
    record {
      spares = spares_alike g old new pages xs xs' n from x.spares;
      others = λ k other. others_alike g new pages ys ys' k to (x.others k (others_alike g old pages xs' xs k back other));
      front = λ lacks. sym (to 1) ∙ x.front (from 1 ∙ lacks);
      held = λ held. held_alike g new pages ys ys' to (x.held (held_alike g old pages xs' xs back held));
      ready = x.ready;
      more = x.more;
      found = λ k here. hand_alike g new pages ys ys' k to (x.found k (hand_alike g old pages xs' xs k back here));
      added = λ k above under. hand_alike g new pages ys ys' k to (x.added k above under);
    }

-- a list without one of its numbers
abbrev pub without : ℕ → List ℕ → List ℕ
without n [] = []
without n (x ∷ xs) = if n == x then xs else x ∷ without n xs

without_same : (n : ℕ) (xs : List ℕ) → 0 < times n xs → AreSame (n ∷ without n xs) xs
without_same n [] some k = absurd (omega (arith, some))
without_same n (x ∷ xs) some k = ⊎_elim
    (λ (same : (n == x) ≡ true). let e = eqb-true n x same in rw same (ap (λ (m : ℕ). times k (m ∷ xs)) e))
    (λ (other : (n == x) ≡ false). let rest : 1 ≤ 0 + times n xs = rw other at some in rw other (omega (arith, without_same n xs (omega (arith, rest)) k)))
    (cases_Bool (n == x))

-- a change of one page is one of all pages that it stands among
pub shifts_among : {P : Type 0} (g : Ghosts P) (old new : P) (pages : Paging) (page : ℕ) (own : List ℕ) (n : ℕ) → 0 < times page own
    → Shifts g old new pages (page ∷ []) (page ∷ []) n → Shifts g old new pages own own n
shifts_among g old new pages page own n some x =
    let rest = without page own in
    shifts_alike g old new pages (page ∷ rest) (page ∷ rest) own own n (without_same page own some) (without_same page own some)
    (shifts_beside g old new pages (page ∷ []) (page ∷ []) rest n x)

pub held_among : {P : Type 0} (g : Ghosts P) (s : P) (pages : Paging) (page : ℕ) (own : List ℕ) → 0 < times page own → AreHeld g s pages own → AreHeld g s pages (page ∷ [])
held_among g s pages page own some held =
    (held_apart g s pages (page ∷ []) (without page own) (held_alike g s pages own (page ∷ without page own) (λ k. sym (without_same page own some k)) held)).0
