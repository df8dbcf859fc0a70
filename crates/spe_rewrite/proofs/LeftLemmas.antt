-- Operations that are made one after the other, and what a stop leaves of them.
use Rattle.std.proofs.Common.{◌≡◌, ℕ, ◌-◌, ◌≤◌, length, take, drop, get_or, arith, List, [], ◌∷◌, ◌++◌, refl, sym, ap, subst, ◌∙◌, Option, Some, None, append_assoc, ◌⊎◌, inl, inr, Result, Ok, Err, OnErr}
use Rattle.std.proofs.lemmas.List.{append-nil, take_all}
use Rattle.spe_model.specs.declared.file.FileNo.{FileNo}
use Rattle.spe_model.specs.Trace.{History, IsCut, IsTorn, Operation, after, present}
use Rattle.spe_model.specs.Trace.Operation.{Write, Cut}
use Rattle.spe_disk.specs.Told.{Adds}
use Rattle.spe_crash.proofs.TraceLemmas.{after-append}
use Rattle.spe_disk.specs.Added.{AddsCut}

pub Adds-nothing : (told : Option History) → Adds told told []
Adds-nothing None = refl
Adds-nothing (Some h) = ap (λ (trace : List Operation). Some (record { first = h.first; trace = trace })) (sym (append-nil h.trace))

pub Adds-append : (old middle new : Option History) (xs ys : List Operation) → Adds old middle xs → Adds middle new ys → Adds old new (xs ++ ys)
Adds-append None None new xs ys a b = b
Adds-append None (Some h) new xs ys a b = absurd cc
Adds-append (Some h) None new xs ys a b = absurd cc
Adds-append (Some h) (Some k) new xs ys a b =
    let same : k ≡ record { first = h.first; trace = h.trace ++ xs } = cc in
    b ∙ ap (λ (k : History). Some (record { first = k.first; trace = k.trace ++ ys })) same
    ∙ ap (λ (trace : List Operation). Some (record { first = h.first; trace = trace })) (append_assoc h.trace xs ys)

pub present_after : (h : History) (ops : List Operation) (k : History) → k ≡ record { first = h.first; trace = h.trace ++ ops } → present k ≡ after (present h) ops
present_after h ops k is = ap present is ∙ after-append h.first h.trace ops

-- operations followed by more
pub IsCut-front : (xs ys : List Operation) → IsCut (xs ++ ys) xs
IsCut-front [] ys = tt
IsCut-front (x ∷ xs) ys = inl (refl, IsCut-front xs ys)

-- some operations were made whole, and the next were cut
pub IsCut-behind : (xs ys zs : List Operation) → IsCut ys zs → IsCut (xs ++ ys) (xs ++ zs)
IsCut-behind [] ys zs cut = cut
IsCut-behind (x ∷ xs) ys zs cut = inl (refl, IsCut-behind xs ys zs cut)

IsTorn-trans : (a b c : Operation) → IsTorn a b → IsTorn b c → IsTorn a c
IsTorn-trans (Write file at bytes) (Write other place front) (Write third spot some) a b = (
  a.0 ∙ b.0,
  a.1 ∙ b.1,
  (b.2.0 ++ a.2.0, a.2.1 ∙ ap (λ (xs : List ℕ). xs ++ a.2.0) b.2.1 ∙ append_assoc some b.2.0 a.2.0),
)
IsTorn-trans (Write file at bytes) (Write other place front) (Cut third size) a b = absurd b
IsTorn-trans (Write file at bytes) (Cut other size) c a b = absurd a
IsTorn-trans (Cut file size) b c x y = absurd x

-- what a stop leaves of what a stop left
pub IsCut-trans : (xs ys zs : List Operation) → IsCut xs ys → IsCut ys zs → IsCut xs zs
IsCut-trans xs ys [] a b = tt
IsCut-trans xs [] (z ∷ zs) a b = absurd b
IsCut-trans [] (y ∷ ys) (z ∷ zs) a b = absurd a
IsCut-trans (x ∷ xs) (y ∷ ys) (z ∷ zs) (inl a) (inl b) = inl (b.0 ∙ a.0, IsCut-trans xs ys zs a.1 b.1)
IsCut-trans (x ∷ xs) (y ∷ ys) (z ∷ zs) (inl a) (inr b) = inr (subst (λ (o : Operation). IsTorn o z) a.0 b.0, b.1)
IsCut-trans (x ∷ xs) (y ∷ ys) (z ∷ zs) (inr a) (inl b) = inr (subst (λ (o : Operation). IsTorn x o) (sym b.0) a.0, none ys zs a.1 b.1)
  where
    none : (ys zs : List Operation) → ys ≡ [] → IsCut ys zs → zs ≡ []
    none ys [] is cut = refl
    none [] (z ∷ zs) is cut = absurd cut
    none (y ∷ ys) (z ∷ zs) is cut = absurd cc
IsCut-trans (x ∷ xs) (y ∷ ys) (z ∷ zs) (inr a) (inr b) = inr (IsTorn-trans x y z a.0 b.0, b.1)

IsCut-more : (xs ys zs : List Operation) → IsCut xs zs → IsCut (xs ++ ys) zs
IsCut-more xs ys zs cut = IsCut-trans (xs ++ ys) xs zs (IsCut-front xs ys) cut

-- Some first operations of a list were made, and these are left.
pub record HasLeft (old now : Option History) (all left : List Operation) : Type 0 where
  pub made : List Operation
  pub adds : Adds old now made
  pub parts : all ≡ made ++ left

pub left_first : (told : Option History) (all : List Operation) → HasLeft told told all all
left_first told all = record { made = []; adds = Adds-nothing told; parts = refl }

pub left_next : (first now next : Option History) (all left one later : List Operation) → left ≡ one ++ later → Adds now next one → HasLeft first now all left
    → HasLeft first next all later
left_next first now next all left one later is adds l = record {
  made = l.made ++ one;
  adds = Adds-append first now next l.made one l.adds adds;
  parts = l.parts ∙ ap (λ (ops : List Operation). l.made ++ ops) is ∙ sym (append_assoc l.made one later);
}

-- all were made
pub left_none : (first now : Option History) (all left : List Operation) → left ≡ [] → HasLeft first now all left → Adds first now all
left_none first now all left none l = subst (Adds first now) (sym (l.parts ∙ ap (λ (ops : List Operation). l.made ++ ops) none ∙ append-nil l.made)) l.adds

-- it broke off between two parts
pub left_stopped : (first now : Option History) (all left : List Operation) → HasLeft first now all left → AddsCut first now all
left_stopped first now all left l = record { made = l.made; adds = l.adds; holds = subst (λ (ops : List Operation). IsCut ops l.made) (sym l.parts) (IsCut-front l.made left) }

-- it broke off within a part
pub left_broken : (first now next : Option History) (all left one later : List Operation) → left ≡ one ++ later → AddsCut now next one → HasLeft first now all left
    → AddsCut first next all
left_broken first now next all left one later is c l = record {
  made = l.made ++ c.made;
  adds = Adds-append first now next l.made c.made l.adds c.adds;
  holds =
      subst (λ (ops : List Operation). IsCut ops (l.made ++ c.made)) (sym l.parts)
      (IsCut-behind l.made left c.made (subst (λ (ops : List Operation). IsCut ops c.made) (sym is) (IsCut-more one later c.made c.holds)));
}

-- nothing was done
pub nothing_made : (told : Option History) (ops : List Operation) → AddsCut told told ops
nothing_made told ops = record { made = []; adds = Adds-nothing told; holds = tt }

-- a cut of a file that failed
pub failed_cut : (old new : Option History) (file : FileNo) (size : ℕ) → (new ≡ old) ⊎ Adds old new (Cut file size ∷ []) → AddsCut old new (Cut file size ∷ [])
failed_cut old new file size (inl same) = subst (λ (t : Option History). AddsCut old t (Cut file size ∷ [])) (sym same) (nothing_made old (Cut file size ∷ []))
failed_cut old new file size (inr adds) = record { made = Cut file size ∷ []; adds = adds; holds = inl (refl, tt) }

pub OnErr-any : {X E : Type 0} (result : Result X E) {P : Type 0} → P → OnErr result P
OnErr-any (Ok x) p = tt
OnErr-any (Err e) p = p

-- a list whose first element was taken off
pub taken_off : {X : Type 0} (left : List X) (x : X) → 1 ≤ length left → x ≡ get_or left 0 x → left ≡ x ∷ take (length left - 1) (drop 1 left)
taken_off [] x some is = absurd (omega (arith, some))
taken_off (y ∷ ys) x some is =
    let all : take (length (y ∷ ys) - 1) ys ≡ ys = take_all (length (y ∷ ys) - 1) ys (omega arith) in
    ap (λ z. z ∷ ys) (sym is) ∙ ap (λ zs. x ∷ zs) (sym all)
