-- What a stop leaves of lists of operations.
use Rattle.std.proofs.Common.{◌≡◌, ℕ, List, [], ◌∷◌, ◌++◌, refl, sym, ap, subst, ◌∙◌, Option, Some, None, append_assoc, ◌⊎◌, inl, inr, Result, Ok, Err, OnErr}
use Rattle.spe_model.specs.declared.file.FileNo.{FileNo}
use Rattle.spe_model.specs.Trace.{Operation, History, IsCut, IsTorn}
use Rattle.spe_model.specs.Trace.Operation.{Write, Cut}
use Rattle.spe_disk.specs.Told.{Adds}
use Rattle.spe_disk.specs.Added.{AddsCut, MakesCut}
use Rattle.spe_recover.proofs.RestoreLemmas.{Adds-nothing, Adds-append}

-- nothing is left of any operations
pub IsCut-nothing : (ops : List Operation) → IsCut ops []
IsCut-nothing ops = tt

-- operations followed by more
pub IsCut-front : (xs ys : List Operation) → IsCut (xs ++ ys) xs
IsCut-front [] ys = tt
IsCut-front (x ∷ xs) ys = inl (refl, IsCut-front xs ys)

pub IsCut-whole : (xs : List Operation) → IsCut xs xs
IsCut-whole [] = tt
IsCut-whole (x ∷ xs) = inl (refl, IsCut-whole xs)

-- some operations were made whole, and the next were cut
pub IsCut-behind : (xs ys zs : List Operation) → IsCut ys zs → IsCut (xs ++ ys) (xs ++ zs)
IsCut-behind [] ys zs cut = cut
IsCut-behind (x ∷ xs) ys zs cut = inl (refl, IsCut-behind xs ys zs cut)

pub IsTorn-trans : (a b c : Operation) → IsTorn a b → IsTorn b c → IsTorn a c
IsTorn-trans (Write file at bytes) (Write other place front) (Write third spot some) a b = (
  a.0 ∙ b.0,
  a.1 ∙ b.1,
  (b.2.0 ++ a.2.0, a.2.1 ∙ ap (λ (xs : List ℕ). xs ++ a.2.0) b.2.1 ∙ append_assoc some b.2.0 a.2.0),
)
IsTorn-trans (Write file at bytes) (Write other place front) (Cut third size) a b = absurd b
IsTorn-trans (Write file at bytes) (Cut other size) c a b = absurd a
IsTorn-trans (Cut file size) b c x y = absurd x

-- what a stop leaves of what a stop left
pub IsCut-trans : (xs ys zs : List Operation) → IsCut xs ys → IsCut ys zs → IsCut xs zs
IsCut-trans xs ys [] a b = tt
IsCut-trans xs [] (z ∷ zs) a b = absurd b
IsCut-trans [] (y ∷ ys) (z ∷ zs) a b = absurd a
IsCut-trans (x ∷ xs) (y ∷ ys) (z ∷ zs) (inl a) (inl b) = inl (b.0 ∙ a.0, IsCut-trans xs ys zs a.1 b.1)
IsCut-trans (x ∷ xs) (y ∷ ys) (z ∷ zs) (inl a) (inr b) = inr (subst (λ (o : Operation). IsTorn o z) a.0 b.0, b.1)
IsCut-trans (x ∷ xs) (y ∷ ys) (z ∷ zs) (inr a) (inl b) = inr (subst (λ (o : Operation). IsTorn x o) (sym b.0) a.0, none ys zs a.1 b.1)
  where
    none : (ys zs : List Operation) → ys ≡ [] → IsCut ys zs → zs ≡ []
    none ys [] is cut = refl
    none [] (z ∷ zs) is cut = absurd cut
    none (y ∷ ys) (z ∷ zs) is cut = absurd cc
IsCut-trans (x ∷ xs) (y ∷ ys) (z ∷ zs) (inr a) (inr b) = inr (IsTorn-trans x y z a.0 b.0, b.1)

pub IsCut-more : (xs ys zs : List Operation) → IsCut xs zs → IsCut (xs ++ ys) zs
IsCut-more xs ys zs cut = IsCut-trans (xs ++ ys) xs zs (IsCut-front xs ys) cut

-- Some first operations of a list were made, and these are left.
pub record HasLeft (old now : Option History) (all left : List Operation) : Type 0 where
  pub made : List Operation
  pub adds : Adds old now made
  pub parts : all ≡ made ++ left

-- a list of operations that is made part by part
pub left_first : (told : Option History) (all : List Operation) → HasLeft told told all all
left_first told all = record { made = []; adds = Adds-nothing told; parts = refl }

pub left_next : (first now next : Option History) (all left one later : List Operation) → left ≡ one ++ later → Adds now next one → HasLeft first now all left
    → HasLeft first next all later
left_next first now next all left one later is adds l = record {
  made = l.made ++ one;
  adds = Adds-append first now next l.made one l.adds adds;
  parts = l.parts ∙ ap (λ (ops : List Operation). l.made ++ ops) is ∙ sym (append_assoc l.made one later);
}

-- it broke off between two parts
pub left_stopped : (first now : Option History) (all left : List Operation) → HasLeft first now all left → AddsCut first now all
left_stopped first now all left l = record { made = l.made; adds = l.adds; holds = subst (λ (ops : List Operation). IsCut ops l.made) (sym l.parts) (IsCut-front l.made left) }

-- it broke off within a part
pub left_broken : (first now next : Option History) (all left one later : List Operation) → left ≡ one ++ later → AddsCut now next one → HasLeft first now all left
    → AddsCut first next all
left_broken first now next all left one later is c l = record {
  made = l.made ++ c.made;
  adds = Adds-append first now next l.made c.made l.adds c.adds;
  holds =
      subst (λ (ops : List Operation). IsCut ops (l.made ++ c.made)) (sym l.parts)
      (IsCut-behind l.made left c.made (subst (λ (ops : List Operation). IsCut ops c.made) (sym is) (IsCut-more one later c.made c.holds)));
}

-- a cut of a file that failed
pub failed_cut : (old new : Option History) (file : FileNo) (size : ℕ) → (new ≡ old) ⊎ Adds old new (Cut file size ∷ []) → MakesCut old new (λ content. Cut file size ∷ [])
failed_cut None new file size failed = tt
failed_cut (Some h) new file size (inl same) = record { made = []; adds = subst (λ (t : Option History). Adds (Some h) t []) (sym same) (Adds-nothing (Some h)); holds = tt }
failed_cut (Some h) new file size (inr adds) = record { made = Cut file size ∷ []; adds = adds; holds = inl (refl, tt) }

pub OnErr-any : {X E : Type 0} (result : Result X E) {P : Type 0} → P → OnErr result P
OnErr-any (Ok x) p = tt
OnErr-any (Err e) p = p
