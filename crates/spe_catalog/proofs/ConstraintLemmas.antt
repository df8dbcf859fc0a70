-- Constraints, one after the other.
use Rattle.std.proofs.Common.{◌≡◌, Bool, true, false, List, [], ◌∷◌, Option, Some, None, if◌then◌else◌, refl, sym, ◌∙◌, arith}
use Rattle.spe_model.specs.Token.{Lexeme}
use Rattle.spe_model.specs.Cell.{◌>>=◌}
use Rattle.spe_model.specs.Definition.{Mark, Not, Null, Primary, Key, Asc, mark_of, marks_at, before_marks, Said, said_by}
use Rattle.spe_catalog.specs.Constraint.{is_same, is_mark, after_mark, joined, Starts}

same_true : (a b : Mark) → is_same a b ≡ true → a ≡ b
same_true Not Not h = refl
same_true Null Null h = refl
same_true Primary Primary h = refl
same_true Key Key h = refl
same_true Asc Asc h = refl
same_true _ _ h = cc

-- the token at the front is this word
pub record Fronts (mark : Mark) (xs rest : List Lexeme) : Type 0 where
  pub first : Lexeme
  pub is : xs ≡ first ∷ rest
  pub mark_is : mark_of first ≡ Some mark

pub fronts : (mark : Mark) (xs rest : List Lexeme) → after_mark mark xs ≡ Some rest → Fronts mark xs rest
fronts mark [] rest h = absurd cc
fronts mark (x ∷ xs) rest h = go (mark_of x) refl h
  where
    go : (m : Option Mark) → mark_of x ≡ m → (if is_mark mark m then Some xs else None) ≡ Some rest → Fronts mark (x ∷ xs) rest
    go None e h = absurd cc
    go (Some other) e h = same (is_same other mark) refl h
      where
        same : (b : Bool) → is_same other mark ≡ b → (if b then Some xs else None) ≡ Some rest → Fronts mark (x ∷ xs) rest
        same false s h = absurd cc
        same true s h = record { first = x; is = cc; mark_is = rw (sym (same_true other mark s)) e }

-- what constraints say that only say this
abbrev nothing : Said
nothing = record { not_null = false; is_key = false }

abbrev never_null : Said
never_null = record { not_null = true; is_key = false }

abbrev key : Said
key = record { not_null = false; is_key = true }

joined_nothing : (m : Option Said) → m ≡ m >>= joined nothing
joined_nothing None = refl
joined_nothing (Some s) = refl

marks_of : (mark : Mark) (x : Lexeme) (xs : List Lexeme) → mark_of x ≡ Some mark → marks_at (x ∷ xs) ≡ mark ∷ marks_at xs
marks_of mark x xs e = rw e refl

pub starts_null : (xs rest : List Lexeme) → after_mark Null xs ≡ Some rest → Starts xs nothing rest
starts_null xs rest h = go (fronts Null xs rest h)
  where
    go : Fronts Null xs rest → Starts xs nothing rest
    go f = rw f.is (record {
      says = rw (marks_of Null f.first rest f.mark_is) (joined_nothing (said_by (marks_at rest)));
      behind = rw (marks_of Null f.first rest f.mark_is) refl;
      shorter = omega arith;
    })

pub starts_not : (xs ys rest : List Lexeme) → after_mark Not xs ≡ Some ys → after_mark Null ys ≡ Some rest → Starts xs never_null rest
starts_not xs ys rest h k = go (fronts Not xs ys h) (fronts Null ys rest k)
  where
    go : Fronts Not xs ys → Fronts Null ys rest → Starts xs never_null rest
    go f s = rw (f.is, s.is) (record {
      says = rw (marks_of Not f.first (s.first ∷ rest) f.mark_is, marks_of Null s.first rest s.mark_is) refl;
      behind = rw (marks_of Not f.first (s.first ∷ rest) f.mark_is, marks_of Null s.first rest s.mark_is) refl;
      shorter = omega arith;
    })

pub starts_asc : (xs ys zs rest : List Lexeme) → after_mark Primary xs ≡ Some ys → after_mark Key ys ≡ Some zs → after_mark Asc zs ≡ Some rest → Starts xs key rest
starts_asc xs ys zs rest h k l = go (fronts Primary xs ys h) (fronts Key ys zs k) (fronts Asc zs rest l)
  where
    go : Fronts Primary xs ys → Fronts Key ys zs → Fronts Asc zs rest → Starts xs key rest
    go f s t = rw (f.is, s.is, t.is) (record {
      says = rw (marks_of Primary f.first (s.first ∷ t.first ∷ rest) f.mark_is, marks_of Key s.first (t.first ∷ rest) s.mark_is, marks_of Asc t.first rest t.mark_is) refl;
      behind = rw (marks_of Primary f.first (s.first ∷ t.first ∷ rest) f.mark_is, marks_of Key s.first (t.first ∷ rest) s.mark_is, marks_of Asc t.first rest t.mark_is) refl;
      shorter = omega arith;
    })

-- PRIMARY KEY without ASC behind it
key_alone : (zs : List Lexeme) → after_mark Asc zs ≡ None → said_by (Primary ∷ Key ∷ marks_at zs) ≡ said_by (marks_at zs) >>= joined key
key_alone [] h = refl
key_alone (z ∷ zs) h = go (mark_of z) h
  where
    go : (m : Option Mark) → (if is_mark Asc m then Some zs else None) ≡ None
        → said_by (Primary ∷ Key ∷ before_marks m (marks_at zs)) ≡ said_by (before_marks m (marks_at zs)) >>= joined key
    go None h = refl
    go (Some Asc) h = absurd cc
    go (Some Not) h = refl
    go (Some Null) h = refl
    go (Some Primary) h = refl
    go (Some Key) h = refl

pub starts_key : (xs ys zs : List Lexeme) → after_mark Primary xs ≡ Some ys → after_mark Key ys ≡ Some zs → after_mark Asc zs ≡ None → Starts xs key zs
starts_key xs ys zs h k l = go (fronts Primary xs ys h) (fronts Key ys zs k)
  where
    go : Fronts Primary xs ys → Fronts Key ys zs → Starts xs key zs
    go f s = rw (f.is, s.is) (record {
      says = rw (marks_of Primary f.first (s.first ∷ zs) f.mark_is, marks_of Key s.first zs s.mark_is) (key_alone zs l);
      behind = rw (marks_of Primary f.first (s.first ∷ zs) f.mark_is, marks_of Key s.first zs s.mark_is) refl;
      shorter = omega arith;
    })

abbrev flags : (not_null is_key : Bool) → Said
flags not_null is_key = record { not_null = not_null; is_key = is_key }

-- what one constraint says behind two others
joined_twice : (a b s all : Said) → joined a b ≡ Some all → joined b s >>= joined a ≡ joined all s
joined_twice a b s all h = go a.is_key b.is_key s.is_key a.not_null b.not_null s.not_null ∙ (rw h refl)
  where
    go : (x y z p q r : Bool) → joined (flags q y) (flags r z) >>= joined (flags p x) ≡ joined (flags p x) (flags q y) >>= λ all. joined all (flags r z)
    go true true true true q r = refl
    go true true true false q r = refl
    go true true false true q r = refl
    go true true false false q r = refl
    go true false true true q r = refl
    go true false true false q r = refl
    go true false false true q r = refl
    go true false false false q r = refl
    go false true true true q r = refl
    go false true true false q r = refl
    go false true false true q r = refl
    go false true false false q r = refl
    go false false true true q r = refl
    go false false true false q r = refl
    go false false false true q r = refl
    go false false false false q r = refl

-- what constraints say, once one more of them is read
pub says_more : (before after : Option Said) (a b all : Said) → before ≡ after >>= joined b → joined a b ≡ Some all → before >>= joined a ≡ after >>= joined all
says_more before None a b all e h = rw e refl
says_more before (Some s) a b all e h = rw e (joined_twice a b s all h)
