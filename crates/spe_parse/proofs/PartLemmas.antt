-- Parts that are read one after the other.
use Rattle.std.proofs.Common.{◌≡◌, ℕ, zero, suc, ◌<◌, ◌≤◌, List, [], ◌∷◌, ◌++◌, length, drop, Bool, true, Ok, Err, refl, sym, ◌∙◌, ap, arith, append_assoc, if◌then◌else◌}
use Rattle.spe_model.specs.Token.{Lexeme}
use Rattle.spe_parse.specs.declared.halt.Halt.{Halt}
use Rattle.spe_parse.specs.declared.halt.Halt.TheVariants.{Ends, Fault, Memory}
use Rattle.spe_parse.specs.Part.{Part, ◌>>=◌, ahead, parts_at, parts_within, single, stands}
use Rattle.spe_parse.specs.Read.{IsHaltOf}

-- what is found, with what stands in what is left, is all
pub record Listing {A : Type 0} (between : Lexeme → Bool) (part : List Lexeme → Part (List A)) (found : List A) (left : List Lexeme) (all : Part (List A)) : Type 0 where
  pub most : ℕ
  pub enough : length left ≤ most
  pub same : ahead found (parts_within most between part left) ≡ all

-- a part is read from what is left
abbrev pub reads : {A : Type 0} → List A → List Lexeme → Part (List A)
reads xs rest = Ok (xs, rest)

abbrev pub fails : {A : Type 0} → Halt → Part (List A)
fails halt = Err halt

ahead_nothing : {A : Type 0} (o : Part (List A)) → ahead [] o ≡ o
ahead_nothing (Ok (xs, rest)) = refl
ahead_nothing (Err halt) = refl

ahead_more : {A : Type 0} (found xs : List A) (o : Part (List A)) → ahead (found ++ xs) o ≡ ahead found (ahead xs o)
ahead_more found xs (Ok (ys, rest)) = ap (λ zs. reads zs rest) (append_assoc found xs ys)
ahead_more found xs (Err halt) = refl

pub listing_begins : {A : Type 0} (between : Lexeme → Bool) (part : List Lexeme → Part (List A)) (xs : List Lexeme) → Listing between part [] xs (parts_at between part xs)
unfolding parts_at
listing_begins between part xs = record { most = length xs; enough = omega arith; same = ahead_nothing (parts_within (length xs) between part xs) }

abbrev parts_in : {A : Type 0} → Part (List A) → List A
parts_in (Ok x) = x.0
parts_in (Err halt) = []

abbrev rest_in : {A : Type 0} → Part (List A) → List Lexeme
rest_in (Ok x) = x.1
rest_in (Err halt) = []

-- what stands behind a part
abbrev others : {A : Type 0} → ℕ → (Lexeme → Bool) → (List Lexeme → Part (List A)) → (List A × List Lexeme) → Part (List A)
others n between part first = if stands between first.1 then ahead first.0 (parts_within n between part (drop 1 first.1)) else Ok first

turn_from : {A : Type 0} (o : Part (List A)) (n : ℕ) (between : Lexeme → Bool) (part : List Lexeme → Part (List A)) (found more : List A) (rest : List Lexeme) (all : Part (List A))
    → ahead found o ≡ reads more rest → stands between rest ≡ true → ahead found (o >>= others n between part) ≡ all
    → ahead more (parts_within n between part (drop 1 rest)) ≡ all
turn_from (Ok (xs, left)) n between part found more rest all e goes same =
    let items : found ++ xs ≡ more = ap parts_in e in
    let behind : left ≡ rest = ap rest_in e in
    let here : stands between left ≡ true = ap (stands between) behind ∙ goes in
    ap (λ ys. ahead ys (parts_within n between part (drop 1 rest))) (sym items)
    ∙ (ap (λ (r : List Lexeme). ahead (found ++ xs) (parts_within n between part (drop 1 r))) (sym behind)
    ∙ (ahead_more found xs (parts_within n between part (drop 1 left))
    ∙ (sym (ap (λ (b : Bool). ahead found (if b then ahead xs (parts_within n between part (drop 1 left)) else reads xs left)) here) ∙ same)))
turn_from (Err halt) n between part found more rest all e goes same = absurd cc

halt_from : {A : Type 0} (o : Part (List A)) (f : (List A × List Lexeme) → Part (List A)) (found : List A) (halt : Halt) → ahead found o ≡ fails halt
    → ahead found (o >>= f) ≡ fails halt
halt_from (Ok x) f found halt e = absurd cc
halt_from (Err s) f found halt e = e

-- a turn of the loop, behind which there are more
pub listing_turns : {A : Type 0} (between : Lexeme → Bool) (part : List Lexeme → Part (List A)) (found more : List A) (left rest : List Lexeme) (all : Part (List A))
    → Listing between part found left all → ahead found (part left) ≡ reads more rest → length rest < length left → stands between rest ≡ true
    → Listing between part more (drop 1 rest) all
listing_turns between part found more left rest all listing e shorter goes = by_most listing.most listing.enough listing.same
  where
    dropped : (xs : List Lexeme) → length (drop 1 xs) ≤ length xs
    dropped [] = omega arith
    dropped (x ∷ xs) = omega arith

    by_most : (n : ℕ) → length left ≤ n → ahead found (parts_within n between part left) ≡ all → Listing between part more (drop 1 rest) all
    by_most zero enough same = absurd (omega arith)
    by_most (suc n) enough same = record {
      most = n;
      enough = omega (arith, dropped rest);
      same = turn_from (part left) n between part found more rest all e goes same;
    }

listing_fails : {A : Type 0} (between : Lexeme → Bool) (part : List Lexeme → Part (List A)) (found : List A) (left : List Lexeme) (all : Part (List A)) (halt : Halt)
    → part [] ≡ fails Ends → Listing between part found left all → ahead found (part left) ≡ fails halt → all ≡ fails halt
listing_fails between part found left all halt none listing e = by_most listing.most left listing.enough listing.same e
  where
    by_most : (n : ℕ) (left : List Lexeme) → length left ≤ n → ahead found (parts_within n between part left) ≡ all → ahead found (part left) ≡ fails halt → all ≡ fails halt
    by_most zero [] enough same e = sym same ∙ (sym (ap (ahead found) none) ∙ e)
    by_most zero (x ∷ xs) enough same e = absurd (omega arith)
    by_most (suc n) left enough same e = sym same ∙ halt_from (part left) (others n between part) found halt e

-- a halt of the loop
pub listing_halts : {A : Type 0} (between : Lexeme → Bool) (part : List Lexeme → Part (List A)) (found : List A) (left : List Lexeme) (all : Part (List A)) (halt : Halt)
    → part [] ≡ fails Ends → Listing between part found left all → IsHaltOf halt (ahead found (part left)) → IsHaltOf halt all
listing_halts between part found left all Ends none listing e = listing_fails between part found left all Ends none listing e
listing_halts between part found left all (Fault fault) none listing e = listing_fails between part found left all (Fault fault) none listing e
listing_halts between part found left all Memory none listing e = tt

-- a part of one
pub single_reads : {A : Type 0} (part : List Lexeme → Part A) (found : List A) (left rest : List Lexeme) (x : A) → part left ≡ Ok (x, rest)
    → ahead found (single part left) ≡ reads (found ++ (x ∷ [])) rest
single_reads part found left rest x e = ap (λ o. ahead found (o >>= λ y. Ok (y.0 ∷ [], y.1))) e

pub single_halts : {A : Type 0} (part : List Lexeme → Part A) (found : List A) (left : List Lexeme) (halt : Halt) → IsHaltOf halt (part left)
    → IsHaltOf halt (ahead found (single part left))
single_halts part found left Ends e = ap (λ o. ahead found (o >>= λ y. Ok (y.0 ∷ [], y.1))) e
single_halts part found left (Fault fault) e = ap (λ o. ahead found (o >>= λ y. Ok (y.0 ∷ [], y.1))) e
single_halts part found left Memory e = tt
