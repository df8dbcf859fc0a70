-- Texts that are given to a printer one after the other.
use Rattle.std.proofs.Common.{◌≡◌, ℕ, ◌+◌, ◌-◌, ◌^◌, ◌<◌, ◌≤◌, List, [], ◌∷◌, ◌++◌, length, take, drop, get_or, Option, Some, None, Result, Ok, Err, arith, ap, subst, sym, refl, ◌∙◌}
use Rattle.std.specs.Prelude.{OnOk, OnErr}
use Rattle.std.proofs.lemmas.List.{append_assoc, append-nil, take_all}
use Rattle.spe_disk.specs.declared.disk.Failed.{Failed}
use Rattle.spe_disk.specs.Listed.{next_number}
use Rattle.spe_disk.specs.Sink.{Appends, AppendsFront, CountsFault}
use Rattle.spe_render.specs.Passes.{CountsAtEnd, CountsOnce, Ends, Passes, PassesFront, PassesNumbered, HasNone, Prints, PrintsAll, Waits}

-- counts of two texts, the one after the other
counts_both : (f g h : ℕ) (p q r : Option (List ℕ)) → CountsOnce f g p q → CountsOnce g h q r → CountsOnce f h p r
counts_both f g h None None r a b = (b.0, b.1 ∙ a.1)
counts_both f g h None (Some w) r a b = absurd (let none = a.0 in cc)
counts_both f g h (Some v) None None a b = b.1 ∙ a
counts_both f g h (Some v) None (Some x) a b = absurd (let none = b.0 in cc)
counts_both f g h (Some v) (Some w) None a b = b ∙ ap next_number a
counts_both f g h (Some v) (Some w) (Some x) a b = b ∙ a

pub then : {t u v : Option (List ℕ)} {f g h : ℕ} {p q r : Option (List ℕ)} {x y : List ℕ}
    → Passes t u f g p q x → Passes u v g h q r y → Passes t v f h p r (x ++ y)
then {t} {u} {v} {f} {g} {h} {p} {q} {r} {x} {y} a b = record {
  prints = λ start before is. rw (← append_assoc before x y) (b.prints start (before ++ x) (a.prints start before is));
  counts = counts_both f g h p q r a.counts b.counts;
}

counts_ok : (f g : ℕ) (p q : Option (List ℕ)) (w : List ℕ) → q ≡ Some w → CountsOnce f g p q → CountsAtEnd f g p (Ok tt)
counts_ok f g None q w some counts = absurd (let none = counts.0 in cc)
counts_ok f g (Some v) None w some counts = absurd cc
counts_ok f g (Some v) (Some x) w some counts = counts

counts_err : (f g : ℕ) (p q : Option (List ℕ)) (e : Failed) → q ≡ None → CountsOnce f g p q → CountsAtEnd f g p (Err e)
counts_err f g None q e none counts = counts.1
counts_err f g (Some v) None e none counts = counts
counts_err f g (Some v) (Some x) e none counts = absurd cc

-- nothing waits, and the sink did not fail
pub ended_ok : {t u : Option (List ℕ)} {f g : ℕ} {p q : Option (List ℕ)} (w : List ℕ) → HasNone q → q ≡ Some w → Passes t u f g p q [] → Ends t u f g p (Ok tt)
ended_ok {t} {u} {f} {g} {p} {q} w none some a = record {
  prints = λ start text is. taken_all start text (subst (λ (k : Option (List ℕ)). Prints start (text ++ []) u k) quiet (a.prints start text is));
  counts = counts_ok f g p q w some a.counts;
}
  where
    quiet : q ≡ Some []
    quiet = some ∙ ap Some (subst HasNone some none)

    taken_all : (start : Option (List ℕ)) (text : List ℕ) → Prints start (text ++ []) u (Some []) → PrintsAll start text u (Ok tt)
    taken_all None text waits = tt
    taken_all (Some s) text (more, is, told) = rw (sym (append-nil text) ∙ is ∙ append-nil more) told

pub ended_err : {t u : Option (List ℕ)} {f g : ℕ} {p q : Option (List ℕ)} {e : Failed} → q ≡ None → Passes t u f g p q [] → Ends t u f g p (Err e)
ended_err {t} {u} {f} {g} {p} {q} {e} none a = record {
  prints = λ start text is. subst (λ (k : List ℕ). Prints start k u None) (append-nil text) (subst (λ (k : Option (List ℕ)). Prints start (text ++ []) u k) none (a.prints start text is));
  counts = counts_err f g p q e none a.counts;
}

-- nothing waited, and the sink failed
pub put_failed : {t u : Option (List ℕ)} {f g : ℕ} {p : Option (List ℕ)} {bytes : List ℕ}
    → p ≡ Some [] → AppendsFront t u bytes → g ≡ next_number f → Passes t u f g p None bytes
put_failed {t} {u} {f} {g} {p} {bytes} none front next = record {
  prints = λ start before is. by_start start before (subst (λ (k : Option (List ℕ)). Prints start before t k) none is);
  counts = rw none next;
}
  where
    added : (s before more rest now : List ℕ) → before ≡ more ++ [] → t ≡ Some (s ++ more) → AppendsFront (Some (s ++ more)) u bytes
        → AppendsFront (Some s) u (before ++ bytes)
    added s before more rest now is told (front, left, cut, took) =
        (more ++ front, left, ap (λ (b : List ℕ). b ++ bytes) (is ∙ append-nil more) ∙ ap (λ (b : List ℕ). more ++ b) cut ∙ sym (append_assoc more front left), took ∙ ap Some (append_assoc s more front))

    by_start : (start : Option (List ℕ)) (before : List ℕ) → Waits start before t [] → AppendsFront start u (before ++ bytes)
    by_start None before w = tt
    by_start (Some s) before (more, is, told) = added s before more [] [] is told (subst (λ (k : Option (List ℕ)). AppendsFront k u bytes) told front)

pub nothing : {t : Option (List ℕ)} {f : ℕ} {p : Option (List ℕ)} → Passes t t f f p p []
nothing {t} {f} {p} = record {
  prints = λ start before is. rw (append-nil before) is;
  counts = counts_same p;
}
  where
    counts_same : (p : Option (List ℕ)) → CountsOnce f f p p
    counts_same None = (refl, refl)
    counts_same (Some w) = refl

-- a loop over the parts of a text: at its start, at each turn, at its end
pub begins : {t : Option (List ℕ)} {f : ℕ} {p : Option (List ℕ)} (text : List ℕ) → PassesFront t t f f p p text text
begins text = record { front = []; whole = refl; gives = nothing }

pub goes_on : {t u v : Option (List ℕ)} {f g h : ℕ} {p q r : Option (List ℕ)} {text part rest : List ℕ}
    → PassesFront t u f g p q text (part ++ rest) → Passes u v g h q r part → PassesFront t v f h p r text rest
goes_on {part = part} {rest = rest} a b = record {
  front = a.front ++ part;
  whole = a.whole ∙ sym (append_assoc a.front part rest);
  gives = then a.gives b;
}

pub ends : {t u : Option (List ℕ)} {f g : ℕ} {p q : Option (List ℕ)} {text : List ℕ} → PassesFront t u f g p q text [] → Passes t u f g p q text
ends {t} {u} {f} {g} {p} {q} {text} a = subst (Passes t u f g p q) (sym (a.whole ∙ append-nil a.front)) a.gives

-- the same text in other words
pub printed : {t u : Option (List ℕ)} {f g : ℕ} {p q : Option (List ℕ)} {x y : List ℕ} → x ≡ y → Passes t u f g p q x → Passes t u f g p q y
printed {t} {u} {f} {g} {p} {q} e a = subst (Passes t u f g p q) e a

-- a turn of a loop that cuts a part off in two pieces, and the last part
pub cut_off : {t u v w : Option (List ℕ)} {i g h j : ℕ} {p q r s : Option (List ℕ)} {text rest more one two : List ℕ}
    → rest ≡ (one ++ two) ++ more → PassesFront t u i g p q text rest → Passes u v g h q r one → Passes v w h j r s two → PassesFront t w i j p s text more
cut_off {t} {u} {v} {w} {i} {g} {h} {j} {p} {q} {r} {s} {text} e a x y = goes_on (subst (PassesFront t u i g p q text) e a) (then x y)

pub last_part : {t u v : Option (List ℕ)} {i g h : ℕ} {p q r : Option (List ℕ)} {text rest part : List ℕ}
    → rest ≡ part → PassesFront t u i g p q text rest → Passes u v g h q r part → Passes t v i h p r text
last_part {t} {u} {v} {i} {g} {h} {p} {q} {r} {text} {rest} {part} e a b = ends (goes_on (subst (PassesFront t u i g p q text) (e ∙ sym (append-nil part)) a) b)

-- a list that is not empty
pub first_and_rest : {A : Type 0} (left : List A) (x d : A) → 1 ≤ length left → x ≡ get_or left 0 d → left ≡ x ∷ take (length left - 1) (drop 1 left)
first_and_rest [] x d some is = absurd (omega arith)
first_and_rest (y ∷ ys) x d some is =
    ap (λ z. z ∷ ys) (sym is) ∙ ap (λ l. x ∷ l) (sym (take_all (length (y ∷ ys) - 1) ys (omega arith)))

-- a turn of a loop over a list
pub turn : {A : Type 0} {t u v : Option (List ℕ)} {i g h : ℕ} {p q r : Option (List ℕ)} {text : List ℕ}
    (f : List A → List ℕ) (part : A → List ℕ) (left : List A) (x d : A)
    → ((y : A) (ys : List A) → f (y ∷ ys) ≡ part y ++ f ys)
    → PassesFront t u i g p q text (f left) → 1 ≤ length left → x ≡ get_or left 0 d → Passes u v g h q r (part x)
    → PassesFront t v i h p r text (f (take (length left - 1) (drop 1 left)))
turn {A} {t} {u} {v} {i} {g} {h} {p} {q} {r} {text} f part left x d step a some is gives =
    goes_on (subst (PassesFront t u i g p q text) (ap f (first_and_rest left x d some is) ∙ step x (take (length left - 1) (drop 1 left))) a) gives

-- the end of a loop over a list
pub finished : {A : Type 0} {t u : Option (List ℕ)} {i g : ℕ} {p q : Option (List ℕ)} {text : List ℕ}
    (f : List A → List ℕ) (left : List A) → f [] ≡ [] → PassesFront t u i g p q text (f left) → length left < 1 → Passes t u i g p q text
finished {A} {t} {u} {i} {g} {p} {q} {text} f [] none a few = ends (subst (PassesFront t u i g p q text) none a)
finished f (x ∷ xs) none a few = absurd (omega arith)

-- the start, a turn and the end of a loop over a list whose parts are numbered
pub numbered : {t : Option (List ℕ)} {i : ℕ} {p : Option (List ℕ)} (text : List ℕ) (count : ℕ) → 1 + count < 2 ^ 64 → PassesNumbered t t i i p p text text 1 count
numbered text count few = record { given = begins text; fits = few }

pub numbered_turn : {A : Type 0} {t u v : Option (List ℕ)} {i g h : ℕ} {p q r : Option (List ℕ)} {text : List ℕ}
    (f : ℕ → List A → List ℕ) (part : ℕ → A → List ℕ) (n : ℕ) (left : List A) (x d : A)
    → ((m : ℕ) (y : A) (ys : List A) → f m (y ∷ ys) ≡ part m y ++ f (m + 1) ys)
    → PassesNumbered t u i g p q text (f n left) n (length left) → 1 ≤ length left → x ≡ get_or left 0 d → Passes u v g h q r (part n x)
    → PassesNumbered t v i h p r text (f (n + 1) (take (length left - 1) (drop 1 left))) (n + 1) (length (take (length left - 1) (drop 1 left)))
numbered_turn {A} {t} {u} {v} {i} {g} {h} {p} {q} {r} {text} f part n left x d step a some is gives =
    let parts = first_and_rest left x d some is in
    let size : length left ≡ 1 + length (take (length left - 1) (drop 1 left)) = ap length parts ∙ omega arith in
    let few = a.fits in record {
      given = goes_on (subst (PassesFront t u i g p q text) (ap (f n) parts ∙ step n x (take (length left - 1) (drop 1 left))) a.given) gives;
      fits = omega (arith, size, few);
    }

-- ---- a printer that was made for the text

-- what a sink took from the start on
start_waits : (t : Option (List ℕ)) → Prints t [] t (Some [])
start_waits None = tt
start_waits (Some s) = ([], refl, ap Some (sym (append-nil s)))

all_taken : (t v : Option (List ℕ)) (text : List ℕ) (result : Result (Unit {0}) Failed) → PrintsAll t text v result → OnOk result (Appends t v text)
all_taken t v text (Ok done) is = is
all_taken t v text (Err e) is = tt

front_taken : (t v : Option (List ℕ)) (text : List ℕ) (result : Result (Unit {0}) Failed) → PrintsAll t text v result → OnErr result (AppendsFront t v text)
front_taken t v text (Ok done) is = tt
front_taken t v text (Err e) is = is

counted : (f g h : ℕ) (q : Option (List ℕ)) (result : Result (Unit {0}) Failed) → CountsOnce f g (Some []) q → CountsAtEnd g h q result → CountsFault f h result
counted f g h None (Ok done) a b = absurd b
counted f g h None (Err e) a b = b ∙ a
counted f g h (Some w) (Ok done) a b = b ∙ a
counted f g h (Some w) (Err e) a b = b ∙ ap next_number a

pub whole_ok : {t u v : Option (List ℕ)} {f g h : ℕ} {p q : Option (List ℕ)} {text : List ℕ} {result : Result (Unit {0}) Failed}
    → p ≡ Some [] → Passes t u f g p q text → Ends u v g h q result → OnOk result (Appends t v text)
whole_ok {t} {u} {v} {p = p} {q = q} {text = text} {result = result} new a b =
    all_taken t v text result (b.prints t text (a.prints t [] (subst (λ k. Prints t [] t k) (sym new) (start_waits t))))

pub whole_err : {t u v : Option (List ℕ)} {f g h : ℕ} {p q : Option (List ℕ)} {text : List ℕ} {result : Result (Unit {0}) Failed}
    → p ≡ Some [] → Passes t u f g p q text → Ends u v g h q result → OnErr result (AppendsFront t v text)
whole_err {t} {u} {v} {p = p} {q = q} {text = text} {result = result} new a b =
    front_taken t v text result (b.prints t text (a.prints t [] (subst (λ k. Prints t [] t k) (sym new) (start_waits t))))

pub whole_counts : {t u v : Option (List ℕ)} {f g h : ℕ} {p q : Option (List ℕ)} {text : List ℕ} {result : Result (Unit {0}) Failed}
    → p ≡ Some [] → Passes t u f g p q text → Ends u v g h q result → CountsFault f h result
whole_counts {f = f} {g = g} {h = h} {q = q} {result = result} new a b =
    counted f g h q result (subst (λ (k : Option (List ℕ)). CountsOnce f g k q) new a.counts) b.counts
