-- One transaction of a client more, and one client more.
use Rattle.std.proofs.Common.{◌≡◌, ◌∙◌, ◌+◌, ℕ, suc, List, [], ◌∷◌, ◌++◌, length, map, refl, sym, ap, subst, arith}
use Rattle.std.specs.Prelude.{reverse}
use Rattle.std.proofs.lemmas.List.{append-nil, append_assoc, length-append, map-append, reverse-append}
use Rattle.spe_model.specs.declared.transaction.Tx.{Tx}
use Rattle.spe_store.specs.Opened.{Opened}
use Rattle.spe_store.specs.Store.{Store}
use Rattle.spe_clients.specs.declared.place.Place.{Place}
use Rattle.spe_clients.specs.Ended.{Answer, Ended, clients_from, ended_from, lengths_of}
use Rattle.spe_clients.specs.Place.{script_of, scripts_of}
use Rattle.spe_clients.specs.SoFar.{Goes, HasRun, HaveRun, Holds}
use Rattle.spe_clients.proofs.EndLemmas.{tail_of}

-- nothing was run
pub goes_nowhere : (opened : Opened) (s : Store) → Goes opened s s []
goes_nowhere opened s before holds = subst (λ (es : List Ended). Holds opened es s) (sym (append-nil before)) holds

-- what follows what was run
pub goes_on : (opened : Opened) (old mid new : Store) (first then' : List Ended) → Goes opened old mid first → Goes opened mid new then' → Goes opened old new (first ++ then')
goes_on opened old mid new first then' a b before holds =
    subst (λ (es : List Ended). Holds opened es new) (append_assoc before first then') (b (before ++ first) (a before holds))

abbrev ended_as : (client tx : ℕ) → Tx → Answer → Ended
ended_as client tx t a = record { client = client; tx = tx; body = t; outcome = a.0; replies = a.1 }

ended_push : (client first : ℕ) (ts : List Tx) (ys : List Answer) (t : Tx) (a : Answer) → length ys ≡ length ts
    → ended_from client first (ts ++ t ∷ []) (ys ++ a ∷ []) ≡ ended_from client first ts ys ++ ended_as client (first + length ts) t a ∷ []
ended_push client first [] [] t a same = ap (λ (n : ℕ). ended_as client n t a ∷ []) (omega arith)
ended_push client first [] (b ∷ ys) t a same = absurd (omega arith)
ended_push client first (u ∷ ts) [] t a same = absurd (omega arith)
ended_push client first (u ∷ ts) (b ∷ ys) t a same =
    ap (λ (es : List Ended). ended_as client first u b ∷ es)
    (ended_push client (first + 1) ts ys t a (omega arith) ∙ ap (λ (n : ℕ). ended_from client (first + 1) ts ys ++ ended_as client n t a ∷ []) (omega arith))

pub has_run_none : (opened : Opened) (s : Store) (client : ℕ) (script : List Tx) → HasRun opened s s client script script []
has_run_none opened s client script = record { ran = []; script_is = refl; answered = refl; goes = goes_nowhere opened s }

pub has_run_more : (opened : Opened) (old now new : Store) (client tx : ℕ) (script left : List Tx) (answers : List Answer) (t : Tx) (a : Answer)
    → HasRun opened old now client script (t ∷ left) answers → tx ≡ length answers + 1
    → Goes opened now new (record { client = client; tx = tx; body = t; outcome = a.0; replies = a.1 } ∷ []) → HasRun opened old new client script left (answers ++ a ∷ [])
has_run_more opened old now new client tx script left answers t a has number goes = record {
  ran = has.ran ++ t ∷ [];
  script_is = has.script_is ∙ sym (append_assoc has.ran (t ∷ []) left);
  answered = omega (arith, has.answered, length-append answers (a ∷ []), length-append has.ran (t ∷ []));
  goes = subst (Goes opened old new) (sym (ended_push client 1 has.ran answers t a has.answered))
      (goes_on opened old now new (ended_from client 1 has.ran answers) (ended_as client (1 + length has.ran) t a ∷ []) has.goes
      (subst (λ (n : ℕ). Goes opened now new (ended_as client n t a ∷ [])) (omega (arith, number, has.answered)) goes));
}

pub has_run_all : (opened : Opened) (old new : Store) (client : ℕ) (script : List Tx) (answers : List Answer) → HasRun opened old new client script [] answers
    → Goes opened old new (ended_from client 1 script answers)
has_run_all opened old new client script answers has =
    subst (λ (ts : List Tx). Goes opened old new (ended_from client 1 ts answers)) (sym (has.script_is ∙ append-nil has.ran)) has.goes

pub has_run_complete : (opened : Opened) (old new : Store) (client : ℕ) (script : List Tx) (answers : List Answer) → HasRun opened old new client script [] answers
    → length answers ≡ length script
has_run_complete opened old new client script answers has = has.answered ∙ ap length (sym (has.script_is ∙ append-nil has.ran))

-- the first of those that are left is the last of the list
pub reverse_push : {X : Type 0} (xs : List X) (x : X) → reverse (xs ++ x ∷ []) ≡ x ∷ reverse xs
reverse_push xs x = reverse-append xs (x ∷ [])

pub scripts_push : (places : List Place) (p : Place) → scripts_of (places ++ p ∷ []) ≡ script_of p ∷ scripts_of places
scripts_push places p = ap (map script_of) (reverse_push places p)

clients_push : (first : ℕ) (tss : List (List Tx)) (yss : List (List Answer)) (ts : List Tx) (ys : List Answer) → lengths_of yss ≡ lengths_of tss
    → clients_from first (tss ++ ts ∷ []) (yss ++ ys ∷ []) ≡ clients_from first tss yss ++ ended_from (first + length tss) 1 ts ys
clients_push first [] [] ts ys same = append-nil (ended_from first 1 ts ys) ∙ ap (λ (n : ℕ). ended_from n 1 ts ys) (omega arith)
clients_push first [] (bs ∷ yss) ts ys same = cc
clients_push first (us ∷ tss) [] ts ys same = cc
clients_push first (us ∷ tss) (bs ∷ yss) ts ys same =
    ap (λ (es : List Ended). ended_from first 1 us bs ++ es)
    (clients_push (first + 1) tss yss ts ys (ap tail_of same) ∙ ap (λ (n : ℕ). clients_from (first + 1) tss yss ++ ended_from n 1 ts ys) (omega arith))
    ∙ sym (append_assoc (ended_from first 1 us bs) (clients_from (first + 1) tss yss) (ended_from (first + length (us ∷ tss)) 1 ts ys))

same_count : {A B : Type 0} (xss : List (List A)) (yss : List (List B)) → lengths_of xss ≡ lengths_of yss → length xss ≡ length yss
same_count [] [] same = refl
same_count [] (ys ∷ yss) same = cc
same_count (xs ∷ xss) [] same = cc
same_count (xs ∷ xss) (ys ∷ yss) same = ap suc (same_count xss yss (ap tail_of same))

pub have_run_none : (opened : Opened) (s : Store) (scripts : List (List Tx)) → HaveRun opened s s scripts scripts []
have_run_none opened s scripts = record { ran = []; scripts_are = refl; answered = refl; goes = goes_nowhere opened s }

pub have_run_more : (opened : Opened) (old now new : Store) (client : ℕ) (scripts left : List (List Tx)) (transcripts : List (List Answer)) (script : List Tx) (answers : List Answer)
    → HaveRun opened old now scripts (script ∷ left) transcripts → client ≡ length transcripts + 1 → length answers ≡ length script
    → Goes opened now new (ended_from client 1 script answers) → HaveRun opened old new scripts left (transcripts ++ answers ∷ [])
have_run_more opened old now new client scripts left transcripts script answers have number complete goes = record {
  ran = have.ran ++ script ∷ [];
  scripts_are = have.scripts_are ∙ sym (append_assoc have.ran (script ∷ []) left);
  answered = map-append length transcripts (answers ∷ []) ∙ ap (λ (ns : List ℕ). ns ++ length answers ∷ []) have.answered
      ∙ ap (λ (n : ℕ). lengths_of have.ran ++ n ∷ []) complete ∙ sym (map-append length have.ran (script ∷ []));
  goes = subst (Goes opened old new) (sym (clients_push 1 have.ran transcripts script answers have.answered))
      (goes_on opened old now new (clients_from 1 have.ran transcripts) (ended_from (1 + length have.ran) 1 script answers) have.goes
      (subst (λ (n : ℕ). Goes opened now new (ended_from n 1 script answers)) (omega (arith, number, same_count transcripts have.ran have.answered)) goes));
}

pub have_run_all : (opened : Opened) (old new : Store) (scripts : List (List Tx)) (transcripts : List (List Answer)) → HaveRun opened old new scripts [] transcripts
    → Goes opened old new (clients_from 1 scripts transcripts)
have_run_all opened old new scripts transcripts have =
    subst (λ (tss : List (List Tx)). Goes opened old new (clients_from 1 tss transcripts)) (sym (have.scripts_are ∙ append-nil have.ran)) have.goes

pub have_run_complete : (opened : Opened) (old new : Store) (scripts : List (List Tx)) (transcripts : List (List Answer)) → HaveRun opened old new scripts [] transcripts
    → lengths_of transcripts ≡ lengths_of scripts
have_run_complete opened old new scripts transcripts have = have.answered ∙ ap lengths_of (sym (have.scripts_are ∙ append-nil have.ran))
