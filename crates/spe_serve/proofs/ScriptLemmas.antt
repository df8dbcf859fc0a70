-- The scripts of clients, one behind the other.
use Rattle.std.proofs.Common.{◌≡◌, ℕ, ◌+◌, ◌≤◌, Bool, true, false, List, [], ◌∷◌, ◌++◌, length, map, Option, Some, None, Result, Ok, Err, IfOk, refl, sym, ap, subst, ◌∙◌, append_assoc, reverse}
use Rattle.std.specs.Prelude.{◌&&◌, All}
use Rattle.std.specs.List.{list_all}
use Rattle.std.proofs.lemmas.Grind.{reverse_onto}
use Rattle.std.proofs.lemmas.List.Elements.{All-cons, All-nil}
use Rattle.spe_model.specs.declared.transaction.Tx.{Tx}
use Rattle.spe_model.specs.declared.transaction.TxKind.{TxKind}
use Rattle.spe_model.specs.declared.transaction.TxKind.TheVariants.{ReadWrite, ReadOnly}
use Rattle.spe_disk.specs.Scripts.{Texts}
use Rattle.spe_script.specs.declared.fault.ScriptError.{ScriptError}
use Rattle.spe_script.specs.declared.fault.ScriptKind.{ScriptKind}
use Rattle.spe_script.specs.declared.fault.ScriptKind.TheVariants as kinds
use Rattle.spe_script.specs.Script.{script_of}
use Rattle.spe_clients.specs.Script.{MayRun}
use Rattle.spe_serve.specs.declared.scripts.Unasked.{Unasked}
use Rattle.spe_serve.specs.declared.scripts.Unasked.TheVariants.{NoScript, BadScript, NotBuilt, Failed, Memory}
use Rattle.spe_serve.specs.Asked.{CountsScripts, IsUnfailed, are_carried_out, behind, bodies_from, is_carried_out, is_taken, may_write, texts_from, unread_at}

behind_both : {X : Type 0} (found : List X) (x : X) (left : Result (List X) Unasked) → behind found (behind (x ∷ []) left) ≡ behind (found ++ x ∷ []) left
behind_both found x (Ok xs) = ap Ok (sym (append_assoc found (x ∷ []) xs))
behind_both found x (Err e) = refl

pub behind_none_found : {X : Type 0} (left : Result (List X) Unasked) → behind [] left ≡ left
behind_none_found (Ok xs) = refl
behind_none_found (Err e) = refl

pub text_one : (texts : Texts) (found : List (List ℕ)) (client : ℕ) (name text : List ℕ) (names : List (List ℕ)) → texts name ≡ Some text
    → behind found (texts_from texts client (name ∷ names)) ≡ behind (found ++ text ∷ []) (texts_from texts (client + 1) names)
text_one texts found client name text names is = rw is (behind_both found text (texts_from texts (client + 1) names))

pub text_missing : (texts : Texts) (found : List (List ℕ)) (client : ℕ) (name : List ℕ) (names : List (List ℕ)) → texts name ≡ None
    → behind found (texts_from texts client (name ∷ names)) ≡ Err (NoScript client)
text_missing texts found client name names is = rw is refl

pub body_one : (found : List (List Tx)) (client : ℕ) (text : List ℕ) (body : List Tx) (texts : List (List ℕ)) → script_of text ≡ Ok body
    → behind found (bodies_from client (text ∷ texts)) ≡ behind (found ++ body ∷ []) (bodies_from (client + 1) texts)
body_one found client text body texts is = rw is (behind_both found body (bodies_from (client + 1) texts))

pub body_refused : (found : List (List Tx)) (client : ℕ) (text : List ℕ) (e : ScriptError) (texts : List (List ℕ)) → script_of text ≡ Err e
    → behind found (bodies_from client (text ∷ texts)) ≡ Err (BadScript client e.line e.kind)
body_refused found client text e texts is = rw is refl

both_true : (a b : Bool) → (a && b) ≡ true → (a ≡ true) × (b ≡ true)
both_true true true is = (refl, refl)
both_true true false is = absurd cc
both_true false b is = absurd cc

-- transactions that are carried out may run
writing : (kind : TxKind) → may_write kind ≡ true → kind ≡ ReadWrite
writing ReadWrite is = refl
writing ReadOnly is = absurd cc

may_run : (t : Tx) → is_carried_out t ≡ true → MayRun t
may_run t is = record { writes = writing t.kind (both_true (may_write t.kind) (list_all is_taken t.statements) is).0 }

pub all_may_run : (body : List Tx) → list_all is_carried_out body ≡ true → All MayRun body
all_may_run [] is = All-nil MayRun
all_may_run (t ∷ ts) is = let both = both_true (is_carried_out t) (list_all is_carried_out ts) is in All-cons MayRun t ts (may_run t both.0) (all_may_run ts both.1)

pub items_may_run : (body items : List Tx) → items ≡ body → list_all is_carried_out body ≡ true → All MayRun items
items_may_run body items same is = all_may_run items (ap (list_all is_carried_out) same ∙ is)

all_behind : {X : Type 0} (test : X → Bool) (xs : List X) (x : X) → list_all test xs ≡ true → test x ≡ true → list_all test (xs ++ x ∷ []) ≡ true
all_behind test [] x is last = rw last refl
all_behind test (y ∷ ys) x is last = let both = both_true (test y) (list_all test ys) is in rw both.0 (all_behind test ys x both.1 last)

pub all_reversed : {X : Type 0} (test : X → Bool) (xs : List X) → list_all test xs ≡ true → list_all test (reverse xs) ≡ true
all_reversed test [] is = refl
all_reversed test (x ∷ xs) is =
    let both = both_true (test x) (list_all test xs) is in
    ap (list_all test) (reverse_onto xs x []) ∙ all_behind test (reverse xs) x (all_reversed test xs both.1) both.0

pub bodies_reversed : (bodies : List (List Tx)) → are_carried_out bodies ≡ true → are_carried_out (reverse bodies) ≡ true
bodies_reversed bodies is = all_reversed (list_all is_carried_out) bodies is

-- the last of some that wait
pub last_carried : (left : List (List Tx)) (body : List Tx) (others : List (List Tx)) → left ≡ others ++ body ∷ [] → are_carried_out left ≡ true → (list_all is_carried_out body ≡ true) × (are_carried_out others ≡ true)
last_carried left body others same is = parts others (sym (ap are_carried_out same) ∙ is)
  where
    parts : (xs : List (List Tx)) → are_carried_out (xs ++ body ∷ []) ≡ true → (list_all is_carried_out body ≡ true) × (are_carried_out xs ≡ true)
    parts [] e = ((both_true (list_all is_carried_out body) true e).0, refl)
    parts (x ∷ xs) e = let both = both_true (list_all is_carried_out x) (are_carried_out (xs ++ body ∷ [])) e in let rest = parts xs both.1 in (rest.0, rw both.0 rest.1)

-- why a script is not read is no failure of the outside
pub unread_unfailed : (X : Type 0) (client line : ℕ) (kind : ScriptKind) → IsUnfailed {X = X} (Err (unread_at client line kind))
unread_unfailed X client line kinds.NotUtf8 = tt
unread_unfailed X client line kinds.Token = tt
unread_unfailed X client line kinds.Expected = tt
unread_unfailed X client line kinds.Unsupported = tt
unread_unfailed X client line kinds.NumberRange = tt
unread_unfailed X client line kinds.Nested = tt
unread_unfailed X client line kinds.NotOpen = tt
unread_unfailed X client line kinds.TooLong = tt
unread_unfailed X client line kinds.Memory = tt

pub counts_since : (X : Type 0) (before mid : ℕ) (why : Unasked) → mid ≡ before → IsUnfailed {X = X} (Err why) → CountsScripts {X = X} before mid (Err why)
counts_since X before mid (NoScript client) same is = same
counts_since X before mid (BadScript client line kind) same is = same
counts_since X before mid NotBuilt same is = same
counts_since X before mid Failed same is = absurd is
counts_since X before mid Memory same is = same
