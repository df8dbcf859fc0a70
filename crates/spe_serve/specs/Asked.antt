-- What the scripts of clients ask for: the transactions of each client, or the first reason why no client is served.
use Rattle.std.specs.Prelude.{◌≡◌, ℕ, ◌+◌, Bool, true, false, ◌&&◌, List, [], ◌∷◌, ◌++◌, length, map, Option, Some, None, Result, Ok, Err, Vec, codes, if◌then◌else◌}
use Rattle.std.specs.List.{list_all}
use Rattle.std.specs.Fmt.{decimal}
use Rattle.std.specs.Result.{result_map_both}
use Rattle.std.specs.declared.alloc.Global.{Global}
use Rattle.spe_model.specs.declared.statement.Statement.{Statement}
use Rattle.spe_model.specs.declared.statement.Statement.TheVariants as statements
use Rattle.spe_model.specs.declared.transaction.Tx.{Tx}
use Rattle.spe_model.specs.declared.transaction.TxKind.{TxKind}
use Rattle.spe_model.specs.declared.transaction.TxKind.TheVariants.{ReadWrite, ReadOnly}
use Rattle.spe_disk.specs.declared.scripts.ScriptFault.{ScriptFault}
use Rattle.spe_disk.specs.declared.scripts.ScriptFault.TheVariants as faults
use Rattle.spe_disk.specs.Listed.{next_number}
use Rattle.spe_disk.specs.Scripts.{Texts}
use Rattle.spe_script.specs.declared.fault.ScriptError.{ScriptError}
use Rattle.spe_script.specs.declared.fault.ScriptKind.{ScriptKind}
use Rattle.spe_script.specs.declared.fault.ScriptKind.TheVariants as kinds
use Rattle.spe_script.specs.Script.{script_of}
use Rattle.spe_serve.specs.declared.scripts.Unasked.{Unasked}
use Rattle.spe_serve.specs.declared.scripts.Unasked.TheVariants.{NoScript, BadScript, NotBuilt, Failed, Memory}

-- what is found behind others that were found
abbrev pub behind : {X : Type 0} → List X → Result (List X) Unasked → Result (List X) Unasked
behind found left = result_map_both (λ xs. found ++ xs) (λ e. e) left

-- the text of a script before those of others
abbrev pub text_before : (client : ℕ) → Option (List ℕ) → Result (List (List ℕ)) Unasked → Result (List (List ℕ)) Unasked
text_before client None others = Err (NoScript client)
text_before client (Some text) others = behind (text ∷ []) others

-- the texts of the scripts of these names, the first of which is the client's of this number, or the first that is missing
abbrev pub texts_from : Texts → (client : ℕ) → (names : List (List ℕ)) → Result (List (List ℕ)) Unasked
texts_from texts client [] = Ok []
texts_from texts client (name ∷ names) = text_before client (texts name) (texts_from texts (client + 1) names)

-- the transactions of a script before those of others
abbrev pub body_before : (client : ℕ) → Result (List Tx) ScriptError → Result (List (List Tx)) Unasked → Result (List (List Tx)) Unasked
body_before client (Err e) others = Err (BadScript client e.line e.kind)
body_before client (Ok body) others = behind (body ∷ []) others

-- the transactions of the scripts with these texts, or the first that is refused
abbrev pub bodies_from : (client : ℕ) → (texts : List (List ℕ)) → Result (List (List Tx)) Unasked
bodies_from client [] = Ok []
bodies_from client (text ∷ texts) = body_before client (script_of text) (bodies_from (client + 1) texts)

abbrev pub may_write : TxKind → Bool
may_write ReadWrite = true
may_write ReadOnly = false

-- a statement of a script is carried out so far: all but a DELETE
abbrev pub is_taken : Statement → Bool
is_taken (statements.Select name all columns conds) = true
is_taken (statements.Count name conds) = true
is_taken (statements.Insert name listed columns values) = true
is_taken (statements.Update name sets conds) = true
is_taken (statements.Delete name conds) = false

-- a transaction is carried out so far: it is none that only reads, and each of its statements is
abbrev pub is_carried_out : Tx → Bool
is_carried_out tx = may_write tx.kind && list_all is_taken tx.statements

-- so it is of all transactions of all clients
abbrev pub are_carried_out : List (List Tx) → Bool
are_carried_out bodies = list_all (list_all is_carried_out) bodies

abbrev pub built_bodies : List (List Tx) → Result (List (List Tx)) Unasked
built_bodies bodies = if are_carried_out bodies then Ok bodies else Err NotBuilt

-- what comes next, where nothing was wrong before
abbrev pub then_next : {X Y : Type 0} → Result X Unasked → (X → Result Y Unasked) → Result Y Unasked
then_next (Ok x) next = next x
then_next (Err e) next = Err e

-- The transactions of each client, by the names of their scripts; or the first reason why there are none: a script that is
-- missing, then one that is refused, and then a transaction that is not carried out.
abbrev pub asked_of : Texts → (names : List (List ℕ)) → Result (List (List Tx)) Unasked
asked_of texts names = then_next (then_next (texts_from texts 1 names) (bodies_from 1)) built_bodies

-- the reading of a script failed
abbrev pub unread : ScriptFault → Unasked
unread faults.Failed = Failed
unread (faults.Memory e) = Memory

-- a script was refused, or there was no memory for it
abbrev pub unread_at : (client line : ℕ) → ScriptKind → Unasked
unread_at client line kinds.Memory = Memory
unread_at client line kind = BadScript client line kind

-- a failure and want of memory may come at any time; every other answer is what there is
abbrev pub Gives : {X Y : Type 0} → (X → Y) → Result X Unasked → Result Y Unasked → Type 0
Gives view (Ok x) there = there ≡ Ok (view x)
Gives view (Err Failed) there = Unit {0}
Gives view (Err Memory) there = Unit {0}
Gives view (Err (NoScript client)) there = there ≡ Err (NoScript client)
Gives view (Err (BadScript client line kind)) there = there ≡ Err (BadScript client line kind)
Gives view (Err NotBuilt) there = there ≡ Err NotBuilt

abbrev pub text_seen : Vec ℕ Global → List ℕ
text_seen text = text.items

abbrev pub texts_seen : List (Vec ℕ Global) → List (List ℕ)
texts_seen texts = map text_seen texts

-- P of the texts, where they are told
abbrev pub IfTexts : Option Texts → (Texts → Type 0) → Type 0
IfTexts None P = Unit {0}
IfTexts (Some texts) P = P texts

-- the count of faults of the scripts is the next one where they failed, and else stays
abbrev pub CountsScripts : {X : Type 0} → (before now : ℕ) → Result X Unasked → Type 0
CountsScripts before now (Ok x) = now ≡ before
CountsScripts before now (Err Failed) = now ≡ next_number before
CountsScripts before now (Err e) = now ≡ before

-- nothing outside failed
abbrev pub IsUnfailed : {X : Type 0} → Result X Unasked → Type 0
IsUnfailed (Err Failed) = ⊥
IsUnfailed result = Unit {0}

-- the word for what is wrong with a script
abbrev pub word_of : ScriptKind → List ℕ
word_of kinds.NotUtf8 = codes "not-utf8"
word_of kinds.Token = codes "token"
word_of kinds.Expected = codes "expected"
word_of kinds.Unsupported = codes "unsupported"
word_of kinds.NumberRange = codes "number-range"
word_of kinds.Nested = codes "nested"
word_of kinds.NotOpen = codes "not-open"
word_of kinds.TooLong = codes "too-long"
word_of kinds.Memory = codes "memory"

abbrev pub script_text : (client line : ℕ) → ScriptKind → List ℕ
script_text client line kind = codes "refused script " ++ decimal client ++ codes " line " ++ decimal line ++ 32 ∷ word_of kind
