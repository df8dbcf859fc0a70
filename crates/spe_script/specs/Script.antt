-- Scripts. (This project's own.)
use Rattle.std.specs.Prelude.{ℕ, ◌+◌, ◌^◌, nat_lt, ◌==◌, Bool, true, false, ◌||◌, List, [], ◌∷◌, ◌++◌, length, take, Option, Some, None, Result, Ok, Err, codes, if◌then◌else◌}
use Rattle.std.specs.List.{count_by}
use Rattle.std.specs.Str.{is_utf8}
use Rattle.spe_model.specs.declared.statement.Statement.{Statement}
use Rattle.spe_model.specs.declared.token.SqlKind.{SqlKind}
use Rattle.spe_model.specs.declared.token.SqlKind.TheVariants as sql
use Rattle.spe_model.specs.declared.transaction.Tx.{Tx}
use Rattle.spe_model.specs.declared.transaction.TxKind.{TxKind}
use Rattle.spe_model.specs.declared.transaction.TxKind.TheVariants.{ReadWrite}
use Rattle.spe_model.specs.declared.transaction.End.{End}
use Rattle.spe_model.specs.declared.transaction.End.TheVariants.{Commit, Rollback}
use Rattle.spe_model.specs.Definition.{is_sign}
use Rattle.spe_model.specs.Token.{Lexeme, map_ok}
use Rattle.spe_lex.specs.Front.{Front, front_of}
use Rattle.spe_parse.specs.declared.halt.Halt.{Halt}
use Rattle.spe_parse.specs.declared.halt.Halt.TheVariants.{Fault}
use Rattle.spe_script.specs.declared.fault.Misread.{Misread}
use Rattle.spe_script.specs.declared.fault.ScriptError.{ScriptError}
use Rattle.spe_script.specs.declared.fault.ScriptKind.{ScriptKind}
use Rattle.spe_script.specs.declared.fault.ScriptKind.TheVariants as kinds
use Rattle.spe_script.specs.declared.part.Border.{Border}
use Rattle.spe_script.specs.declared.part.Border.TheVariants.{Semicolon, TextEnd, NoToken}
use Rattle.spe_script.specs.declared.part.Item.{Item}
use Rattle.spe_script.specs.declared.part.Item.TheVariants as items
use Rattle.spe_script.specs.Item.{begins, commits, rolls_back, whole_item}

-- the tokens between two semicolons, and what stands behind them
abbrev pub Stretch : Type 0
Stretch = List Lexeme × Border

-- tokens in front of the first stretch
abbrev pub ahead : List Lexeme → List Stretch → List Stretch
ahead found [] = []
ahead found (s ∷ others) = (found ++ s.0, s.1) ∷ others

abbrev pub last_border : ℕ → Option ℕ → Border
last_border size None = TextEnd size
last_border size (Some at) = NoToken at

-- the stretches between the semicolons of a text of this size, given its tokens and its fault
abbrev pub stretches_in : ℕ → List Lexeme → Option ℕ → List Stretch
stretches_in size [] fault = ([], last_border size fault) ∷ []
stretches_in size (x ∷ xs) fault =
    if is_sign (codes ";") x then ([], Semicolon x.at) ∷ stretches_in size xs fault else ahead (x ∷ []) (stretches_in size xs fault)

abbrev pub stretches : ℕ → Front → List Stretch
stretches size front = stretches_in size front.0 front.1

abbrev pub kind_of : SqlKind → ScriptKind
kind_of sql.Token = kinds.Token
kind_of sql.Expected = kinds.Expected
kind_of sql.Unsupported = kinds.Unsupported
kind_of sql.NumberRange = kinds.NumberRange
kind_of sql.Memory = kinds.Memory

-- the fault where a stretch ends too early
abbrev pub border_fault : Border → Misread
border_fault (Semicolon at) = record { at = at; kind = kinds.Expected }
border_fault (TextEnd at) = record { at = at; kind = kinds.Expected }
border_fault (NoToken at) = record { at = at; kind = kinds.Token }

abbrev pub misread_of : Border → Halt → Misread
misread_of border (Fault fault) = record { at = fault.at; kind = kind_of fault.kind }
misread_of border _ = border_fault border

-- a stretch that is read up to its end is good where a token or nothing stands there
abbrev pub closed : {A : Type 0} → Border → A → Result A Misread
closed (NoToken at) found = Err (border_fault (NoToken at))
closed _ found = Ok found

abbrev pub answer_of : Border → Result Item Halt → Result (Option Item) Misread
answer_of border (Ok item) = closed border (Some item)
answer_of border (Err halt) = Err (misread_of border halt)

-- BEGIN inside a transaction, or COMMIT, END or ROLLBACK outside one
abbrev pub misplaced : Bool → List Lexeme → Option ScriptKind
misplaced true xs = if begins xs then Some kinds.Nested else None
misplaced false xs = if commits xs || rolls_back xs then Some kinds.NotOpen else None

abbrev pub unless_misplaced : {A : Type 0} → Option ScriptKind → ℕ → Result A Misread → Result A Misread
unless_misplaced None at reading = reading
unless_misplaced (Some kind) at reading = Err (record { at = at; kind = kind })

-- the item that a stretch is, if it is one, where a transaction is open or not
abbrev pub item_of : Bool → List Lexeme → Border → Result (Option Item) Misread
item_of is_open [] border = closed border None
item_of is_open (x ∷ xs) border = unless_misplaced (misplaced is_open (x ∷ xs)) x.at (answer_of border (whole_item (x ∷ xs)))

-- whether a transaction is open behind an item
abbrev pub opens : Bool → Option Item → Bool
opens is_open (Some (items.Begin kind)) = true
opens is_open (Some (items.Close end)) = false
opens is_open _ = is_open

abbrev pub item_before : Option Item → List Item → List Item
item_before None others = others
item_before (Some item) others = item ∷ others

abbrev pub items_behind : Result (Option Item) Misread → (Option Item → Result (List Item) Misread) → Result (List Item) Misread
items_behind (Err misread) others = Err misread
items_behind (Ok item) others = map_ok (item_before item) (others item)

-- the items of a script, in order
abbrev pub items_from : Bool → List Stretch → Result (List Item) Misread
items_from is_open [] = Ok []
items_from is_open (s ∷ others) = items_behind (item_of is_open s.0 s.1) (λ item. items_from (opens is_open item) others)

-- a transaction that is open: its kind, and its statements so far
abbrev pub Open : Type 0
Open = TxKind × List Statement

abbrev pub tx : Open → End → Tx
tx transaction end = record { kind = transaction.0; statements = transaction.1; end = end }

-- an open transaction ends so
abbrev pub ended : End → Option Open → List Tx
ended end None = []
ended end (Some transaction) = tx transaction end ∷ []

-- The transactions that items make. A statement outside is one by itself, and one that is open at the end is rolled back.
abbrev pub txs_of : List Item → Option Open → List Tx
txs_of [] transaction = ended Rollback transaction
txs_of (items.Begin kind ∷ others) transaction = txs_of others (Some (kind, []))
txs_of (items.Close end ∷ others) transaction = ended end transaction ++ txs_of others None
txs_of (items.Statement statement ∷ others) None = tx (ReadWrite, statement ∷ []) Commit ∷ txs_of others None
txs_of (items.Statement statement ∷ others) (Some transaction) = txs_of others (Some (transaction.0, transaction.1 ++ (statement ∷ [])))

-- the transactions of a text, or its first fault by place
abbrev pub txs_in : List ℕ → Result (List Tx) Misread
txs_in text = map_ok (λ found. txs_of found None) (items_from false (stretches (length text) (front_of text)))

abbrev pub is_line_feed : ℕ → Bool
is_line_feed b = b == 10

-- the line of a place, from 1
abbrev pub line_of : List ℕ → ℕ → ℕ
line_of text at = 1 + count_by is_line_feed (take at text)

abbrev pub located : List ℕ → Result (List Tx) Misread → Result (List Tx) ScriptError
located text (Ok txs) = Ok txs
located text (Err misread) = Err (record { line = line_of text misread.at; kind = misread.kind })

-- the transactions that a script is, or its first fault by place
unfoldable pub script_of : List ℕ → Result (List Tx) ScriptError
script_of bytes =
    if nat_lt (2 ^ 24) (length bytes) then Err (record { line = 0; kind = kinds.TooLong })
    else (if is_utf8 bytes then located bytes (txs_in bytes) else Err (record { line = 0; kind = kinds.NotUtf8 }))
