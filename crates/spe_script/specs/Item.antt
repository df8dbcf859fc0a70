-- The items of a script. (This project's own.)
use Rattle.std.specs.Prelude.{Bool, ◌||◌, List, drop, Result, Ok, codes, if◌then◌else◌}
use Rattle.spe_model.specs.declared.transaction.TxKind.TheVariants.{ReadWrite, ReadOnly}
use Rattle.spe_model.specs.declared.transaction.End.TheVariants.{Commit, Rollback}
use Rattle.spe_model.specs.Definition.{is_word}
use Rattle.spe_model.specs.Token.{Lexeme}
use Rattle.spe_parse.specs.declared.halt.Halt.{Halt}
use Rattle.spe_parse.specs.Part.{Part, ◌>>=◌, stands}
use Rattle.spe_parse.specs.Grammar.{statement_at, if_nothing}
use Rattle.spe_script.specs.declared.part.Item.{Item}
use Rattle.spe_script.specs.declared.part.Item.TheVariants as items

abbrev pub begins : List Lexeme → Bool
begins xs = stands (is_word (codes "BEGIN")) xs

abbrev pub commits : List Lexeme → Bool
commits xs = stands (is_word (codes "COMMIT")) xs || stands (is_word (codes "END")) xs

abbrev pub rolls_back : List Lexeme → Bool
rolls_back xs = stands (is_word (codes "ROLLBACK")) xs

-- the word TRANSACTION may be written
abbrev pub past_transaction : List Lexeme → List Lexeme
past_transaction xs = if stands (is_word (codes "TRANSACTION")) xs then drop 1 xs else xs

-- behind BEGIN
unfoldable pub begin_at : List Lexeme → Part Item
begin_at xs =
    if stands (is_word (codes "READONLY")) xs then Ok (items.Begin ReadOnly, drop 1 xs) else Ok (items.Begin ReadWrite, past_transaction xs)

-- an item
unfoldable pub item_at : List Lexeme → Part Item
item_at xs =
    if begins xs then begin_at (drop 1 xs)
    else (if commits xs then Ok (items.Close Commit, past_transaction (drop 1 xs))
    else (if rolls_back xs then Ok (items.Close Rollback, past_transaction (drop 1 xs))
    else (statement_at xs >>= λ found. Ok (items.Statement found.0, found.1))))

-- an item, with nothing behind it
unfoldable pub whole_item : List Lexeme → Result Item Halt
whole_item xs = item_at xs >>= λ found. if_nothing found.0 found.1
