-- Stretches that are read one after the other.
use Rattle.std.proofs.Common.{◌≡◌, List, ◌∷◌, Bool, Option, Result, Ok, Err, refl, sym, ◌∙◌, ap}
use Rattle.spe_model.specs.declared.transaction.Tx.{Tx}
use Rattle.spe_model.specs.Token.{Lexeme, map_ok}
use Rattle.spe_script.specs.declared.fault.Misread.{Misread}
use Rattle.spe_script.specs.declared.fault.ScriptKind.{ScriptKind}
use Rattle.spe_script.specs.declared.fault.ScriptKind.TheVariants.{NotUtf8, Token, Expected, Unsupported, NumberRange, Nested, NotOpen, TooLong, Memory}
use Rattle.spe_script.specs.declared.part.Border.{Border}
use Rattle.spe_script.specs.declared.part.Item.{Item}
use Rattle.spe_script.specs.Script.{Stretch, item_before, item_of, items_behind, items_from, opens}
use Rattle.spe_script.specs.Read.{IsMisreadOf}
use Rattle.spe_script.specs.Gathered.{Gathered, TakesItem, is_open, txs_before}

abbrev items_ok : List Item → Result (List Item) Misread
items_ok found = Ok found

abbrev pub found_ok : Option Item → Result (Option Item) Misread
found_ok item = Ok item

abbrev pub txs_ok : List Tx → Result (List Tx) Misread
txs_ok txs = Ok txs

-- all transactions, given what is gathered and what stands behind it
abbrev pub gathers : Gathered → List Stretch → Result (List Tx) Misread
gathers gathered others = map_ok (txs_before gathered) (items_from (is_open gathered) others)

taken : (item : Option Item) (before after : Gathered) (reading : Result (List Item) Misread) → TakesItem item before after
    → map_ok (txs_before before) (map_ok (item_before item) reading) ≡ map_ok (txs_before after) reading
taken item before after (Ok others) takes = ap txs_ok (sym (takes.txs others))
taken item before after (Err misread) takes = refl

-- the same of the first stretch, once it is read
abbrev reads_first : Gathered → List Stretch → Result (Option Item) Misread → Result (List Tx) Misread
reads_first before others reading = map_ok (txs_before before) (items_behind reading (λ item. items_from (opens (is_open before) item) others))

-- a stretch whose item is taken
pub stretch_taken : (tokens : List Lexeme) (border : Border) (item : Option Item) (before after : Gathered) (all others : List Stretch)
    → all ≡ (tokens, border) ∷ others → item_of (is_open before) tokens border ≡ found_ok item → TakesItem item before after
    → gathers before all ≡ gathers after others
stretch_taken tokens border item before after all others e found takes =
    ap (gathers before) e
    ∙ (ap (reads_first before others) found
    ∙ (taken item before after (items_from (opens (is_open before) item) others) takes
    ∙ ap (λ (b : Bool). map_ok (txs_before after) (items_from b others)) (sym takes.opened)))

fails : (tokens : List Lexeme) (border : Border) (misread : Misread) (before : Gathered) (all others : List Stretch)
    → all ≡ (tokens, border) ∷ others → item_of (is_open before) tokens border ≡ Err misread → gathers before all ≡ Err misread
fails tokens border misread before all others e found = ap (gathers before) e ∙ ap (reads_first before others) found

carried : {X Y : Type 0} (kind : ScriptKind) (misread : Misread) (a : Result X Misread) (b : Result Y Misread) → (a ≡ Err misread → b ≡ Err misread)
    → IsMisreadOf kind misread a → IsMisreadOf kind misread b
carried NotUtf8 misread a b f is = f is
carried Token misread a b f is = f is
carried Expected misread a b f is = f is
carried Unsupported misread a b f is = f is
carried NumberRange misread a b f is = f is
carried Nested misread a b f is = f is
carried NotOpen misread a b f is = f is
carried TooLong misread a b f is = f is
carried Memory misread a b f is = tt

-- a stretch that is wrong
pub stretch_wrong : (tokens : List Lexeme) (border : Border) (misread : Misread) (before : Gathered) (all others : List Stretch) (reading : Result (List Tx) Misread)
    → all ≡ (tokens, border) ∷ others → gathers before all ≡ reading → IsMisreadOf misread.kind misread (item_of (is_open before) tokens border)
    → IsMisreadOf misread.kind misread reading
stretch_wrong tokens border misread before all others reading e same is =
    carried misread.kind misread (item_of (is_open before) tokens border) reading (λ found. sym same ∙ fails tokens border misread before all others e found) is
