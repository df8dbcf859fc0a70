-- What is gathered of a script whose stretches are read one after the other.
use Rattle.std.specs.Prelude.{◌≡◌, ◌++◌, ℕ, Bool, true, false, List, [], Option, Some, None}
use Rattle.spe_model.specs.declared.transaction.Tx.{Tx}
use Rattle.spe_lex.specs.Front.{Front}
use Rattle.spe_script.specs.declared.part.Border.{Border}
use Rattle.spe_script.specs.declared.part.Border.TheVariants.{Semicolon}
use Rattle.spe_script.specs.declared.part.Item.{Item}
use Rattle.spe_script.specs.Script.{Open, Stretch, item_before, opens, stretches, txs_of}

-- the transactions that are ended, and the one that is open, if one is
abbrev pub Gathered : Type 0
Gathered = List Tx × Option Open

abbrev pub is_open : Gathered → Bool
is_open (done, None) = false
is_open (done, Some transaction) = true

-- all transactions, if these items follow
abbrev pub txs_before : Gathered → List Item → List Tx
txs_before gathered others = gathered.0 ++ txs_of others gathered.1

-- what is gathered then has this item in it, whatever items follow
pub record TakesItem (item : Option Item) (before after : Gathered) : Type 0 where
  pub txs : (others : List Item) → txs_before after others ≡ txs_before before (item_before item others)
  pub opened : is_open after ≡ opens (is_open before) item

-- the stretches behind a border
abbrev pub stretches_behind : ℕ → Border → Front → List Stretch
stretches_behind size (Semicolon at) front = stretches size front
stretches_behind size border front = []
