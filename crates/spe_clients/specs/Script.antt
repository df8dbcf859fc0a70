-- What clients ask.
use Rattle.std.specs.Prelude.{◌≡◌}
use Rattle.spe_model.specs.declared.transaction.Tx.{Tx}
use Rattle.spe_model.specs.declared.transaction.TxKind.TheVariants.{ReadWrite}

-- a transaction may write
pub record MayRun (t : Tx) : Type 0 where
  pub writes : t.kind ≡ ReadWrite
