-- The fields of a schema row.
use Rattle.std.specs.Prelude.{ℕ, List, Option, Some, None}
use Rattle.spe_model.specs.declared.value.Value.{Value}
use Rattle.spe_model.specs.declared.value.Value.TheVariants.{Text}

abbrev pub text_in : Value → Option (List ℕ)
text_in (Text t) = Some t
text_in _ = None
