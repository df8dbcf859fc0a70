-- The bytes of a script.
use Rattle.std.proofs.Common.{◌≡◌, ℕ, ◌^◌, List, length, Bool, Result, Err, ◌∙◌, ap, if◌then◌else◌}
use Rattle.std.specs.Prelude.{nat_lt}
use Rattle.std.specs.Str.{is_utf8}
use Rattle.spe_model.specs.declared.transaction.Tx.{Tx}
use Rattle.spe_script.specs.declared.fault.ScriptError.{ScriptError}
use Rattle.spe_script.specs.declared.fault.ScriptKind.TheVariants as kinds
use Rattle.spe_script.specs.Script.{located, script_of, txs_in}

-- what a script is, given whether it is too long and whether it is text
abbrev pub script_by : List ℕ → Bool → Bool → Result (List Tx) ScriptError
script_by bytes long text =
    if long then Err (record { line = 0; kind = kinds.TooLong })
    else (if text then located bytes (txs_in bytes) else Err (record { line = 0; kind = kinds.NotUtf8 }))

pub script_is : (bytes : List ℕ) (long text : Bool) → nat_lt (2 ^ 24) (length bytes) ≡ long → is_utf8 bytes ≡ text → script_of bytes ≡ script_by bytes long text
unfolding script_of
script_is bytes long text l t = ap (λ (b : Bool). script_by bytes b (is_utf8 bytes)) l ∙ ap (script_by bytes long) t
