use Rattle.std.proofs.Common.{◌≡◌, ℕ, ◌^◌, List, length, true, false, subst, arith}
use Rattle.std.specs.Prelude.{nat_lt}
use Rattle.std.specs.Str.{is_utf8}
use Rattle.std.proofs.lemmas.Bool.{false_from_ne_true}
use Rattle.std.proofs.lemmas.Bool.Decides.{nat_tests}
use Rattle.std.proofs.lemmas.Str.{IsUtf8-from_is_utf8, is_utf8-from_IsUtf8}
use Rattle.spe_script.specs.Script.{txs_in}
use Rattle.spe_script.specs.Read.{IsRead}
use Rattle.spe_script.proofs.ReadingLemmas.{script_is}
use Rattle.spe_script.proofs.reading.read_script.Goals as goal

pub returns-in_default : goal.returns-in_default
returns-in_default c =
    let short : nat_lt (2 ^ 24) (length c.args.bytes.now) ≡ false = grind (arith, nat_tests) in
    let text : is_utf8 c.args.bytes.now ≡ false = false_from_ne_true _ (λ t. c.in_default.ensures.cases.0 (IsUtf8-from_is_utf8 c.args.bytes.now t)) in
    script_is c.args.bytes.now false false short text

pub returns : goal.returns
returns c =
    let short : nat_lt (2 ^ 24) (length c.args.bytes.now) ≡ false = grind (arith, nat_tests) in
    let text : is_utf8 c.args.bytes.now ≡ true = is_utf8-from_IsUtf8 c.args.bytes.now c.in-Ok.ensures.cases.1 in
    rw (script_is c.args.bytes.now false true short text)
    (c.located.ensures (txs_in c.args.bytes.now)
    (subst (λ (bytes : List ℕ). IsRead c.read_text.result (txs_in bytes)) c.in-Ok.ensures.cases.0 c.read_text.ensures))
