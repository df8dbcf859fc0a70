use Rattle.std.proofs.Common.{◌≡◌, List, min, subst}
use Rattle.spe_model.specs.declared.value.Value.{Value}
use Rattle.spe_model.specs.Length.{record_length}
use Rattle.spe_record.proofs.WrittenLemmas.{record_cut}
use Rattle.spe_record.proofs.length.encoded_length.Goals as goal

pub returns : goal.returns
returns c =
    subst (λ (vs : List Value). c.saturating_add.result ≡ min (record_length c.args.alias vs) 18446744073709551615) c.as_slice-values.ensures
    (record_cut c.args.alias c.as_slice-values.result.now c.types_length.result c.header_length.result c.bodies_length.result c.saturating_add.result c.types_length.ensures
    c.header_length.ensures c.bodies_length.ensures c.saturating_add.ensures)
