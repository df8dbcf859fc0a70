use Rattle.std.proofs.Common.{ap, sym}
use Rattle.spe_record.specs.declared.fields.Field.{Field}
use Rattle.spe_record.specs.Fields.{field_seen}
use Rattle.spe_render.specs.Values.{value_text}
use Rattle.spe_render.proofs.PassesLemmas.{printed, then}
use Rattle.spe_render.proofs.values.put_field.Goals as goal

pub returns-in-Text : goal.returns-in-Text
returns-in-Text g c = printed (sym (ap (λ (f : Field). value_text (field_seen f)) c.in-Text.is)) (then c.byte.ensures (then c.put_quoted.ensures c.byte-in-Text.ensures))

pub returns-in-Blob : goal.returns-in-Blob
returns-in-Blob g c = printed (sym (ap (λ (f : Field). value_text (field_seen f)) c.in-Blob.is)) (then c.bytes-in-Blob.ensures (then c.put_hex.ensures c.byte-in-Blob.ensures))

pub returns-in-Real8 : goal.returns-in-Real8
returns-in-Real8 g c =
    printed (sym (ap (λ (f : Field). value_text (field_seen f)) c.in-Real8.is)) (then c.bytes-in-Real8.ensures (then c.put_hex-in-Real8.ensures c.byte-in-Real8.ensures))
