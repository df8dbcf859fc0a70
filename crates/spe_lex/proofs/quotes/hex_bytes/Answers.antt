use Rattle.std.proofs.Common.{◌∙◌, ap}
use Rattle.spe_model.specs.Token.{blob_bytes, inner, hex_pairs}
use Rattle.spe_lex.proofs.HexLemmas.{decoded_is, decoded_unless, tail_is}
use Rattle.spe_lex.proofs.quotes.hex_bytes.Goals as goal

pub unreachable-requires : goal.unreachable-requires
unreachable-requires c =
    c.in_default-fault.not-OutOfMemory
    (decoded_unless c.inner.result.now c.in-Err.fault (rw (c.inner.ensures, tail_is c.args.text.now) c.requires) c.in-Err.ensures.err)

pub returns-in-Ok : goal.returns-in-Ok
unfolding blob_bytes
returns-in-Ok c =
    c.new-in-Ok.ensures
    ∙ (decoded_is c.inner.result.now c.in-Ok.bytes.items (rw (c.inner.ensures, tail_is c.args.text.now) c.requires) c.in-Ok.ensures.ok
    ∙ ap hex_pairs (c.inner.ensures ∙ ap inner (tail_is c.args.text.now)))
