use Rattle.std.proofs.Common.{arith, length, ap}
use Rattle.spe_format.specs.Canonical.{left_bytes, payload_bytes, key_bytes, chain_bytes}
use Rattle.spe_format.proofs.SpliceLemmas.{five_parts}
use Rattle.spe_format.proofs.canonical.put_cell.Goals as goal

pub returns : goal.returns
returns c =
    let kind = c.args.kind in
    let cell = c.args.cell.now in
    five_parts c.args.at _ _ _ _ (left_bytes kind cell) (payload_bytes kind cell) (key_bytes kind cell) cell.local (chain_bytes cell) c.args.page.now
    _ _ _ _ _ (omega (arith, c.put_left.ensures.len)) (omega (arith, c.put_payload.ensures.len)) (omega (arith, c.put_key.ensures.len))
    (omega (arith, ap length c.as_slice-local.ensures)) (omega (arith, c.requires)) c.put_left.ensures.bytes c.put_payload.ensures.bytes c.put_key.ensures.bytes
    (rw c.as_slice-local.ensures at c.put_bytes.ensures) c.put_chain.ensures
