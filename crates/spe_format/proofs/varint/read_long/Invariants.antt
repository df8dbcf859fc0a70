use Rattle.std.proofs.Common.{◌≡◌, ◌^◌, ◌<◌, ◌≤◌, drop}
use Rattle.spe_model.specs.Varint.{varint_from, varint_of}
use Rattle.spe_format.proofs.varint.read_long.Given as goal

abbrev pub invariant-loop-read : goal.invariant-loop-read
invariant-loop-read l = record {
  read : l.read ≤ 8;
  value : l.value < 128 ^ l.read;
  rest : varint_from l.read l.value (drop l.read l.bytes) ≡ varint_of l.bytes;
}
