use Rattle.std.proofs.Common.{◌≡◌, ◌+◌, ◌<◌, ◌^◌, length}
use Rattle.std.specs.Str.{IsUtf8}
use Rattle.spe_lex.specs.Front.{front_from}
use Rattle.spe_lex.proofs.cursor.Cursor.next.Given as goal

abbrev pub invariant-gaps : goal.invariant-gaps
invariant-gaps l = record {
  read : front_from l.at 0 l.left ≡ front_from l.self-inside.at 0 l.self-inside.left.now;
  same : front_from l.self-inside.at 0 l.self-inside.left.now ≡ l.fn.self;
  kept : l.self-inside.at + length l.self-inside.left.now < 2 ^ 63;
  rest : l.at + length l.left < 2 ^ 63;
  text : IsUtf8 l.left;
}

abbrev pub decreases-gaps : goal.decreases-gaps
decreases-gaps l = length l.left
