use Rattle.std.proofs.Common.{sym, arith}
use Rattle.std.proofs.lemmas.List.{length-take-le}
use Rattle.spe_session.proofs.front.is_front_of.Goals as goal

pub slice_bounds-read-end : goal.slice_bounds-read-end
slice_bounds-read-end c = sym (length-take-le 100 c.args.bytes.now (omega (arith, c.requires.long)))
