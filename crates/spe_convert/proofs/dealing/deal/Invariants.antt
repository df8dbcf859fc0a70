use Rattle.std.proofs.Common.{◌≡◌, ◌++◌, drop, length}
use Rattle.spe_convert.specs.Dealt.{dealt, made_of}
use Rattle.spe_convert.proofs.dealing.deal.Given as goal

abbrev pub invariant-loop-index : goal.invariant-loop-index
invariant-loop-index l = record {
  lists : l.lists ≡ length l.fn.firsts;
  long : length l.firsts ≡ length l.fn.firsts;
  firsts : dealt l.fn.most (length l.fn.firsts) l.index l.firsts (drop l.index l.fn.pages) ≡ dealt l.fn.most (length l.fn.firsts) 0 l.fn.firsts l.fn.pages;
  others : l.others.items ++ made_of l.fn.most (length l.fn.firsts) l.index l.firsts (drop l.index l.fn.pages)
      ≡ l.fn.others.items ++ made_of l.fn.most (length l.fn.firsts) 0 l.fn.firsts l.fn.pages;
}
