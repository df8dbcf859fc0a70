use Rattle.std.proofs.Common.{◌≡◌, ◌++◌, length, drop}
use Rattle.spe_format.proofs.legal.LegalPage.copied.Given as goal

abbrev pub invariant-loop-parts : goal.invariant-loop-parts
invariant-loop-parts l = l.cells.items ++ drop l.index l.self.cells ≡ l.self.cells

abbrev pub decreases-loop-parts : goal.decreases-loop-parts
decreases-loop-parts l = length (drop l.index l.self.cells)
