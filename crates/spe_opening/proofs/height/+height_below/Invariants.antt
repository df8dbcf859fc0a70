use Rattle.spe_opening.proofs.height.+height_below.Given as goal

abbrev pub decreases-height_below : goal.decreases-height_below
decreases-height_below g l = l.levels
