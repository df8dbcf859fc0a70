-- The phases of the code as those of a state.
use Rattle.spe_core.specs.State as state
use Rattle.spe_core.specs.State.{Phase}
use Rattle.spe_core.specs.declared.live.Phase.{Phase as Held}
use Rattle.spe_core.specs.declared.live.Phase.TheVariants.{Working, Undoing, Ended}

abbrev pub phase_of : Held → Phase
phase_of Working = state.Working
phase_of Undoing = state.Undoing
phase_of Ended = state.Ended
