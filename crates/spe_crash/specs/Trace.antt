-- Cuts of traces.
use Rattle.std.specs.Prelude.{List}
use Rattle.spe_model.specs.Content.{Content}
use Rattle.spe_model.specs.Covered.{Covered}
use Rattle.spe_model.specs.Trace.{IsCut, Operation}

-- a stop may leave all of a trace
abbrev pub WholeIsCut : Type 0
WholeIsCut = (trace : List Operation) → IsCut trace trace

-- what a stop leaves of a covered trace is covered
abbrev pub CutIsCovered : Type 0
CutIsCovered = (content : Content) (trace cut : List Operation) → Covered content trace → IsCut trace cut → Covered content cut
