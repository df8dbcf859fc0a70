-- What holds of the parts of a core, and what an event makes of them.
use Rattle.std.specs.Prelude.{◌≡◌, ℕ, ◌+◌, List, [], ◌∷◌, if◌then◌else◌}
use Rattle.spe_core.specs.declared.event.Event.{Event, out-Event}
use Rattle.spe_core.specs.declared.event.Event.TheOpen.{Event-F}
use Rattle.spe_core.specs.declared.event.Answer.{Answer}
use Rattle.spe_core.specs.declared.event.Answer.TheVariants.{Done, Refused}
use Rattle.spe_core.specs.declared.parts.Parts.{Parts}
use Rattle.spe_core.specs.Becomes.{count_after}
use Rattle.spe_core.specs.Enabled.{count_of, enabled}
use Rattle.spe_core.specs.Opened.{Opened}
use Rattle.spe_core.specs.Parts.{state_of}
use Rattle.spe_core.specs.Serial.{next}
use Rattle.spe_core.specs.Sound.{IsSound}
use Rattle.spe_core.specs.State.{State}

-- the state is sound, and the number of its recovered pages is known
pub record IsHeld (parts : Parts) : Type 0 where
  pub sound : IsSound (state_of parts)
  pub count : parts.pages ≡ count_of (state_of parts)

-- the parts are now those of this state
pub record AreOf (parts : Parts) (s : State) : Type 0 where
  pub state : state_of parts ≡ s
  pub pages : parts.pages ≡ count_of s

-- the number of recovered pages after an event that is enabled
abbrev pub count_next_at : State → Opened → ℕ
count_next_at s (Event-F.CommitCut id) = count_after s id
count_next_at s _ = count_of s

abbrev pub count_next : State → Event → ℕ
count_next s e = count_next_at s (out-Event e)

-- an event is done exactly where it is enabled
abbrev pub answer_of : State → Event → Answer
answer_of s e = if enabled s e then Done else Refused

abbrev pub count_done : Answer → ℕ
count_done Done = 1
count_done Refused = 0

-- how many of some events are done, each in the state after those before it
abbrev pub done_count : State → List Event → ℕ
done_count s [] = 0
done_count s (e ∷ es) = count_done (answer_of s e) + done_count (next s e) es
