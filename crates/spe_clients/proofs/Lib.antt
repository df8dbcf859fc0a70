mod ListLemmas
mod EntryLemmas
mod StepLemmas
mod EndLemmas
mod TurnLemmas
