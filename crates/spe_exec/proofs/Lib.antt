mod BoundsLemmas
mod RowsLemmas
mod KeysLemmas
mod ChosenLemmas
mod TableLemmas
mod ReadsLemmas
mod AddsLemmas
mod MissesLemmas
mod JustifyingLemmas
mod InsideLemmas
mod GetsLemmas
mod StoredLemmas
mod InsertLemmas
mod OpenLemmas
mod WritesLemmas
pub mod ChangingLemmas
pub mod UpdateLemmas
pub mod UpdatingLemmas
pub mod DeletingLemmas
