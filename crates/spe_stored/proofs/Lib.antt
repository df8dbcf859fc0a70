pub mod LaidLemmas
pub mod KeptLemmas
pub mod FilesLemmas
pub mod SheetsLemmas
pub mod UndoLemmas
pub mod PlanLemmas
