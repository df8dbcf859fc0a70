pub mod KeysLemmas
pub mod EveryLemmas
pub mod TableLemmas
pub mod KeptLemmas
pub mod ObjectLemmas
pub mod ChangeLemmas
