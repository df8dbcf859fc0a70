pub mod Write
pub mod Rollback
pub mod Trace
pub mod Pages
