pub mod Ended
pub mod Serial
pub mod Report
pub mod Cuts
pub mod Plain
pub mod Script
pub mod Place
pub mod SoFar
