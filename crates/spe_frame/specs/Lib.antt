pub mod Times
pub mod Held
pub mod Laws
pub mod Pick
pub mod Header
pub mod Chain
pub mod Framed
