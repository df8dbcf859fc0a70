pub mod Law
pub mod Bounds
pub mod Roots
pub mod Frames
