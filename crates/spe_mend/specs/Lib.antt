pub mod Thin
pub mod Pair
pub mod Stretch
pub mod Mended
pub mod Filled
