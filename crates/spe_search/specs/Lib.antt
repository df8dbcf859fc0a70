pub mod Step
pub mod Found
pub mod Pairs
pub mod Range
pub mod Last
pub mod Leaves
pub mod Inside
pub mod Taking
