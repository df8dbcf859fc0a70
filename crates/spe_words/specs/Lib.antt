pub mod Found
pub mod Grammar
pub mod Line
pub mod Syntax
