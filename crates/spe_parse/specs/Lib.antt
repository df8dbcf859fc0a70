pub mod Part
pub mod Word
pub mod Number
pub mod Clause
pub mod Grammar
pub mod Read
pub mod Answer
