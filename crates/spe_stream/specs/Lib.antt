pub mod Row
pub mod Shown
pub mod ShownLaws
pub mod Table
