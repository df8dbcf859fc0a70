pub mod Piece
pub mod Lexed
pub mod Front
pub mod Begins
pub mod Reading
