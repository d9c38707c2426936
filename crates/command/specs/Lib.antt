-- The commands of a book, as they stand in its bytes.
pub mod Commands
