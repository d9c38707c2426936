-- `Rules`: what is said of one rule of a book; `Layers`: what is read off a book.
pub mod Rules
pub mod Layers
