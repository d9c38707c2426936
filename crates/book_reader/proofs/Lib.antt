-- `Rules`: one rule of a book.
pub mod Rules
