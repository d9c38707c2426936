-- An answer's word, and what a word says.
pub mod Words
