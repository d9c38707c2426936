-- The customer's demands as types (Demands), the calls that they speak of (Calls), the words that they use (Words, Gaps), and what
-- document 02 asks of the stricter reading and of rewriting (Rewriting), of states (Widths), of masks (Masks), of turns
-- (Turns), of saving between them (Saving) and of rules as expressions (Expressions).
pub mod Calls
pub mod Words
pub mod Gaps
pub mod Demands
pub mod Rewriting
pub mod Widths
pub mod Masks
pub mod Turns
pub mod Saving
pub mod Expressions
