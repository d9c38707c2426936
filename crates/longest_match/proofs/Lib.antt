-- The choice of a token and the cut: the laws that every layer above cites (First, Longest, Choosing, Lexing, Held, Parts), the steps of a
-- choice (Lengths, Picking), and the loop of `count` (Cutting).
pub mod First
pub mod Longest
pub mod Choosing
pub mod Lexing
pub mod Held
pub mod Parts
pub mod Lengths
pub mod Picking
pub mod Far
pub mod Agreeing
pub mod Cutting
