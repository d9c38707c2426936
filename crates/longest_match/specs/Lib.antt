-- The cut of a text, and what the printers ask of it (Lexer); the choice of a token in the steps of 8.4 (Steps); the rules that agree on
-- a token (Masks); what the code answers of the rules that a table holds (Layers).
pub mod Lexer
pub mod Steps
pub mod Masks
pub mod Layers
