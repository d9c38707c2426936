-- A proof of each demand (Demands), and what these rest on: `lex` goes by longest match (LongestMatch), what the printers accept, in
-- the words of the demands (Separable, Spacing), a list in every form (Forms), what stands in the lent buffers (Untouched), how many
-- separators a list wants (Gaps, Fewest), what becomes of STEP (Rewriting), which states there are (Widths), which rules agree on a
-- token (Masks), what turns give (Turns), that it can be saved between them (Saving), and the rules of expressions (Expressions).
pub mod LongestMatch
pub mod Separable
pub mod Forms
pub mod Untouched
pub mod Spacing
pub mod Gaps
pub mod Fewest
pub mod Demands
pub mod Rewriting
pub mod Widths
pub mod Masks
pub mod Turns
pub mod Saving
pub mod Expressions
