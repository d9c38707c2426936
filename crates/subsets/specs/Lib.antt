-- `States`: the sets of positions that are reached, and the table of where they lead. `Layers`: what functions answer.
-- `Numbering`: the numbers of the sets by the strings that lead to them.
pub mod States
pub mod Layers
pub mod Numbering
