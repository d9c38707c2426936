-- Laws of the sets that are reached (Reaching) and of where they lead (Targets). Where a set stands (Finding), and the loops of `after`
-- (Following), `fill_row` (Rows), `explore` (Exploring) and `list_finals` (Finals). The search as a walk over steps (Walking, Searching), the strings
-- that lead to sets (Strings), and the numbers of the sets by them (Numbering).
pub mod Following
pub mod Finding
pub mod Reaching
pub mod Rows
pub mod Exploring
pub mod Finals
pub mod Targets
pub mod Walking
pub mod Searching
pub mod Strings
pub mod Numbering
