-- Marks while they are set, and the search for the lowest (Marking).
pub mod Marking
