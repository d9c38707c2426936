-- Whether a separator is due (Due), a list with its separators (Separated), what a mode stands for (Modes), and the loop that puts a list
-- (Putting).
pub mod Due
pub mod Separated
pub mod Modes
pub mod Putting
