-- `Positions`: the positions of an expression; `Sets`: sets of them that follow a string; `Numbers`: such a set as a number.
pub mod Positions
pub mod Sets
pub mod Numbers
