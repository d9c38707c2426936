-- `Numbers`: what the number of a set says. `Bounds`: what is in an expression's sets is below its size. `Matching`: sets of positions
-- match just what the expression matches; below it `Splits` (matches taken apart), `Rests` (what can follow a position), and byte by byte
-- `Steps` and `Following`.
pub mod Numbers
pub mod Splits
pub mod Bounds
pub mod Rests
pub mod Steps
pub mod Following
pub mod Matching
