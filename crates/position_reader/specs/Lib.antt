-- `Layers`: what reading answers, and what it notes of positions; `Steps`: the steps of reading a position.
pub mod Layers
pub mod Steps
