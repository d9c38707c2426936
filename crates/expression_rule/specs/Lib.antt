-- `Outcome`: what making a rule of an expression answers and leaves; `Layers`: the sets of an expression as the layers below hold them;
-- `Reached`: the states of its rule by the strings that reach them.
pub mod Outcome
pub mod Layers
pub mod Reached
