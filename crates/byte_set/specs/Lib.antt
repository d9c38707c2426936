-- `Lowest`: the lowest byte of which something holds; `Layers`: what the marks of a set say.
pub mod Lowest
pub mod Layers
