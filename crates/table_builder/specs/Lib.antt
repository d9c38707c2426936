-- `Layers`: what the cells of an open rule hold, and how its words are settled.
pub mod Layers
