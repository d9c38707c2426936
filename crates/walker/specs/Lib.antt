-- `Layers`: where a step leads, and how far a walk goes.
pub mod Layers
