-- `Outcome`: what a call that writes bytes answers and leaves; `Layers`: what putting bytes leaves.
pub mod Outcome
pub mod Layers
