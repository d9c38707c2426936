-- What cutting answers and leaves behind (Outcome), with masks (Masked), and what the layers of the code say of it (Layers).
pub mod Outcome
pub mod Masked
pub mod Layers
