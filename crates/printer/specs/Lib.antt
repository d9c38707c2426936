-- What printing answers and leaves behind (Outcome), and what the layers of the code say of it (Layers).
pub mod Outcome
pub mod Layers
