-- How many bytes are examined at a place (Reach), what a turn cuts and pays (Turn), what a call answers and leaves behind (Outcome), and
-- what the layers of the code answer (Layers).
pub mod Reach
pub mod Turn
pub mod Outcome
pub mod Layers
