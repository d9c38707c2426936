-- The spacing printer: which calls it refuses (Refusals), the outcome of a call (Outcome), and what the layers of its code ask and answer
-- between themselves (Contracts).
pub mod Refusals
pub mod Outcome
pub mod Layers
