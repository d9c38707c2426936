-- What a printer asks of one token (Faults) and of a list (Checks), and what the layers of the code say of it (Contracts).
pub mod Faults
pub mod Checks
pub mod Layers
