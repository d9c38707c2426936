-- The kinds of rules (Kinds), the bytes that rules of a kind use (Bytes), and what the layers of the code ask and answer (Layers).
pub mod Kinds
pub mod Bytes
pub mod Layers
