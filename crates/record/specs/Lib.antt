-- The ten bytes of a record (Records), the list that records say with a pool (Tokens), the records that a slice of structs says
-- (Encoding), the four bytes of a mask (Masks), and what the layers of the code ask (Layers).
pub mod Tokens
pub mod Records
pub mod Encoding
pub mod Masks
pub mod Layers
