-- What the program cutlist prints: numbers in decimal (Decimal) and lines (Lines); and what the functions of this crate ask and answer
-- between themselves (Layers).
pub mod Decimal
pub mod Lines
pub mod Layers
