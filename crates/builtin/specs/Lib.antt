-- The built-in book as bytes and as rules (Book), the patterns that its rules match (Patterns), its byte classes (Classes), and the
-- automaton that the code walks (Layers).
pub mod Book
pub mod Classes
pub mod Patterns
pub mod Layers
