-- The built-in book is accepted (Accepted), and its rules match its patterns (Patterns); its classes (Alike) and its one automaton
-- (Product, Joined) are right, and so is the walk over it (Scanned).
pub mod Tests
pub mod Alike
pub mod Product
pub mod Joined
pub mod Scanned
pub mod Accepted
pub mod Patterns
