-- The books of document 01's examples (Books), and the table of the examples with the claim that each is right (Table).
pub mod Books
pub mod Table
