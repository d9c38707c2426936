-- `Reading`: what reading a book comes to; `Layers`: what reading leaves in the table.
pub mod Reading
pub mod Layers
