-- A number is had back from its bytes.
pub mod Numbers
