-- Numbers in bytes.
pub mod Numbers
