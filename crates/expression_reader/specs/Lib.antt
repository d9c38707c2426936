-- What reading a text answers, and what parts become when they are joined.
pub mod Layers
