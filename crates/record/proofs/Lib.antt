-- Records stored, counted and read back (Records), those of a slice (Encoding), and masks (Masks).
pub mod Records
pub mod Encoding
pub mod Masks
