-- That C reads the answer of each function back whole (Kept), the numbers by which each refuses (Numbers), and what they are given for
-- the separator token (Separator).
pub mod Numbers
pub mod Kept
pub mod Separator
