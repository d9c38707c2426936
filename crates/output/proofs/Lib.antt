-- Bytes copied one by one (Copying), put in front of others (Placing), a buffer filled from its start (Filling), and what is written to
-- the output (Written).
pub mod Copying
pub mod Placing
pub mod Filling
pub mod Written
