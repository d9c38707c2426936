-- The loop of lexing (Starting, Storing), and the passes of printing (Passes, Staging).
pub mod Starting
pub mod Storing
pub mod Passes
pub mod Staging
