-- `Kept`: an answer that fits its word is had back from it.
pub mod Kept
