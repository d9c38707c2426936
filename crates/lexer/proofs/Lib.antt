-- The loop that fills records and masks (Filled), how the answers come to the outcome, by rules (ByRules) and by a book (Outcomes), and the
-- cut beside the one without masks (Masking).
pub mod Filled
pub mod ByRules
pub mod Outcomes
pub mod Masking
