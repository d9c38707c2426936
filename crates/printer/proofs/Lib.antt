-- The rehearsal (Rehearsing), how the answers come to the outcome (ByRules, Outcomes), and demand 3 of it (Accepting, ReadBack,
-- RoundTrip).
pub mod Rehearsing
pub mod ByRules
pub mod Outcomes
pub mod Accepting
pub mod ReadBack
pub mod RoundTrip
