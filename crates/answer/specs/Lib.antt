-- The numbers of refusals (Refusals), and what calls answer (Answers).
pub mod Refusals
pub mod Answers
