-- The proof of the claim.
pub mod Examples
