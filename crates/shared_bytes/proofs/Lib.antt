-- The rules of a kind (Gathering), and rules of few states (Fitting).
pub mod Gathering
pub mod Fitting
