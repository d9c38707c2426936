-- `Expression`: what an expression is, and the strings that it matches; `Spelling`: the texts that spell it; `Reading`: from a text to the
-- expression, or to the first fault; `Faults`: what the first fault is.
pub mod Expression
pub mod Spelling
pub mod Reading
pub mod Faults
