-- `Refused`: by which numbers a call refuses, and how large what it answers is; `Kept`: the word of a call says its answer.
pub mod Refused
pub mod Kept
