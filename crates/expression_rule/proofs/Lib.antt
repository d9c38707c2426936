-- `Closed`: the states of a table are all that its sets lead to; `Fitting`: its rows and final states are those of a rule; `Members`: what
-- the numbers of an expression's sets say; `Walks`: the table accepts what the expression matches; `Rules`: so does its rule, and what a
-- reader makes of it; `Compiled`: the rule that is written is one of these, and how long it is; `Answers`: what a call answers,
-- case by case; `Reached`: the numbers of the states by strings; `Compiling`: what was read and found is what the outcome says.
pub mod Closed
pub mod Fitting
pub mod Members
pub mod Walks
pub mod Rules
pub mod Compiled
pub mod Answers
pub mod Reached
pub mod Compiling
