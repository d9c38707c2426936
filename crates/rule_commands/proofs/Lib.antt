-- `Places`: reading the command at a place of a book; `Reversed`: what holds of a list holds of it reversed; `Read`: what a reader makes of
-- the commands of a rule; `Rising`: transitions in the order of states and bytes; `Tables`: the SPANs of a table lead as it does;
-- `Runs`: each is as long as can be; `Measuring`: a table's rows, where its SPANs end, and how many there are; `Writing`: what the loops
-- and stores leave; `Tabled`: the rows are those that the table begins with.
pub mod Places
pub mod Reversed
pub mod Read
pub mod Rising
pub mod Tables
pub mod Runs
pub mod Measuring
pub mod Writing
pub mod Tabled
