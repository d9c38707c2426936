-- `Accepted`: every accepted book is valid; `Walking`: from one command to the next; `Loading`: the loop of `load`; `Loaded`: what its
-- answer says; `Sizes`: tables of zeros.
pub mod Accepted
pub mod Walking
pub mod Loading
pub mod Loaded
pub mod Sizes
