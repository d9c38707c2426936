-- Laws of rules (`Walks`, `Ways`, `Used`) and of the table that holds them (`Chains`, `Listed`). `Tests` takes tests apart.
pub mod Tests
pub mod Chains
pub mod Listed
pub mod Walks
pub mod Ways
pub mod Used
