-- Laws of a table that is filled (`Built`), and of the bytes that a chain covers (`Spanning`).
pub mod Built
pub mod Spanning
