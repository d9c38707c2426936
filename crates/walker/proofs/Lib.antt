-- The search along a chain (`Finding`) and the walk over a text (`Walking`).
pub mod Finding
pub mod Walking
