-- `Rewritten`: a book with a SPAN in each STEP's place; `Outcome`: what rewriting answers and leaves; `Layers`: what the loops ask.
pub mod Rewritten
pub mod Outcome
pub mod Layers
