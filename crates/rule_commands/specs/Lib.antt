-- `Spans`: the SPANs of a table; `Bytes`: the commands that say it; `Fit`: what it must be for them to be read as its rule; `Table`: a walk
-- by its numbers; `Layers`: a table's rows, and what the loops ask.
pub mod Spans
pub mod Bytes
pub mod Fit
pub mod Table
pub mod Layers
