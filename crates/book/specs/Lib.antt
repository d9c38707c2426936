-- `Limits`: the limits of document 01; `Draft`: what each command makes of what has been read; `Valid`: what holds of an accepted
-- book; `Layers`: how the code, the table and the cells of the open rule's states hold a draft.
pub mod Limits
pub mod Draft
pub mod Valid
pub mod Layers
