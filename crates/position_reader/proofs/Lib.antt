-- `Sets`: the set of one position; `Marks`: a set that is added to the sets of some bytes; `Places`: what stands at a place, and an item
-- there; `Lists`: a list, item by item; `Parts`: the part that is one position; `Reading`: what stands at a place, as a position.
pub mod Sets
pub mod Marks
pub mod Places
pub mod Lists
pub mod Parts
pub mod Reading
