-- What the steps of the search for the bytes of a rule ask and answer each other.
pub mod Layers
