-- Where separators are put (Separators), and what the layers of the code ask (Contracts).
pub mod Separators
pub mod Layers
