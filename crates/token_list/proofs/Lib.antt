-- One token alone (Alone, Faulting), read on or not (Extended), and the loops over a list (Passes, Settling).
pub mod Alone
pub mod Faulting
pub mod Extended
pub mod Passes
pub mod Settling
