-- `Rule`: what a rule is and matches; `Choice`: the choices that it is written in; `Layers`: how a table holds rules.
pub mod Choice
pub mod Rule
pub mod Layers
