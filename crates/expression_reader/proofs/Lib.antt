-- `Behind`: what stands behind a place; `Linking`: links that are added up to a position; `Parts`: what a part becomes by the
-- byte behind it; `Sets`: sets of positions that are numbered on; `Notes`: what is noted of expressions made of others; `Sizes`: how
-- long and deep what was read is; `Levels`: what each level reads, from what the level below it has read.
pub mod Behind
pub mod Linking
pub mod Parts
pub mod Sets
pub mod Notes
pub mod Sizes
pub mod Levels
pub mod Whole
