-- `Fine`: every command leaves a draft in its ranges; `Filling`: the table follows the draft; `Ranking`: whether a tag is taken;
-- `Steps`: what the code makes of each command.
pub mod Fine
pub mod Filling
pub mod Ranking
pub mod Steps
