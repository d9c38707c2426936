-- `Pieces`: the commands that bytes hold; `Verdicts`: one command at two places; `Reading`: the rewritten book is read as the old one;
-- `Writing`: what the loops and stores leave; `Answering`: what the code answers; `Accepting`: what an accepted
-- call has written.
pub mod Pieces
pub mod Verdicts
pub mod Reading
pub mod Writing
pub mod Answering
pub mod Accepting
