-- Laws of reading an expression. `Unfolding`: how reading goes on, step by step; `Sound`: what is read is spelled by what was read of the
-- text, and what stands before a fault is the beginning of something right; `Complete`: what is spelled is read; `Local`: what stands
-- behind the first byte that is left plays no part; `Faults`: where a text is wrong, the place is that of its first fault; `Examples`:
-- texts as they are read; `Bytes`: what begins a right expression goes on to one by bytes.
pub mod Unfolding
pub mod Sound
pub mod Complete
pub mod Local
pub mod Faults
pub mod Bytes
pub mod Examples
