-- The bytes of transitions (Marking), lists of states (States) and queues of them (Queues), the states that the start reaches (Reached),
-- transitions that wait (Waiting, Swept), and the states that lead to a final one (Useful).
pub mod Marking
pub mod States
pub mod Queues
pub mod Reached
pub mod Waiting
pub mod Swept
pub mod Useful
