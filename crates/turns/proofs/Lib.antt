-- The reach at a place (Reaching), what a turn cuts and pays (Turning), on which bytes it depends (Alike), the loop that takes it (Taking),
-- and how the answers come to the outcome (Outcomes).
pub mod Reaching
pub mod Turning
pub mod Alike
pub mod Taking
pub mod Outcomes
