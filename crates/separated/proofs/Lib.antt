-- What the code answers is the outcome (Checking, Answering), how large a scratch is enough (Rooms), which calls are accepted (Unrefused),
-- that what is written is cut back into the list (Sides, RoundTrip), and that mode 0 is mode 2 (Modes).
pub mod Checking
pub mod Sides
pub mod Unrefused
pub mod RoundTrip
pub mod Answering
pub mod Rooms
pub mod Modes
