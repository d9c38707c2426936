-- Laws of the commands, for the reader.
pub mod Commands
