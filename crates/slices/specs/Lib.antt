-- What the layers of this crate ask and answer between themselves. What `lex_tokens` and `print_tokens` answer is defined in lexer and
-- printer, of the bytes that the slices say.
pub mod Layers
