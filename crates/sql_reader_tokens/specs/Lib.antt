pub mod Sign
pub mod Lexeme
pub mod Tokens
pub mod Content
pub mod Reading
pub mod byte_runs
pub mod keywords
pub mod source_texts
