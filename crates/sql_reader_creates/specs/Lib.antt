pub mod CreateGrammar
pub mod CreateReading
pub mod IndexGrammar
pub mod IndexTexts
pub mod IndexReading
pub mod Told
pub mod column_reader
