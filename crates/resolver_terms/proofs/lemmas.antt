pub mod copies
