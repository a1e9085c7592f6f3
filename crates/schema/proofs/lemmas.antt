pub mod indexes
