pub mod Examples
pub mod Compounds
pub mod Chains
pub mod InTurn
