pub mod SettleLemmas
