pub mod SettledView
