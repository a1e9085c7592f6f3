pub mod Tree
pub mod ExprTree
pub mod StatementTree
pub mod ExprView
pub mod Functions
pub mod NameView
