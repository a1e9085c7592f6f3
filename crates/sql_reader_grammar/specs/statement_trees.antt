pub mod TreeView
pub mod StatementView
