pub mod ExpressionFronts
pub mod QueryFronts
