pub mod expression_names
pub mod scopes
pub mod expression_parts
pub mod places
pub mod order_keys
