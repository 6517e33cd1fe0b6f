pub mod Filled
pub mod Lawful
pub mod Patched
pub mod PlanOrder
pub mod Sites
pub mod Stores
