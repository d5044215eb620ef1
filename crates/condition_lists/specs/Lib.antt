pub mod Bounds
pub mod Terms
pub mod Levels
pub mod Costs
pub mod Laws
pub mod CostLaws
