-- the words, and the rule that each access keeps
pub mod TheRule
-- a CPU between two calls, and a post
pub mod Posts
-- a table whose CPUs have done nothing
pub mod Empty
-- a CPU inside handle
pub mod Handling
pub mod Chains
-- two CPUs at one moment
pub mod Together
-- what an audit and the laws tell
pub mod Audits
