-- types by their names
pub mod Names
-- where words lie
pub mod Cells
-- the rule, and what each kind of access tells
pub mod Rule
pub mod Plays
-- a CPU at the table
pub mod Seat
pub mod Appends
pub mod Cpu
pub mod Table
-- a table whose CPUs have done nothing
pub mod Empty
-- what an audit answers
pub mod Audit
-- a handler, and what handling makes of it
pub mod Handling
-- handling, a call at a time
pub mod ServingValue
pub mod Serving
pub mod HandsOut
pub mod Chain
-- what holds while threads run
pub mod Laws
pub mod Out
pub mod Posted
pub mod Together
-- what is refused, by numbers
pub mod Refusals
-- all of it by one name, for proofs
unfoldable pub use Names.*
unfoldable pub use Cells.*
unfoldable pub use Rule.*
unfoldable pub use Plays.*
unfoldable pub use Seat.*
unfoldable pub use Appends.*
unfoldable pub use Cpu.*
unfoldable pub use Table.*
unfoldable pub use Audit.*
unfoldable pub use Handling.*
unfoldable pub use Laws.*
unfoldable pub use Posted.*
