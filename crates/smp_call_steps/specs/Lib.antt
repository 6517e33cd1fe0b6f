-- types by their names
pub mod Names
-- the step that a CPU makes at each stage
pub mod Posts
pub mod Order
pub mod Drains
pub mod Stages
pub mod Batches
pub mod Start
-- the call state, and what each step tells
pub mod State
pub mod Calls
-- facts of the state: what holds between the calls, the words and the stages
pub mod Places
pub mod ByKind
pub mod Words
pub mod Lists
pub mod Histories
pub mod Stands
pub mod Shows
pub mod Counts
pub mod BatchLinks
pub mod QueueOrder
pub mod Classes
pub mod HaveRun
-- what a CPU knows over threads
pub mod Threads
-- the laws of steps: who may make which, what each does of functions, what it says, and how a post goes on
pub mod Functions
pub mod Premises
pub mod Reached
pub mod Notes
pub mod Tries
pub mod StepLaws
-- what a command takes from its arguments, how it ends, which words it touches in which order, and what it is refused for
pub mod Begins
pub mod Endings
pub mod Touches
pub mod Refusals
pub mod Headline
pub mod Broken
pub mod Drained
-- the laws
pub mod Promises
-- the machine: a list of words, and a list of controls
pub mod Value
pub mod Sound
pub mod Queues
pub mod Whereabouts
-- all of it by one name, for proofs
unfoldable pub use Names.*
unfoldable pub use Posts.*
unfoldable pub use Order.*
unfoldable pub use Drains.*
unfoldable pub use Stages.*
unfoldable pub use Batches.*
unfoldable pub use Start.*
unfoldable pub use Calls.*
unfoldable pub use Places.*
unfoldable pub use Words.*
unfoldable pub use Histories.*
unfoldable pub use Stands.*
unfoldable pub use Shows.*
unfoldable pub use Counts.*
unfoldable pub use BatchLinks.*
unfoldable pub use QueueOrder.*
unfoldable pub use Classes.*
unfoldable pub use HaveRun.*
unfoldable pub use Threads.Parts.*
unfoldable pub use Threads.Heads.*
unfoldable pub use Threads.Known.*
unfoldable pub use Threads.Handling.*
unfoldable pub use Threads.Logs.*
unfoldable pub use Functions.*
unfoldable pub use Premises.*
unfoldable pub use Notes.*
unfoldable pub use Tries.*
unfoldable pub use StepLaws.*
unfoldable pub use Begins.*
unfoldable pub use Refusals.*
unfoldable pub use Drained.*
unfoldable pub use Promises.*
unfoldable pub use Value.*
unfoldable pub use Sound.*
unfoldable pub use Queues.*
unfoldable pub use Whereabouts.*
pub use Batches.{has_record}
