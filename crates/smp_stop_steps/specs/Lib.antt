-- types by their names
pub mod Names
-- one stop, and what the words of its slot show
pub mod Standings
pub mod Stop
pub mod Counts
pub mod Slots
-- the laws of a stop
pub mod Laws
-- labels, and a patch in progress
pub mod Labels
-- the state of all stops, and what each step tells
pub mod State
pub mod KeyCounts
pub mod Tells
-- facts of the state: what holds between the stops, the words and the stages
pub mod Seats
pub mod Callings
pub mod Sources
pub mod Past
pub mod Present
pub mod Shows
-- the step that a CPU makes at each stage
pub mod Stages
pub mod Sits
pub mod Carries
pub mod Steps
-- the laws, as they are promised
pub mod Promises
pub mod Functions
pub mod Notes
pub mod Closings
pub mod Premises
pub mod Interrupts
pub mod Patchers
pub mod StopLaws
pub mod Headline
pub mod Broken
-- the machine: the words of a stop table, and a list of controls
pub mod Table
pub mod Numbers
pub mod Value
pub mod AnswerWords
pub mod Machine
pub mod New
pub mod Begins
pub mod Start
pub mod Refusals
pub mod Members
pub mod Commands
pub mod Endings
pub mod Touches
pub mod StepLaws
pub mod KnownLaws
pub mod Kept
-- what a CPU knows over threads
pub mod Threads
pub mod Reached
pub mod Weights
-- all of it by one name, for proofs
unfoldable pub use Names.*
unfoldable pub use Stop.*
unfoldable pub use Counts.*
unfoldable pub use Slots.*
unfoldable pub use Laws.*
unfoldable pub use Labels.*
unfoldable pub use State.*
unfoldable pub use KeyCounts.*
unfoldable pub use Tells.*
unfoldable pub use Seats.*
unfoldable pub use Callings.*
unfoldable pub use Sources.*
unfoldable pub use Past.*
unfoldable pub use Present.*
unfoldable pub use Shows.*
unfoldable pub use Stages.*
unfoldable pub use Sits.*
unfoldable pub use Carries.*
unfoldable pub use Steps.*
unfoldable pub use Promises.*
unfoldable pub use Functions.*
unfoldable pub use Notes.*
unfoldable pub use Closings.*
unfoldable pub use Premises.*
unfoldable pub use Interrupts.*
unfoldable pub use Patchers.*
unfoldable pub use StopLaws.*
unfoldable pub use Table.*
unfoldable pub use Numbers.*
unfoldable pub use Value.*
unfoldable pub use AnswerWords.*
unfoldable pub use Machine.*
unfoldable pub use New.*
unfoldable pub use Begins.*
unfoldable pub use Start.*
unfoldable pub use Refusals.*
unfoldable pub use StepLaws.*
unfoldable pub use Kept.*
unfoldable pub use Threads.Known.*
unfoldable pub use Threads.KnownAfter.*
unfoldable pub use Weights.*
