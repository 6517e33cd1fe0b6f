-- Where a command ends, what it keeps, what the note of each step is, and when a handling is idle.
use Rattle.std.specs.Prelude.{◌≡◌, ◌≢◌, ℕ, ◌%◌, ◌==◌, Bool, true, false, ◌||◌, not, Option, Some, None}
use Rattle.smp_words.specs.{Commands.Either, Commands.Follows, Size.owner}
use Rattle.smp_call_steps.specs.Drains.{DrainValue, no_drain}
use Rattle.smp_call_steps.specs.Stages.{ControlValue, control_after, outcome_of}
use Rattle.smp_call_steps.specs.Start.{control_at}
use Rattle.smp_call_steps.specs.Value.{outside}
use Rattle.smp_call_steps.specs.Names.{Note, Call, Stage, Send, Done, Post, Handle}
use Rattle.smp_call_steps.specs.Names.note
use Rattle.smp_call_steps.specs.Names.post
use Rattle.smp_call_steps.specs.Names.handle

-- the record is locked that has these flags
abbrev pub is_locked : ℕ → Bool
is_locked flags = flags % 2 == 1

-- A command ends here. A send ends with its store, a question with its load. A post ends where its record is locked or its CPU is
-- not online, where it wins its exchange, and where it gives its record back. A handling ends as it stores 0 in its handling word.
abbrev pub ends_here : Stage → ℕ → Bool
ends_here (Send to) found = true
ends_here (Done id) found = true
ends_here (Post p post.LoadFlags) found = is_locked found || not p.is_online
ends_here (Post p (post.Exchange link tries)) found = found == link
ends_here (Post p post.Release) found = true
ends_here (Handle handle.LeaveIdle) found = true
ends_here (Handle handle.Leave) found = true
ends_here _ found = false

-- the step after it is one of the same command
abbrev pub IsSameCommand : Stage → Stage → Type 0
IsSameCommand (Post p stage) (Post q next) = q ≡ p
IsSameCommand (Handle stage) (Handle next) = Unit {0}
IsSameCommand _ _ = ⊥

abbrev pub CommandsEndSo : Type 0
CommandsEndSo = (d : DrainValue) (stage : Stage) (found : ℕ) → Follows IsSameCommand stage (ends_here stage found) (outcome_of d stage found).next

-- outside a handling no count of a batch is kept
abbrev pub KeepsNoCount : Option Stage → DrainValue → Type 0
KeepsNoCount (Some (Handle stage)) d = Unit {0}
KeepsNoCount _ d = d ≡ no_drain

-- a command begins with no count
abbrev pub CommandsBeginUncounted : Type 0
CommandsBeginUncounted = (c : ControlValue) (stage : Option Stage) → c ≡ outside →
    KeepsNoCount (control_at c stage).stage (control_at c stage).drain

-- each step leaves one only inside a handling
abbrev pub CountsEndWithHandlings : Type 0
CountsEndWithHandlings = (c : ControlValue) (stage : Stage) (found : ℕ) → KeepsNoCount (Some stage) c.drain →
    KeepsNoCount (control_after c stage found).stage (control_after c stage found).drain

-- the note of a call as its function begins to run
abbrev pub runs_note : Call → Option Note
runs_note call = Some (note.Call (owner call.id) call.func call.info)

-- The note of each step, by the number that it found. No note has two meanings: `busy` and `no such CPU` are of a post, `locked`
-- and `done` of a question, `owed` and `queued` of a won exchange, `contended` of a post that gives up, `idle` and `handled` of a
-- handling.
abbrev pub SaysOf : DrainValue → Stage → ℕ → Option Note → Type 0
SaysOf d (Send to) found said = said ≡ Some note.Sent
SaysOf d (Done id) found said = Either (is_locked found) said (Some note.Locked) (Some note.Done)
SaysOf d (Post p post.LoadFlags) found said = (is_locked found ≡ true → said ≡ Some note.Busy) ×
    (is_locked found ≡ false → Either p.is_online said None (Some note.NoCpu))
SaysOf d (Post p (post.Exchange link tries)) found said = (found ≢ link → said ≡ None) ×
    (found ≡ link → Either (found == 0) said (Some note.Owed) (Some note.Queued))
SaysOf d (Post p post.Release) found said = said ≡ Some note.Contended
SaysOf d (Handle handle.LeaveIdle) found said = said ≡ Some note.Idle
SaysOf d (Handle (handle.BeginSync walk call next)) found said = said ≡ runs_note call
SaysOf d (Handle (handle.BeginAsync call next)) found said = said ≡ runs_note call
SaysOf d (Handle handle.Leave) found said = said ≡ Some (note.Handled d.calls)
SaysOf d _ found said = said ≡ None

abbrev pub NotesAreOfTheFound : Type 0
NotesAreOfTheFound = (d : DrainValue) (stage : Stage) (found : ℕ) → SaysOf d stage found (outcome_of d stage found).note

-- A handling goes on to its `idle` where it finds no interrupt, and from nowhere else; where it finds one, it takes its queue.
abbrev pub IdlesOnlyThere : Stage → ℕ → Option Stage → Type 0
IdlesOnlyThere (Handle handle.Accept) found next = (found ≡ 0 → next ≡ Some (Handle handle.LeaveIdle)) × (found ≢ 0 → next ≡ Some (Handle handle.Take))
IdlesOnlyThere _ found next = next ≢ Some (Handle handle.LeaveIdle)

abbrev pub IdleWithoutInterrupt : Type 0
IdleWithoutInterrupt = (d : DrainValue) (stage : Stage) (found : ℕ) → IdlesOnlyThere stage found (outcome_of d stage found).next
