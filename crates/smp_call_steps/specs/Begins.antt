-- What a command's steps take from the command, and how it ends.
use Rattle.std.specs.Prelude.{◌≡◌, ◌≢◌, ◌⊎◌, ℕ, ◌<◌, ◌-◌, ◌++◌, [], ◌∷◌, Option, Some, None, IfSome}
use Rattle.smp_mask.specs.Mask.{has}
use Rattle.smp_words.specs.Commands.{FirstAccess, EndsSo}
use Rattle.smp_words.specs.Size.{record_of}
use Rattle.smp_words.specs.declared.command.Command.{Command}
use Rattle.smp_words.specs.declared.command.Command.TheVariants as command
use Rattle.smp_call_steps.specs.Calls.{CallState, tells}
use Rattle.smp_call_steps.specs.Drains.{DrainValue}
use Rattle.smp_call_steps.specs.Functions.{is_call}
use Rattle.smp_call_steps.specs.Posts.{post_outcome}
use Rattle.smp_call_steps.specs.Stages.{access_of, outcome_of}
use Rattle.smp_call_steps.specs.Start.{first_stage}
use Rattle.smp_call_steps.specs.StepLaws.{OfEachStep, seen_then}
use Rattle.smp_call_steps.specs.Names.{Word, Head, Posting, PostStage, Stage, Send, Done, Post, Handle}
use Rattle.smp_call_steps.specs.Names.post
use Rattle.smp_call_steps.specs.Names.handle

-- the posting of a post: by the source's record of that number, to that CPU, with that class, function, info and tries
abbrev pub IsPostingOf : ℕ → ℕ → Command → Posting → Type 0
IsPostingOf online cpu (command.Post k to class func info tries) p = (p.id ≡ record_of cpu k) × ((p.to ≡ to) × ((p.is_online ≡ has online to)
    × ((p.class ≡ class) × ((p.func ≡ func) × ((p.info ≡ info) × (p.tries ≡ tries))))))
IsPostingOf online cpu _ p = ⊥

-- Where a command begins: a post with the load of its record's flags, as a posting of just its numbers; a send, a question
-- and a handling with their first steps. A command of the other half begins nowhere here.
abbrev pub BeginsAs : ℕ → ℕ → Command → Option Stage → Type 0
BeginsAs online cpu (command.Post k to class func info tries) first =
    (p : Posting) × (first ≡ Some (Post p post.LoadFlags)) × IsPostingOf online cpu (command.Post k to class func info tries) p
BeginsAs online cpu (command.Send to) first = first ≡ Some (Send to)
BeginsAs online cpu (command.Done k) first = first ≡ Some (Done (record_of cpu k))
BeginsAs online cpu command.Handle first = first ≡ Some (Handle handle.Enter)
BeginsAs online cpu _ first = first ≡ None

abbrev pub CommandsBeginSo : Type 0
CommandsBeginSo = (online cpu : ℕ) (command : Command) → let first = first_stage online cpu command in
    IfSome first (λ stage. (at : Word → ℕ) → FirstAccess cpu None command (access_of at cpu stage)) × BeginsAs online cpu command first

-- a post stays the same post until it ends
abbrev pub IsOfPost : Posting → Option Stage → Type 0
IsOfPost p None = Unit {0}
IsOfPost p (Some (Post q stage)) = q ≡ p
IsOfPost p (Some _) = ⊥

abbrev pub PostsStay : Type 0
PostsStay = (p : Posting) (stage : PostStage) (found : ℕ) → IsOfPost p (post_outcome p stage found).next

-- A step by which a post wins its exchange queues its own call, at the end of its own CPU's queue.
abbrev pub QueuesItsCall : CallState → (Word → ℕ) → DrainValue → ℕ → Stage → Type 0
QueuesItsCall a at d me (Post p (post.Exchange link tries)) = at (Head p.to) ≡ link →
    (tells a (seen_then at d me (Post p (post.Exchange link tries)))).queue p.to
    ≡ a.queue p.to ++ record { id = p.id; class = p.class; func = p.func; info = p.info } ∷ []
QueuesItsCall a at d me _ = Unit {0}

abbrev pub PostsQueueTheirCalls : Type 0
PostsQueueTheirCalls = OfEachStep QueuesItsCall

-- how many exchanges a post may still make: all of its tries at first, and one less after each that is lost
abbrev pub MayTry : Posting → PostStage → ℕ → Option Stage → Type 0
MayTry p post.LoadHead found next = next ≡ Some (Post p (post.StoreNext found p.tries))
MayTry p (post.StoreNext link tries) found next = next ≡ Some (Post p (post.Exchange link tries))
MayTry p (post.Exchange link tries) found next = found ≢ link →
    ((1 < tries) × (next ≡ Some (Post p (post.StoreNext found (tries - 1))))) ⊎ ((1 < tries → ⊥) × (next ≡ Some (Post p post.Uncount)))
MayTry p _ found next = Unit {0}

abbrev pub PostsTryAsOften : Type 0
PostsTryAsOften = (p : Posting) (stage : PostStage) (found : ℕ) → MayTry p stage found (post_outcome p stage found).next

abbrev pub NotesEndCommands : Type 0
NotesEndCommands = (d : DrainValue) (stage : Stage) (found : ℕ) → let o = outcome_of d stage found in EndsSo is_call o.note o.next
