-- When a command of the call half may start, and where it begins.
use Rattle.std.specs.Prelude.{ℕ, ◌+◌, ◌-◌, ◌<◌, Bool, true, false, ◌==◌, ◌||◌, ◌&&◌, not, nat_lt, if◌then◌else◌, Option, Some, None}
use Rattle.smp_mask.specs.Mask.{has}
use Rattle.smp_mask.specs.declared.error.SmpError.{SmpError}
use Rattle.smp_mask.specs.declared.error.SmpError.TheVariants as error
use Rattle.smp_words.specs.Size.{records_of_one, record_of}
use Rattle.smp_words.specs.declared.size.TheConstants.{FIRST_OF_ONE, USER}
use Rattle.smp_call_steps.specs.Stages.{ControlValue}
use Rattle.smp_call_steps.specs.Names.{Class, Sync, Async, Stage, Send, Done, Post, Handle}
use Rattle.smp_call_steps.specs.Names.post
use Rattle.smp_call_steps.specs.Names.handle
use Rattle.smp_words.specs.declared.command.Command.{Command}
use Rattle.smp_words.specs.declared.command.Command.TheVariants as command

abbrev pub is_sync : Class → Bool
is_sync Sync = true
is_sync Async = false

-- record 0 carries SYNC calls, 1 and the user's two ASYNC calls, the others those to one CPU each that there is
abbrev pub fits_record : ℕ → ℕ → ℕ → Class → Bool
fits_record nr k to class =
    if k == 0 then is_sync class
    else if k == 1 || (not (nat_lt k USER) && nat_lt k FIRST_OF_ONE) then not (is_sync class)
    else if nat_lt k USER then k == to + 2
    else k == to + 4 && nat_lt to nr

-- a source has this record: a further one is of a CPU that there is
abbrev pub has_record : ℕ → ℕ → Bool
has_record nr k = nat_lt k FIRST_OF_ONE || (nat_lt k records_of_one && nat_lt (k - 4) nr)

-- the record that a command names has a local number
abbrev pub NamesRecord : Command → Type 0
NamesRecord (command.Post k to class func info tries) = k < records_of_one
NamesRecord (command.Done k) = k < records_of_one
NamesRecord _ = Unit {0}

-- the own refusals of a command of the call half
abbrev pub command_refusal : ℕ → ℕ → ℕ → Command → Option SmpError
command_refusal nr online cpu (command.Post k to class func info tries) =
    if ((not (nat_lt k records_of_one) || tries == 0) || to == cpu) || not (fits_record nr k to class) then Some error.BadArgument else None
command_refusal nr online cpu (command.Send to) = if has online to then None else Some error.NoCpu
command_refusal nr online cpu (command.Done k) = if has_record nr k then None else Some error.BadArgument
command_refusal nr online cpu _ = None

-- where a command begins in the call half; none for one of the stop half
abbrev pub first_stage : ℕ → ℕ → Command → Option Stage
first_stage online cpu (command.Post k to class func info tries) =
    Some (Post (record { id = record_of cpu k; to = to; is_online = has online to; class = class; func = func; info = info; tries = tries }) post.LoadFlags)
first_stage online cpu (command.Send to) = Some (Send to)
first_stage online cpu (command.Done k) = Some (Done (record_of cpu k))
first_stage online cpu command.Handle = Some (Handle handle.Enter)
first_stage online cpu _ = None

-- a control at this stage, or outside a command, with the drain that it has
abbrev pub control_at : ControlValue → Option Stage → ControlValue
control_at c stage = record c { stage = stage }
