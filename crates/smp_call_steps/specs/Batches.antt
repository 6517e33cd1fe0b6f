-- What is left of a batch, as the stage of its CPU has it.
use Rattle.std.specs.Prelude.{ℕ, ◌+◌, Bool, false, ◌==◌, Option, Some, None, List, [], ◌∷◌}
use Rattle.std.specs.List.{list_any}
use Rattle.smp_call_steps.specs.Drains.{link_to}
use Rattle.smp_call_steps.specs.Names.{Call, HandleStage, Stage, Handle}
use Rattle.smp_call_steps.specs.Names.handle

-- whether some call of the list is by this record
abbrev pub has_record : ℕ → List Call → Bool
has_record id calls = list_any (λ call. call.id == id) calls

-- the link to the records of the batch that are not reversed yet; 0 where all are
abbrev pub down_at : HandleStage → ℕ
down_at (handle.ReverseLoad newer id) = id + 1
down_at (handle.ReverseStore newer id older) = link_to older
down_at _ = 0

-- the link to those that are, and are left in the chain
abbrev pub up_at : HandleStage → ℕ
up_at (handle.ReverseLoad newer id) = link_to newer
up_at (handle.ReverseStore newer id older) = link_to newer
up_at (handle.LoadNext walk id) = link_to walk.first
up_at (handle.LoadFlags walk id next) = link_to walk.first
up_at (handle.LoadFunc walk id next) = link_to walk.first
up_at (handle.LoadInfo walk id next func) = link_to walk.first
up_at (handle.Unlink walk last call next) = link_to walk.first
up_at (handle.BeginSync walk call next) = link_to walk.first
up_at (handle.CountSync walk call next) = link_to walk.first
up_at (handle.EndSync walk call next) = link_to walk.first
up_at (handle.AsyncNext id) = id + 1
up_at (handle.AsyncFunc id next) = id + 1
up_at (handle.AsyncInfo id next func) = id + 1
up_at (handle.BeginAsync call next) = link_to next
up_at (handle.CountAsync call next) = link_to next
up_at _ = 0

-- the record that is being reversed, or whose call begins next
abbrev pub between_at : HandleStage → Option ℕ
between_at (handle.ReverseStore newer id older) = Some id
between_at (handle.BeginSync walk call next) = Some call.id
between_at (handle.BeginAsync call next) = Some call.id
between_at _ = None

-- whether it is this record
abbrev pub is_this : ℕ → Option ℕ → Bool
is_this id None = false
is_this id (Some between) = between == id

-- the SYNC call that runs
abbrev pub running_at : HandleStage → List Call
running_at (handle.CountSync walk call next) = call ∷ []
running_at (handle.EndSync walk call next) = call ∷ []
running_at _ = []

-- the same of where a CPU is

abbrev pub down_link : Option Stage → ℕ
down_link (Some (Handle stage)) = down_at stage
down_link _ = 0

abbrev pub up_link : Option Stage → ℕ
up_link (Some (Handle stage)) = up_at stage
up_link _ = 0

abbrev pub between_of : Option Stage → Option ℕ
between_of (Some (Handle stage)) = between_at stage
between_of _ = None

abbrev pub running_of : Option Stage → List Call
running_of (Some (Handle stage)) = running_at stage
running_of _ = []
