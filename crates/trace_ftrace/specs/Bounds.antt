-- Where the appends of a text can be.
use Rattle.std.specs.Prelude.{ℕ, ◌+◌, ◌-◌, Bool, true, false, is_some, is_none, ◌==◌, ◌&&◌, ◌||◌, nat_le, nat_lt, if◌then◌else◌}
use Rattle.std.specs.Prelude.{List, [], ◌∷◌, replicate, slice_index_or, slice_set, Option, Some, None, unwrap_or}
use Rattle.trace_ftrace.specs.Moments.{stamp_moment}
use Rattle.trace_ftrace.specs.Signs.{class_of}
use Rattle.trace_ftrace.specs.declared.bounds.Bound.{Bound}
use Rattle.trace_ftrace.specs.declared.kept.Mark.{Mark}
use Rattle.trace_ftrace.specs.declared.kept.Stamp.{Stamp}
use Rattle.trace_ftrace.specs.declared.moment.Moment.{Moment}
use Rattle.trace_ftrace.specs.declared.sign.Sign.{Sign}
use Rattle.trace_ftrace.specs.declared.sign.Sign.TheVariants as sign
use Rattle.trace_ftrace.specs.declared.sign.Sort.TheVariants as sort

-- an append is over by a line of the same CPU, in no deeper context: between the tracepoint and the append a CPU can only be interrupted
abbrev pub is_no_deeper : Option ℕ → Option ℕ → Bool
is_no_deeper None of = false
is_no_deeper (Some depth) of = nat_le depth (unwrap_or of 0)

abbrev pub ends_append : Stamp → Stamp → Bool
ends_append at next = next.cpu == at.cpu && is_no_deeper next.context at.context

-- the moment of the first of these lines by which it is over
abbrev pub line_end : Stamp → List Mark → Option Moment
line_end at [] = None
line_end at (m ∷ ms) = if ends_append at m.at then Some (stamp_moment m.at) else line_end at ms

-- a probe's flags are those of a trap, by which it stopped its CPU: they hide in which context that was
abbrev pub is_trap : Option ℕ → Bool
is_trap None = false
is_trap (Some depth) = depth == 5

-- a line is of a probe behind an append
abbrev pub is_behind : Sign → Bool
is_behind sign.Probe = true
is_behind other = false

-- how many appends a CPU is inside of behind a line: each is from a queue line to a probe; four at most, since its contexts nest no deeper
abbrev pub inside_after : ℕ → Sign → ℕ
inside_after inside (sign.Queue to address s told) = if nat_lt inside 4 then inside + 1 else inside
inside_after inside sign.Probe = inside - 1
inside_after inside other = inside

-- the moment of the probe behind an append of this CPU, inside of which there are so many others at these lines
abbrev pub own_end : ℕ → ℕ → List Mark → Option Moment
own_end cpu inside [] = None
own_end cpu inside (m ∷ ms) =
    if m.at.cpu == cpu then (if inside == 0 && is_behind m.sign then Some (stamp_moment m.at) else own_end cpu (inside_after inside m.sign) ms)
    else own_end cpu inside ms

-- the moment by which an append is over: of a trap that of its own probe, since an interrupt's lines show no deeper context than its line
abbrev pub upper_end : Stamp → List Mark → Option Moment
upper_end at ms = if is_trap at.context then own_end at.cpu 0 ms else line_end at ms

-- a line queues a call
abbrev pub queues_call_sign : Sign → Bool
queues_call_sign (sign.Queue to address s told) = is_some (class_of s)
queues_call_sign other = false

abbrev pub queues_call : Mark → Bool
queues_call m = queues_call_sign m.sign

-- where the appends are of the calls that these lines queue
abbrev pub bounds_of : List Mark → List Bound
bounds_of [] = []
bounds_of (m ∷ ms) = if queues_call m then record { line = m.at.line; until = upper_end m.at ms } ∷ bounds_of ms else bounds_of ms

-- a line leaves order out: it queues a call and shows no class or no context, or by a trap one more than nest, or is of a probe alone
abbrev pub hides_context : ℕ → Option ℕ → Bool
hides_context inside context = is_none context || (is_trap context && nat_le 4 inside)

abbrev pub hides_order_sign : ℕ → Option ℕ → Sign → Bool
hides_order_sign inside context (sign.Queue to address sort.Unshown told) = true
hides_order_sign inside context (sign.Queue to address sort.Async told) = hides_context inside context
hides_order_sign inside context (sign.Queue to address sort.Sync told) = hides_context inside context
hides_order_sign inside context sign.Probe = inside == 0
hides_order_sign inside context other = false

abbrev pub hides_order : ℕ → Mark → Bool
hides_order inside m = hides_order_sign inside m.at.context m.sign

-- these lines show enough to judge order, before which each CPU is inside so many appends
abbrev pub shows_from : List ℕ → List Mark → Bool
shows_from insides [] = true
shows_from insides (m ∷ ms) =
    let inside = slice_index_or insides m.at.cpu 0 in
    if hides_order inside m then false else shows_from (slice_set insides m.at.cpu (inside_after inside m.sign)) ms

abbrev pub shows_order : List Mark → Bool
shows_order ms = shows_from (replicate 512 0) ms
