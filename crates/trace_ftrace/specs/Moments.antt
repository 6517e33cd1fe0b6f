-- Moments between the lines of a text.
use Rattle.std.specs.Prelude.{Bool, ◌==◌, ◌&&◌, ◌||◌, nat_lt}
use Rattle.trace_ftrace.specs.declared.kept.Stamp.{Stamp}
use Rattle.trace_ftrace.specs.declared.moment.Moment.{Moment}
use Rattle.trace_ftrace.specs.declared.told.Told.{Told}

-- a moment is before another: by time, then by line, then by how far behind the line
abbrev pub is_before : Moment → Moment → Bool
is_before a b = nat_lt a.time b.time || (a.time == b.time && (nat_lt a.line b.line || (a.line == b.line && nat_lt a.nth b.nth)))

-- the moment of a line, and of the line that tells an event
abbrev pub stamp_moment : Stamp → Moment
stamp_moment at = record { time = at.time; line = at.line; nth = 1 }

abbrev pub own_moment : Told → Moment
own_moment x = record { time = x.time; line = x.line; nth = 1 }
