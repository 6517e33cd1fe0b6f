-- What of the lines is not judged, in counts.
use Rattle.std.specs.Prelude.{◌-◌, Bool, true, false, List, count_by}
use Rattle.trace_model.specs.declared.event.CallEvent.TheVariants as calls
use Rattle.trace_model.specs.declared.event.Event.{Event}
use Rattle.trace_model.specs.declared.event.Event.TheVariants as event
use Rattle.trace_ftrace.specs.declared.counts.Counted.{Counted}
use Rattle.trace_ftrace.specs.declared.counts.Counted.TheVariants as counted
use Rattle.trace_ftrace.specs.declared.counts.Counts.{Counts}
use Rattle.trace_ftrace.specs.declared.kept.Mark.{Mark}
use Rattle.trace_ftrace.specs.declared.sign.Sign.{Sign}
use Rattle.trace_ftrace.specs.declared.sign.Sign.TheVariants as sign
use Rattle.trace_ftrace.specs.declared.sign.Sort.TheVariants as sort
use Rattle.trace_ftrace.specs.declared.told.Told.{Told}

-- what a line shows is a direct call, wakes, irq work, a call whose function is entered, or a call that is queued without class
abbrev pub is_counted_sign : Counted → Sign → Bool
is_counted_sign counted.Direct sign.Direct = true
is_counted_sign counted.Wakes (sign.Queue to address sort.Wake told) = true
is_counted_sign counted.Works (sign.Queue to address sort.Other told) = true
is_counted_sign counted.Begins (sign.Begin address) = true
is_counted_sign counted.Unshown (sign.Queue to address sort.Unshown told) = true
is_counted_sign what other = false

abbrev pub is_counted : Counted → Mark → Bool
is_counted what m = is_counted_sign what m.sign

-- a call's function is entered
abbrev pub is_begin : Event → Bool
is_begin (event.Call (calls.Begin id func info)) = true
is_begin other = false

-- the counts of a text whose lines show these marks and tell these events; earlier calls are those that begin without an event
unfoldable pub counts_of : List Mark → List Told → Counts
counts_of marks told = record {
  direct = count_by (is_counted counted.Direct) marks;
  wakes = count_by (is_counted counted.Wakes) marks;
  works = count_by (is_counted counted.Works) marks;
  earlier = count_by (is_counted counted.Begins) marks - count_by (λ (x : Told). is_begin x.event) told;
  unshown = count_by (is_counted counted.Unshown) marks;
}
