use Rattle.std.proofs.Common.{refl}
use Rattle.trace_ftrace.specs.Fields.{value_of, address_of, symbol_of, needed_address, needed_cpu, needed_symbol}
use Rattle.trace_ftrace.specs.Headings.{cpu_of, time_of, event_of, task_of, stamped, heading_at}
use Rattle.trace_ftrace.specs.Kept.{numbered}
use Rattle.trace_ftrace.specs.Marks.{named, marked, shown_line, line_of_cpu, event_line, line_kept}
use Rattle.trace_ftrace.specs.Numbers.{with_digit}
use Rattle.trace_ftrace.specs.Reading.{reading_of, told_by}
use Rattle.trace_ftrace.specs.Signs.{is_symbol, shown_sort, queue_sign, begin_sign, end_sign, sign_of}
use Rattle.trace_ftrace.specs.StopSigns.{open_sign, step_sign, answer_sign, stop_sign}
use Rattle.trace_ftrace.specs.Told.{recorded, queued, known, begun, ended, mark_told, no_records}
use Rattle.trace_ftrace.specs.Words.{front_of}
use Rattle.trace_ftrace.proofs.laws.traps_end_at_their_probes.Goals as goal

pub returns-clause-moved : goal.returns-clause-moved
unfolding reading_of told_by recorded queued known begun ended mark_told no_records named marked shown_line line_of_cpu event_line line_kept cpu_of time_of
    event_of task_of stamped heading_at with_digit front_of value_of address_of symbol_of needed_address needed_cpu needed_symbol is_symbol shown_sort
    queue_sign begin_sign end_sign sign_of numbered open_sign step_sign answer_sign stop_sign
returns-clause-moved c = refl

pub returns-clause-fixed : goal.returns-clause-fixed
unfolding reading_of told_by recorded queued known begun ended mark_told no_records named marked shown_line line_of_cpu event_line line_kept cpu_of time_of
    event_of task_of stamped heading_at with_digit front_of value_of address_of symbol_of needed_address needed_cpu needed_symbol is_symbol shown_sort
    queue_sign begin_sign end_sign sign_of numbered open_sign step_sign answer_sign stop_sign
returns-clause-fixed c = refl
