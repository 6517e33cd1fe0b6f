use Rattle.std.proofs.Common.{refl}
use Rattle.std.specs.Fmt.{digits}
use Rattle.trace_ftrace.specs.Fields.{value_of, address_of, symbol_of, needed_address, needed_cpu, needed_symbol}
use Rattle.trace_ftrace.specs.Headings.{cpu_of, time_of, event_of, task_of, stamped, heading_at}
use Rattle.trace_ftrace.specs.Kept.{numbered}
use Rattle.trace_ftrace.specs.Marks.{named, marked, shown_line, line_of_cpu, event_line, line_kept}
use Rattle.trace_ftrace.specs.Names.{address_text}
use Rattle.trace_ftrace.specs.Numbers.{with_digit}
use Rattle.trace_ftrace.specs.Reading.{reading_of, told_by}
use Rattle.trace_ftrace.specs.Signs.{is_symbol, shown_sort, queue_sign, begin_sign, end_sign, sign_of}
use Rattle.trace_ftrace.specs.Told.{recorded, queued, known, begun, ended, mark_told, no_records}
use Rattle.trace_ftrace.specs.Words.{front_of}
use Rattle.std.specs.Char.{encode_utf8}
use Rattle.std.specs.Str.{chars}
use Rattle.trace_page.specs.Grids.{lanes_below}
use Rattle.trace_page.specs.Links.{box_text, call_arrow}
use Rattle.trace_page.specs.Pictures.{body_text, event_text, front_text, note_text, picture_text, time_above}
use Rattle.trace_page.specs.Titles.{label_of, time_text, title_of}
use Rattle.view.specs.Elements.{area_text, arrow_back, arrow_front, arrow_text, dot_text, extent_text, leaving_text, meeting_text, point_text, title_text}
use Rattle.view.specs.Elements.{use_text, words_front, words_text}
use Rattle.view.specs.Legend.{box_text as view_box, ground_text, head_text, lane_text, lower_end, mark_text, size_text, tick_text, upper_end}
use Rattle.trace_page.proofs.picture_laws.pictures_have_all_events.Goals as goal

pub returns : goal.returns
unfolding lanes_below no_records chars encode_utf8 box_text call_arrow body_text event_text front_text note_text picture_text time_above label_of time_text
    title_of area_text arrow_back arrow_front arrow_text dot_text extent_text leaving_text meeting_text point_text title_text use_text words_front words_text
    view_box lower_end upper_end ground_text head_text lane_text mark_text size_text tick_text digits reading_of told_by recorded queued known begun ended
    mark_told named marked shown_line line_of_cpu event_line line_kept cpu_of time_of event_of task_of stamped heading_at with_digit front_of value_of
    address_of symbol_of needed_address needed_cpu needed_symbol is_symbol shown_sort queue_sign begin_sign end_sign sign_of numbered address_text
returns c = refl
