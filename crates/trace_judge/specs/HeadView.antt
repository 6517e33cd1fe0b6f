-- A head of the program, and where its text is read to, as those of the definitions.
use Rattle.smp_script.specs.Lines.{lines_of}
use Rattle.trace_judge.specs.declared.cursor.Cursor.{Cursor}
use Rattle.trace_judge.specs.declared.head.Head.{Head}
use Rattle.trace_judge.specs.Head.{CursorValue, HeadValue}

abbrev pub cursor_of : Cursor → CursorValue
cursor_of c = record { number = c.number; used = c.used; lines = lines_of c.rest.now }

abbrev pub head_value : Head → HeadValue
head_value h = record { setting = h.setting; words = h.words; cursor = cursor_of h.cursor }
