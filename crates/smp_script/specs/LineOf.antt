-- A `Line` of the program as a line of a text.
use Rattle.smp_script.specs.Lines.{Line}
use Rattle.smp_script.specs.declared.line.Line.{Line as TheLine}

abbrev pub line_of : TheLine → Line
line_of l = record { text = l.text.now; ended = l.is_ended }
