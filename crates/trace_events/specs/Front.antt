-- The lines in front of the events of a trace.
use Rattle.std.specs.Prelude.{ℕ, Bool, List, codes}
use Rattle.smp_script.specs.Front.{front_with}
use Rattle.smp_script.specs.Lines.{Line}

-- the title of a trace, and the second line of a script, or the second and the third
abbrev pub front_text : Bool → List Line → List ℕ
front_text has_labels lines = front_with (codes "smp 2 trace\n") has_labels lines
