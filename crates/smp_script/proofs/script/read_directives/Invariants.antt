use Rattle.smp_script.proofs.Names.{◌<◌, ◌^◌, [], length, lines_of, directives_of}
use Rattle.smp_script.proofs.Reader.Directives.{Stands}
use Rattle.smp_script.proofs.script.read_directives.Given as goal

abbrev pub invariant-loop-next : goal.invariant-loop-next
invariant-loop-next g l = record {
  stands : Stands l.fn.setting l.line l.events l.found.items (lines_of l.rest) (directives_of l.fn.setting l.fn.first 0 [] (lines_of l.fn.body));
  short : length l.rest < 2 ^ 32;
}

abbrev pub decreases-loop-next : goal.decreases-loop-next
decreases-loop-next g l = length l.rest
