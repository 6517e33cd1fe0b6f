use Rattle.std.proofs.Common.{◌≡◌, map, take}
use Rattle.std.specs.List.{flat_map}
use Rattle.trace_page.specs.TracePages.{source_line}
use Rattle.trace_page.proofs.page.lines_text.Given as goal

abbrev pub invariant-loop-told : goal.invariant-loop-told
invariant-loop-told g l = l.out.items ≡ flat_map (source_line (map (λ line. line.now) l.lines)) (take l.told-index l.events)
