use Rattle.smp_script.proofs.Names.{◌≡◌, map, take, entry_of}
use Rattle.smp_script.proofs.labels.read_entries.Given as goal

abbrev pub invariant-loop-item : goal.invariant-loop-item
invariant-loop-item l = l.entries.items ≡ map entry_of (map (λ i. i.now) (take l.item-index l.items))
