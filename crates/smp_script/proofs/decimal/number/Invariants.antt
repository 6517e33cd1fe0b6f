use Rattle.smp_script.proofs.Names.{◌≡◌, ◌^◌, take, min, true, list_all, value_after, is_digit}
use Rattle.smp_script.proofs.decimal.number.Given as goal

abbrev pub invariant-loop-byte : goal.invariant-loop-byte
invariant-loop-byte l = (list_all is_digit (take l.byte-index l.text) ≡ true) × (l.value ≡ min (value_after 0 (take l.byte-index l.text)) (2 ^ 64))
