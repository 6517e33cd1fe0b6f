use Rattle.std.proofs.Common.{refl, arith}
use Rattle.std.proofs.lemmas.List.{same_lists}
use Rattle.smp_words.proofs.same.are_same.Goals as goal

pub returns : goal.returns
returns g c = (λ _. same_lists c.args.one.now c.args.other.now (omega arith) (λ j d below. c.loop-i.invariant j d (omega arith)), λ _. refl)
