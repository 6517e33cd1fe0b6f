use Rattle.std.proofs.Common.{refl, arith}
use Rattle.smp_queue.specs.{table_with, made_with}
use Rattle.smp_queue.proofs.TheRule.Seating.{seats_more, seats_wait, seats_left}
use Rattle.smp_queue.proofs.table.build.Goals as goal

pub loop-number-init : goal.loop-number-init
loop-number-init g c = search arith

pub cpu_if-requires-clause-below : goal.cpu_if-requires-clause-below
cpu_if-requires-clause-below g c = let t = c.loop-number-test.true in let w = c.requires.within in search arith

pub loop-number-preserved : goal.loop-number-preserved
loop-number-preserved g c = search (seats_more, arith)

pub invariant_of-boot : goal.invariant_of-boot
invariant_of-boot g c = search (seats_wait, arith)

pub returns : goal.returns
returns g c =
    let s = c.loop-number.invariant in (
      refl,
      refl,
      record {
        table_is = λ i. table_with (s.maker_is i) (made_with (s.next.1 i));
        left_are = search (seats_left, arith);
      },
    )
