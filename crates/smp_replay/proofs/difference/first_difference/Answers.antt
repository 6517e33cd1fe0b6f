use Rattle.std.proofs.Common.{◌≡◌, ◌<◌, ◌∙◌, length, arith}
use Rattle.std.proofs.lemmas.List.{take_more_same}
use Rattle.smp_replay.proofs.Differences.{ends_apart, line_next, line_on, starts_next, starts_on}
use Rattle.smp_replay.proofs.difference.first_difference.Goals as goal
use Rattle.smp_replay.proofs.difference.first_difference.Goals.{then-one-at-eq10, else-one-at-eq10}

pub loop-at-preserved : goal.loop-at-preserved
loop-at-preserved c =
    let i = c.loop-at.invariant in
    let one = c.args.one.now in
    let two = c.args.two.now in
    let in_one : c.loop-at.at < length one = omega (arith, c.loop-at-test.true, c.min-most.ensures) in
    let in_two : c.loop-at.at < length two = omega (arith, c.loop-at-test.true, c.min-most.ensures) in
    record {
      same = take_more_same one two c.loop-at.at 0 in_one in_two i.same c.if-one-at.false;
      line = elim c.if-one-at-eq10.branch [
        | then-one-at-eq10 w ↦ w.line-is ∙ line_next one c.loop-at.at c.loop-at.line in_one w.if-one-at-eq10.true i.line
        | else-one-at-eq10 w ↦ w.line-is ∙ line_on one c.loop-at.at c.loop-at.line in_one w.if-one-at-eq10.false i.line
      ];
      start = elim c.if-one-at-eq10.branch [
        | then-one-at-eq10 w ↦ rw w.start-is (starts_next one c.loop-at.at w.if-one-at-eq10.true)
        | else-one-at-eq10 w ↦ rw w.start-is (starts_on one c.loop-at.start c.loop-at.at i.start w.if-one-at-eq10.false)
      ];
    }

pub returns : goal.returns
returns c =
    let i = c.loop-at.invariant in
    let here : c.loop-at.at ≡ c.min-most.result = omega (arith, c.loop-at-test.false, c.loop-at.auto.at-end) in
    record {
      same = rw (← here) i.same;
      differs = ends_apart c.args.one.now c.args.two.now c.min-most.result c.min-most.ensures c.if-one-two.false c.type_inv.one c.type_inv.two;
      line = rw (← here) i.line;
      start = rw (← here) i.start;
    }
