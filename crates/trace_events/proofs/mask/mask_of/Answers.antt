use Rattle.std.proofs.Common.{◌≡◌, ℕ, ◌&&◌, nat_lt, subst, arith}
use Rattle.smp_mask.specs.Mask.{has}
use Rattle.trace_events.proofs.Masks.{same_mask}
use Rattle.trace_events.proofs.mask.mask_of.Goals as goal

pub returns : goal.returns
returns c =
    let mask = c.loop-cpu.mask in
    let word = c.args.word in
    let here : c.loop-cpu.cpu ≡ 32 = omega (arith, c.loop-cpu-test.false, c.loop-cpu.auto.cpu-end) in
    let P : ℕ → Type 0 = λ n. (i : ℕ) → has mask i ≡ (nat_lt i n && has word i) in
    same_mask word mask (subst P here c.loop-cpu.invariant)
