use Rattle.std.proofs.Common.{ℕ, ◌≡◌, ◌<◌, ◌==◌, true, arith, subst, sym}
use Rattle.std.proofs.lemmas.Bool.{eqb-true}
use Rattle.smp_words.specs.Size.{cpus}
use Rattle.smp_mask.specs.Mask.{has}
use Rattle.smp_machine.proofs.Names.{each_of_cond, target_below}
use Rattle.smp_machine.proofs.seat.Seat.on_each_cpu_mask.Goals as goal

pub returns-clause-answers : goal.returns-clause-answers
returns-clause-answers g c =
    let s = c.args.self.now in let online = s.machine.calls.online in let this = s.cpu.calls.number in let limits = c.online-limits.ensures.limits in
    let low : (x : ℕ) → has online x ≡ true → x < cpus = λ x there.
    omega (arith, limits.below x (subst (λ (m : ℕ). has m x ≡ true) (sym c.online-limits.ensures.calls) there), limits.within) in
    let own : (x : ℕ) → (x == this) ≡ true → x < cpus = λ x e.
    subst (λ (n : ℕ). n < cpus) (sym (eqb-true x this e)) (subst (λ (n : ℕ). n < cpus) c.number-below.ensures.number c.number-below.ensures.below) in
    each_of_cond g.H.Handler.leads s.machine s.cpu s.handler c.each_cpu_cond.new.self.cpu c.each_cpu_cond.new.self.handler _ c.args.mask c.args.func c.args.info
    c.args.wait c.each_cpu_cond.result (λ x answer said. search said)
    (λ x target. target_below x cpus (has c.args.mask x) (has online x) (x == this) (low x) (own x) target) c.each_cpu_cond.ensures.answers
