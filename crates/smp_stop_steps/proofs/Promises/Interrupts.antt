-- When a CPU's interrupts are off.
use Rattle.std.proofs.Common.{◌≡◌, ℕ, ◌+◌, ◌≤◌, true, false, le-ltb, ne_eqb, ⊎_elim, Some, None, ap, ◌∙◌, arith}
use Rattle.smp_stop_steps.specs.{HasNotLeft, InterruptLaw, StopRole, RoleStands, irq_of, StopShows, Source, Setup, StopState, Inside, is_inside, Word, Slot}
use Rattle.smp_stop_steps.proofs.State.Phases.{keeps_inside}
use Rattle.smp_stop_steps.specs.Names.{DISABLE_IRQ}

module _ (u : Setup) (p : StopState) (at : Word → ℕ) (seat : ℕ → StopRole) (source : ℕ → Source) (h : StopShows u p at seat source) (c : ℕ) where
  -- in no stop interrupts are on
  on_outside : (x : StopRole) → RoleStands p.now c x → p.now.inside c ≡ None → irq_of x ≡ true
  on_outside x st none = search arith

  in_off : (x : StopRole) → RoleStands p.now c x → (s a l : ℕ) → p.now.inside c ≡ Some s → (p.now.stop s).standing c ≡ Inside a l → DISABLE_IRQ ≤ l →
      HasNotLeft (p.now.stop s) c a → irq_of x ≡ false
  in_off x st s a l in_ is m stays = search (le-ltb, ne_eqb, arith)

  off : (s a l : ℕ) → (p.now.stop s).standing c ≡ Inside a l → DISABLE_IRQ ≤ l → HasNotLeft (p.now.stop s) c a → p.now.irq c ≡ false
  off s a l is m stays = h.present.irq c ∙ in_off (seat c) (h.present.stands c) s a l (h.present.homes s c (ap is_inside is)) is m stays

  pub interrupt_law : InterruptLaw p c
  interrupt_law = record {
    off = off;
    acknowledged = λ s a l is m stays.
        let k = keeps_inside u.cpus (p.now.stop s) (λ f. at (Slot s f)) (h.present.slots s) c (Inside a l) is in
        off s a l is (⊎_elim (λ (e : l ≡ a). omega arith) (λ (e : (l ≡ a + 1) × ((p.now.stop s).phase ≡ l)). let x = e.0 in omega arith) k.2) stays;
    on = λ none. h.present.irq c ∙ on_outside (seat c) (h.present.stands c) none;
  }
