-- Stops that are reached: no stop begun, and what one step more leads to.
use Rattle.std.proofs.Common.{ℕ, List, [], ◌∷◌, ◌++◌, subst, refl, ap}
use Rattle.smp_stop_steps.specs.{at_after, Access, Free, Shut, StopShows, Setup, StopState, Word, no_stops, Threads.Known.AreTold}
use Rattle.smp_stop_steps.specs.Reached.{seen_there, IsAllowed, Lead, IsReached, MovesReach}
use Rattle.smp_stop_steps.specs.Threads.Moves.{known_access}
use Rattle.smp_stop_steps.proofs.Promises.KnownPremises.{keeps_move_laws}

module _ (u : Setup) (cpu : ℕ) (access : Access) (q next : StopState) (to : Word → ℕ) (may : IsAllowed u q to cpu access)
    (told : AreTold u cpu q next (seen_there to cpu access)) where
  lead_more : (p : StopState) (at : Word → ℕ) (steps : List (ℕ × Access)) → Lead u p at steps q to
      → Lead u p at (steps ++ (cpu, access) ∷ []) next (at_after to access)
  lead_more p at [] same = (
    next,
    subst (λ x. IsAllowed u x at cpu access) same.0 (subst (λ w. IsAllowed u q w cpu access) same.1 may),
    subst (λ x. AreTold u cpu x next (seen_there at cpu access)) same.0 (subst (λ w. AreTold u cpu q next (seen_there w cpu access)) same.1 told),
    (refl, ap (λ w. at_after w access) same.1),
  )
  lead_more p at (step ∷ rest) lead = (lead.0, lead.1, lead.2, lead_more lead.0 (at_after at step.1) rest lead.3)

  pub reach_more : IsReached u q to → IsReached u next (at_after to access)
  reach_more r = record {
    opening = r.opening;
    opens = r.opens;
    steps = r.steps ++ (cpu, access) ∷ [];
    lead = lead_more no_stops r.opening r.steps r.lead;
  }

-- words that show no stop begun are reached by no step
pub nothing_reached : (u : Setup) (at : Word → ℕ) → StopShows u no_stops at (λ _. Free) (λ _. Shut) → IsReached u no_stops at
nothing_reached u at shown = record { opening = at; opens = shown; steps = []; lead = (refl, refl) }

pub moves_reach : MovesReach
moves_reach p at seat source v h sees on m may q told r =
    let laws = keeps_move_laws p at seat source v h sees m may in
    reach_more _ v.number (known_access v m) p q at (on, laws.premise) told r
