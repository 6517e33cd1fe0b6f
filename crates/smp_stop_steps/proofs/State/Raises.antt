-- Raising the phase, and the phase law.
use Rattle.std.proofs.Common.{◌≡◌, ◌≢◌, ℕ, ◌+◌, ◌<◌, ◌≤◌, true, arith, ⊎_elim, ne_eqb}
use Rattle.smp_words.specs.declared.field.Field.TheVariants.{Ack, State}
use Rattle.smp_stop_steps.specs.{behind, count_behind, one, weight, PhaseLaw, AckShows, IsLevel, IsPhaseOf, Keeps, SlotShows, put_field, Raises}
use Rattle.smp_stop_steps.specs.{Raising, Standing, acked, is_of, raised, Field, Kind as KindOf, Stop.Stop}
use Rattle.smp_stop_steps.proofs.{Basics.Counts.sum_same, Basics.Counts.sum_zero, State.Phases.has_acknowledged}
use Rattle.smp_stop_steps.specs.Names.{EXIT, OVER}

pub in_machine : (cpus p c : ℕ) (s : Standing) → is_of s ≡ true → Keeps cpus p c s → c < cpus
in_machine cpus p c s of k = search arith

pub level_of : (cpus p c : ℕ) (s : Standing) → is_of s ≡ true → Keeps cpus p c s → IsLevel p (acked s)
level_of cpus p c s of k = search arith

acked_most : (cpus p c : ℕ) (s : Standing) → is_of s ≡ true → Keeps cpus p c s → acked s ≤ EXIT
acked_most cpus p c s of k = search arith

-- one phase on, for a CPU that has acknowledged this one
keeps_on : (cpus p c : ℕ) (s : Standing) → p ≢ 0 → (is_of s ≡ true → acked s ≡ p) → Keeps cpus p c s → Keeps cpus (p + 1) c s
keeps_on cpus p c s ne all k = search arith

-- all who have acknowledged p are behind the next
behind_next : (p : ℕ) (s : Standing) → (is_of s ≡ true → acked s ≡ p) → behind (p + 1) s ≡ one s
behind_next p s all = search (ne_eqb, arith)

-- a stop of several CPUs keeps a phase
raised_kind : (k : KindOf) (p : ℕ) → p ≢ 0 → IsPhaseOf k p → IsPhaseOf k (p + 1)
raised_kind k p ne h = search arith

module _ (cpus : ℕ) (stop : Stop) (word : Field → ℕ) (g : SlotShows cpus stop word) where
  -- none is behind: all have acknowledged
  pub all_acknowledged : count_behind cpus stop.phase stop.standing ≡ 0 → (c : ℕ) → is_of (stop.standing c) ≡ true → acked (stop.standing c) ≡ stop.phase
  all_acknowledged z c of = has_acknowledged stop.phase (stop.standing c) of
      (sum_zero (λ c. behind stop.phase (stop.standing c)) cpus z c (in_machine cpus stop.phase c (stop.standing c) of (g.keeps c)))

  -- store of the state by the one that filled the count
  pub raises_slot : (me : ℕ) → stop.raising ≡ Raises me → stop.is_open ≡ true → stop.phase ≢ 0 →
      SlotShows cpus (raised stop (stop.phase + 1)) (put_field word State (stop.phase + 1))
  raises_slot me is open_ ne = search (g.shows, all_acknowledged, g.keeps, keeps_on, sum_same, behind_next, raised_kind, arith)

  pub phase_law : stop.is_open ≡ true → stop.phase ≢ 0 → PhaseLaw cpus stop (word Ack)
  phase_law open_ ne = let o = g.shows open_ in search (level_of, g.keeps, ends, acked_most, o.ack, at_five, arith)
    where
      ends : (a : ℕ) → stop.phase ≡ OVER → a ≤ EXIT → IsLevel stop.phase a → a ≡ EXIT
      ends a e m l = ⊎_elim (λ (t : a ≡ stop.phase). omega arith) (λ (t : a + 1 ≡ stop.phase). omega arith) l

      at_five : (r : Raising) → stop.phase ≡ OVER → AckShows cpus stop.phase stop.standing r (word Ack) → word Ack ≡ weight cpus stop.standing
      at_five r e h = search (sum_same, behind_next, ends, acked_most, g.keeps, level_of, arith)
