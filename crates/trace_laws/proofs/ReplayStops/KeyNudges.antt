-- A key's count is moved by one outside a patch.
use Rattle.trace_laws.proofs.Names.{Bool, Event, Key, LabelWords, None, Ok, Option, Some, StateValue, [], ap, arith, cases_eq, cond, count_at, eq-eqb, eqb-true}
use Rattle.trace_laws.proofs.Names.{false, get_or-set_other, get_or-set_same, goes, inl, inr, is_on, label_goes, le-leb, le-ltb, length-set, lt-ltb, ltb-true}
use Rattle.trace_laws.proofs.Names.{nat_lt, ne_eqb, nudged, refl, slice_set, stop_at, stored, subst, sym, true, ℕ, ◌<◌, ◌==◌, ◌∙◌, ◌∷◌, ◌≡◌, ◌≤◌}
use Rattle.trace_laws.proofs.ReplayNames.{ExchangeKey, FollowsStops, SitsAt, Stop, StopIs, StopStage, StopState, of_nudge, past_at, put_if, put_word}
use Rattle.smp_words.specs.declared.seen.Act.TheVariants as act
use Rattle.smp_words.specs.declared.word.Word.TheVariants as word
use Rattle.smp_stop_steps.specs.{KeyCounts.moved_by, Sits.IsNudge, Tells.key_told}
use Rattle.trace_model.specs.declared.event.Event.TheVariants as event
use Rattle.trace_model.specs.declared.event.LabelEvent.TheVariants as labels
use Rattle.trace_laws.proofs.{ReplayCalls.KeptPasts.past_else, ReplayCalls.KeptPasts.past_here, ReplayCalls.StepEvents.by}
use Rattle.trace_laws.proofs.{ReplayPatches.PatchEvents.made_stored, ReplayStops.ChangedStates.IsAlike, ReplayStops.ChangedStates.cpu_alike}
use Rattle.trace_laws.proofs.{ReplayStops.Here.Here, ReplayStops.Here.my, ReplayStops.Here.parts, ReplayStops.StageSteps.Accepted}
use Rattle.trace_laws.proofs.{ReplayStops.StepEvents.ReachesStops, ReplayStops.StepKinds.nothing_told}

on_same : (found new : ℕ) → is_on new ≡ is_on found → 0 < new → 0 < found
on_same found new same l = ltb-true 0 found (sym same ∙ lt-ltb 0 new l)

nudges_told : (key found new : ℕ) (words : LabelWords) → count_at words key ≡ found → IsNudge found new
    → nudged key (nat_lt found new) words ≡ Ok (stored (Key key) new words)
nudges_told key found new words h1 h2 = search (on_same, lt-ltb, ne_eqb, le-ltb, le-leb, arith)

module _ (known : Here)
    (few : known.v.labels.keys ≤ 4) where
  open known use {p, shown, me, below, pasts, sized, s, cpus_are, f}
  open parts known use {U, At, C, Old}

  -- the count is stored
  module _ (q : StopState) (key new : ℕ) (small : key < 4) (stop : (j : ℕ) → q.now.stop j ≡ p.now.stop j) (inside : (d : ℕ) → q.now.inside d ≡ p.now.inside d)
      (irq : (d : ℕ) → q.now.irq d ≡ p.now.irq d) (calling : (d : ℕ) → q.calling d ≡ p.calling d) (gate : q.gate ≡ p.gate)
      (patching : q.now.patching ≡ p.now.patching) where
    abbrev t : StateValue
    t = record s { words = stored (Key key) new s.words }

    alike : (d : ℕ) → IsAlike p q s (record s { words = stored (Key key) new s.words }) d
    alike d = record {
      inside = inside d;
      irq = irq d;
      calling = calling d;
      standing = λ j is. ap (λ (z : Stop). z.standing d) (stop j);
      inside_told = refl;
      irq_told = refl;
      ran = λ j is l. refl;
      work = λ j is. ap (λ (z : Stop). z.work) (stop j);
      patch = λ j is l k. rw (stop j, patching, calling d) (λ kind active. made_stored (Key key) new s.words p.now.patching (p.calling d)
          (stop_at s j).patch (k kind active));
    }

    follows_nudge : FollowsStops q (put_word At (word.Key key) new) (slice_set pasts me Old) (record s { words = stored (Key key) new s.words })
    follows_nudge = record {
      stops_are = f.stops_are;
      keys_are = length-set s.words.keys key new ∙ f.keys_are;
      sites_are = f.sites_are;
      gate = f.gate ∙ sym gate;
      stops = λ j l. subst (λ (z : Stop). StopIs z (stop_at s j)) (sym (stop j)) (f.stops j l);
      no_more = f.no_more;
      cpus_are = λ d. elim (cases_eq d me) [
        | inl e ↦ rw (e, past_here pasts me Old sized below) (cpu_alike p q s (record s { words = stored (Key key) new s.words }) me Old (alike me) (my known))
        | inr ne ↦ rw (past_else pasts me Old d ne) (cpu_alike p q s (record s { words = stored (Key key) new s.words }) d (past_at pasts d) (alike d)
            (f.cpus_are d))
      ];
      keys = λ j. elim (cases_eq j key) [
        | inl e ↦ rw (e, eq-eqb key key refl) (get_or-set_same s.words.keys key new 0 (rw f.keys_are small))
        | inr ne ↦ rw (ne_eqb j key ne) (get_or-set_other s.words.keys key j new 0 ne ∙ f.keys j)
      ];
      sites = f.sites;
    }

    reaches_nudge : (e : Event) → goes me e s ≡ Ok (record s { words = stored (Key key) new s.words })
        → ReachesStops q (put_word At (word.Key key) new) (slice_set pasts me Old) s ((me, e) ∷ [])
    reaches_nudge e made = record {
      t = record s { words = stored (Key key) new s.words };
      runs = (record s { words = stored (Key key) new s.words }, (made, refl));
      follows = follows_nudge;
      leaves = record { setting = refl; places = refl; entries = refl; cpus_are = refl; calls = λ cpu. refl };
    }

  nudge_made : (key found new : ℕ) → At (word.Key key) ≡ found → p.now.irq me ≡ true → IsNudge found new
      → goes me (event.Label (labels.Nudge key (nat_lt found new))) s ≡ Ok (record s { words = stored (Key key) new s.words })
  unfolding label_goes
  nudge_made key found new is on k = rw (lt-ltb me 32 (omega (arith, below)), (my known).irq ∙ on, nudges_told key found new s.words (f.keys key ∙ is) k) refl

  nudge_by : (key found expected new : ℕ) (b : Bool) → (found == expected) ≡ b → At (word.Key key) ≡ found → p.now.irq me ≡ true → key < 4
      → IsNudge expected new
      → let put : Option ℕ = cond b (Some new) None in
      ReachesStops (key_told U p me key act.Cas (Some found) put) (put_if put_word At (word.Key key) put) (slice_set pasts me Old) s (by me
      (of_nudge key found put))
  nudge_by key found expected new true e is on small k =
      let same = eqb-true found expected e in
      reaches_nudge (record p { nudged = moved_by p.nudged me key found new }) key new small (λ j. refl) (λ d. refl) (λ d. refl) (λ d. refl) refl refl
      (event.Label (labels.Nudge key (nat_lt found new))) (nudge_made key found new is on (subst (λ (n : ℕ). IsNudge n new) (sym same) k))
  nudge_by key found expected new false e is on small k =
      nothing_told known At (λ j. refl) (λ j. refl) Old refl refl

  irq_on : C.interrupts ≡ true → p.now.irq me ≡ true
  irq_on e = shown.shows.present.irq me ∙ (sym (shown.sits me below).irq ∙ e)

  pub exchanges : (key expected new : ℕ) → C.stage ≡ Some (ExchangeKey key expected new)
      → Accepted known (ExchangeKey key expected new)
  exchanges key expected new e =
      let k = subst (λ (x : Option StopStage). SitsAt U me C x (shown.seat me)) e (shown.sits me below).seat in
      nudge_by key (At (word.Key key)) expected new (At (word.Key key) == expected) refl refl (irq_on k.0) (let n = k.2 in omega (arith, n, few)) k.3
