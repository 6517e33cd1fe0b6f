-- Laws of nudges and patches, by where a CPU stands.
use Rattle.std.proofs.Common.{◌≡◌, ℕ, ◌<◌, Bool, true, nat_lt, ltb-true, lt-ltb, eq-eqb, eqb-true, ◌&&◌, cond, sym, subst, refl, ap, ◌∙◌, arith, Option, Some}
use Rattle.std.proofs.Common.{None, List, [], ◌∷◌, ◌++◌}
use Rattle.std.proofs.lemmas.Bool.{cases_lt}
use Rattle.smp_labels.specs.declared.keys.Change.TheVariants.{Up, Down}
use Rattle.smp_words.proofs.Puts.{at_test, put_same}
use Rattle.smp_stop_steps.specs.{is_on, count_after, IsKeyWord, Change, Patches, ReadKey, Whole, IsPatched, KeysStand, Nudges, ReadsOwnPatch, StandsAtEdge}
use Rattle.smp_stop_steps.specs.{StopRole, StopShows, SitsAtRest, Source, StopControlValue, nudge_on, Setup, StopState, at_then}
use Rattle.smp_stop_steps.specs.{state_after, is_patch, key_loaded}
use Rattle.smp_stop_steps.specs.{patch_begun, reads, StopStage, Advance, ExchangeKey, NudgeKey, Visit, Patch, Work, Word, Gate, Key}
use Rattle.smp_stop_steps.specs.{Sits.ControlFits, State.Present}
use Rattle.smp_stop_steps.proofs.{State.Patched.lawful_when_on, State.Patched.nobody_patches, Steps.Patching.not_run, Steps.Stages.at_seat}
use Rattle.smp_stop_steps.specs.note
use Rattle.smp_stop_steps.specs.round

module _ (u : Setup) (p : StopState) (at : Word → ℕ) (seat : ℕ → StopRole) (source : ℕ → Source) (h : StopShows u p at seat source) (c : StopControlValue)
    (me : ℕ)
    (s : ControlFits u me (at Gate) c (seat me) (source me)) where
  on_now : c.interrupts ≡ true → p.now.irq me ≡ true
  on_now on = h.present.irq me ∙ (sym s.irq ∙ on)

  -- who nudges
  pub nudges : (k expected new : ℕ) → c.stage ≡ Some (ExchangeKey k expected new) → Nudges u p me expected new
  nudges k expected new e = search (c.visit, at_seat, on_now, nobody_patches, h.present, ltb-true, lt-ltb, arith)

  -- what is now says what was said, and that the key was read
  abbrev Reads : ℕ → Present → Type 0
  Reads k n = n.readings me ≡ p.now.readings me ++ ReadKey k (is_on (at (Key k))) ∷ []

  -- the load of a nudge is a reading
  nudge_reads : (k : ℕ) (up : Bool) → p.now.irq me ≡ true → Reads k (state_after u p at c me (NudgeKey k up)).now
  nudge_reads k up on = go (p.now.inside me) refl
    where
      read : Reads k (reads p.now me (ReadKey k (is_on (at (Key k)))))
      read = put_same p.now.readings me (p.now.readings me ++ ReadKey k (is_on (at (Key k))) ∷ [])

      go : (x : Option ℕ) → p.now.inside me ≡ x → Reads k (key_loaded u p.now me k (at (Key k)) x)
      go None e = read
      go (Some j) e = let begun = record (p.now) { patching = patch_begun u me (p.now.stop j).work (at (Key k)) } in
          subst (λ b. Reads k (cond (b && is_patch (p.now.stop j).work.kind) begun (reads p.now me (ReadKey k (is_on (at (Key k)))))))
          (sym (not_run u p at seat source h me j on e)) read

  -- a nudge that is refused at the end of the range; after is the count that it would leave
  abbrev Refuses : (k : ℕ) → (after : Option ℕ) → Type 0
  Refuses k after = (nudge_on c k (at (Key k)) after).note ≡ Some note.KeyRange

  pub edge_is_read : (k : ℕ) (up : Bool) → c.stage ≡ Some (NudgeKey k up) → Refuses k (count_after (cond up Up Down) (at (Key k))) →
      StandsAtEdge p (state_after u p at c me (NudgeKey k up)) at me k up
  edge_is_read k up e refused =
      let x : (c.interrupts ≡ true) × (u.online me ≡ true) × (k < u.keys) × SitsAtRest c.visit (seat me) = at_seat s (NudgeKey k up) e in
      let on = on_now x.0 in
      let found = stands up ((lawful_when_on u p.now at seat h.present me x.1 on).keys k (omega arith)) refused in
      record { edge = found; read = nudge_reads k up on ∙ ap (λ b. p.now.readings me ++ ReadKey k b ∷ []) (shows up found) }
    where
      -- a nudge that goes on has another note
      goes : (n : ℕ) → Refuses k (Some n) → ⊥
      goes n = search arith

      stands : (up : Bool) → IsKeyWord (at (Key k)) → Refuses k (count_after (cond up Up Down) (at (Key k))) → at (Key k) ≡ cond up 65535 0
      stands up fits refused = search (nat_lt, goes, cases_lt, lt-ltb, eqb-true, arith)

      shows : (up : Bool) → at (Key k) ≡ cond up 65535 0 → is_on (at (Key k)) ≡ up
      shows up e = search arith

  -- outside a patch
  loaded : KeysStand at at
  loaded = record { keys = λ k. refl; sites = λ i. refl }

  pub keys_stand : (stage : StopStage) → c.stage ≡ Some stage → p.now.patching ≡ Whole → KeysStand at (at_then u at c me stage)
  keys_stand stage e w = search (loaded, at_seat, h.present.stands, at_test, nudges, eqb-true, arith)

  -- a patch that is to acknowledge
  pub patch_answers : (v : Visit) (answer : ℕ) (ran : Bool) → c.stage ≡ Some (Advance v (round.Acknowledge answer ran)) →
      (work : Work) (count : ℕ) (made rest : List Change) → p.now.patching ≡ Patches me work count made rest → IsPatched u work count made rest answer ran
  patch_answers v answer ran e work count made rest is = search (at_seat, v.acked, h.present.stands, arith)

-- what a CPU knows of the key as it leaves its own patch
pub own_patch_is_read : (me : ℕ) (work : Work) → work.kind ≡ Patch → ReadsOwnPatch me work
own_patch_is_read me work kind = search (eq-eqb, work.func, arith)
