-- The first CPU at which a record is.
use Rattle.std.proofs.Common.{◌≡◌, ◌≢◌, ℕ, zero, suc, ◌+◌, ◌<◌, ◌≤◌, Bool, true, false, List, Option, Some, None, refl, sym, ◌∙◌, ap, inl, inr, arith, subst}
use Rattle.std.proofs.lemmas.Bool.{cases_lt, ne_eqb}
use Rattle.smp_words.specs.Size.{cpus}
use Rattle.smp_words.specs.Layout.{number_in}
use Rattle.smp_call_steps.specs.{RecPlace, Flags, Head, has_record, running_of, ControlValue, control_of, is_left, leads_through, or_held, or_place, place_at}
use Rattle.smp_call_steps.specs.{place_below, place_in}
use Rattle.smp_call_steps.specs.place

module _ (words : List ℕ) (controls : List ControlValue) (id : ℕ) where
  abbrev at_cpu : ℕ → Option RecPlace
  at_cpu cpu = place_at words (control_of controls cpu).stage cpu id

  abbrev in_queue : ℕ → Bool
  in_queue cpu = leads_through words (number_in words (Head cpu)) id

  abbrev in_batch : ℕ → Bool
  in_batch cpu = is_left words (control_of controls cpu).stage id

  abbrev runs : ℕ → Bool
  runs cpu = has_record id (running_of (control_of controls cpu).stage)

  -- it is in the CPU's queue, in its batch, running there, or none of these

  pub is_queued : (cpu : ℕ) → in_queue cpu ≡ true → at_cpu cpu ≡ Some (place.Queued cpu)
  is_queued cpu e = rw e refl

  pub is_batched : (cpu : ℕ) → in_queue cpu ≡ false → in_batch cpu ≡ true → at_cpu cpu ≡ Some (place.Batch cpu)
  is_batched cpu f e = rw f (rw e refl)

  pub is_run : (cpu : ℕ) → in_queue cpu ≡ false → in_batch cpu ≡ false → runs cpu ≡ true → at_cpu cpu ≡ Some (place.Running cpu)
  is_run cpu f g e = rw f (rw g (rw e refl))

  pub is_elsewhere : (cpu : ℕ) → in_queue cpu ≡ false → in_batch cpu ≡ false → runs cpu ≡ false → at_cpu cpu ≡ None
  is_elsewhere cpu f g e = rw f (rw g (rw e refl))

  -- what was found stays the first however many CPUs follow
  stays_found : (n m : ℕ) (p : RecPlace) → place_below words controls id n ≡ Some p → n ≤ m → place_below words controls id m ≡ Some p
  unfolding place_below
  stays_found n zero p e l = let same : n ≡ 0 = omega (arith, l) in subst (λ k. place_below words controls id k ≡ Some p) same e
  stays_found n (suc m) p e l =
      elim (cases_lt n (suc m)) [
        | inl before ↦ ap (λ q. or_place q (at_cpu m)) (stays_found n m p e (omega (arith, before)))
        | inr after ↦ (let same : n ≡ suc m = omega (arith, l, after) in subst (λ k. place_below words controls id k ≡ Some p) same e)
      ]

  -- of a locked record its place is the first that was found, or it is held by its owner

  pub told_first : (cpu : ℕ) (p : RecPlace) → number_in words (Flags id) ≢ 0 → cpu < cpus → place_below words controls id cpu ≡ None → at_cpu cpu ≡ Some p →
      p ≡ place_in words controls id
  unfolding place_below
  told_first cpu p ne l none here =
      let found = stays_found (suc cpu) cpus p (ap (λ q. or_place q (at_cpu cpu)) none ∙ here) (omega (arith, l)) in
      rw (ne_eqb (number_in words (Flags id)) 0 ne) (sym (ap or_held found))

  pub told_held : (n : ℕ) → number_in words (Flags id) ≢ 0 → n ≡ cpus → place_below words controls id n ≡ None → place.Held ≡ place_in words controls id
  told_held n ne all none = search (ne_eqb, arith)

  pub none_first : place_below words controls id 0 ≡ None
  unfolding place_below
  none_first = refl

  none_on : (cpu : ℕ) → place_below words controls id cpu ≡ None → at_cpu cpu ≡ None → place_below words controls id (suc cpu) ≡ None
  unfolding place_below
  none_on cpu none here = ap (λ q. or_place q (at_cpu cpu)) none ∙ here

  pub none_found : (cpu : ℕ) → place_below words controls id cpu ≡ None → at_cpu cpu ≡ None → place_below words controls id (cpu + 1) ≡ None
  none_found cpu none here =
      let next : suc cpu ≡ cpu + 1 = omega arith in subst (λ k. place_below words controls id k ≡ None) next (none_on cpu none here)
