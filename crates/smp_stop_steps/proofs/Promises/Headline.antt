-- The headline, of stops.
use Rattle.std.proofs.Common.{◌≡◌, ◌≢◌, inl, inr, ℕ, true, Some, sym, subst, ap, ◌∙◌, arith}
use Rattle.smp_stop_steps.specs.{Setup, StopState, StopCall, Work, Word, One, has, labels_in, KeepsStopLaws, RunsAlone, RunsFunction, IsPatcher}
use Rattle.smp_stop_steps.specs.{is_between, HasFunctions, HasPatcher, IsLawfulOutside, Shows.AreAtSeats}
use Rattle.smp_stop_steps.proofs.{Promises.Functions.functions_at_seats, Promises.Patchers.lawful_outside, Promises.Patchers.patcher_at_seats}
use Rattle.smp_stop_steps.specs.Headline.{has_entered, makes_patch, IsDisabled, RunsDisabled, RunDisabled, IsLawfulElse}

module _ {u : Setup} {p : StopState} (functions : HasFunctions p) (patchers : HasPatcher u p) where
  -- alone is disabled
  disabled : (s c : ℕ) → RunsAlone p s c → (d : ℕ) → has (p.now.stop s).work.mask d ≡ true → IsDisabled p s d
  disabled s c alone d of = record {
    acknowledged = elim (alone.law.all_disabled d of) [ inl e ↦ omega (arith, e) | inr e ↦ omega (arith, e) ];
    off = alone.all_off d of;
  }

  same_stop : (s t c : ℕ) → p.now.inside c ≡ Some s → p.now.inside c ≡ Some t → t ≡ s
  same_stop s t c e f = let g : Some t ≡ Some s = sym f ∙ e in cc

  entered : (s c : ℕ) (call : StopCall) → (p.now.stop s).work.kind ≢ One → RunsFunction p s c call → RunsDisabled p s c
  entered s c call ne f = elim f.runs [
    | inl one ↦ absurd (ne one)
    | inr active ↦ record {
      member = active.alone.law.of_it;
      active = active.active;
      disabled = disabled s c active.alone;
    }
  ]

  patches : (s c : ℕ) (work : Work) → IsPatcher u p s c work → RunsDisabled p s c
  patches s c work f = record {
    member = f.alone.law.of_it;
    active = subst (λ w. has w.active c ≡ true) (sym f.work_is) f.active;
    disabled = disabled s c f.alone;
  }

  pub run_disabled : RunDisabled p
  run_disabled s c (has_entered call calling inside ne) =
      let f = functions c call calling in
      entered s c call ne (subst (λ t. RunsFunction p t c call) (same_stop s f.0 c inside f.1.inside) f.1)
  run_disabled s c (makes_patch work count made rest patching inside) =
      let f = patchers c work count made rest patching in
      patches s c work (subst (λ t. IsPatcher u p t c work) (same_stop s f.0 c inside f.1.inside) f.1)

lawful_else : (p : StopState) (at : Word → ℕ) → IsLawfulOutside p at → IsLawfulElse p at
lawful_else p at lawful e = lawful (ap is_between e)

module _ {u : Setup} {p : StopState} {at : Word → ℕ} where
  pub disabled_while : KeepsStopLaws u p at → RunDisabled p
  disabled_while k = run_disabled k.calls k.patchers

  pub lawful_while : KeepsStopLaws u p at → IsLawfulElse p at
  lawful_while k = lawful_else p at k.lawful

  -- the same of words with each CPU at a seat
  pub disabled_at_seats : AreAtSeats u p at → RunDisabled p
  disabled_at_seats h = run_disabled (functions_at_seats u p at h.seat h.present h.callings) (patcher_at_seats u p at h.seat h.present)

  pub lawful_at_seats : AreAtSeats u p at → IsLawfulElse p at
  lawful_at_seats h = lawful_else p at (lawful_outside p.now.patching (labels_in at) h.present.labels)
