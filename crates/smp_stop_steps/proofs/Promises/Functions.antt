-- When a stop function runs, and who is to store done.
use Rattle.std.proofs.Common.{◌≡◌, ℕ, true, sym, refl, ◌∙◌, arith}
use Rattle.smp_stop_steps.specs.{IsLast, IsClosing, HasFunctions, StopRole, Closes, StopShows, DoneShows, Source, Setup, StopState}
use Rattle.smp_stop_steps.specs.{Ending, Running, Last, Ended}
use Rattle.smp_stop_steps.specs.{Inside, IsCalling, PresentShows, is_multi, Kind as KindOf, Multi, Word, Slot, RunsAlone, Field}
use Rattle.smp_stop_steps.proofs.{Basics.Bools.both_true, State.Ends.function_law, State.Patched.all_off}
use Rattle.smp_stop_steps.specs.Names.{DISABLE_IRQ, RUN}

multi_kind : (k : KindOf) → is_multi k ≡ true → k ≡ Multi
multi_kind k e = search arith

module _ (u : Setup) (p : StopState) (at : Word → ℕ) (seat : ℕ → StopRole) (present : PresentShows u p.now at seat) where
  pub alone_at_run : (s me : ℕ) → (p.now.stop s).standing me ≡ Inside DISABLE_IRQ RUN → RunsAlone p s me
  alone_at_run s me is = search (function_law, present.slots, all_off, present, arith)

  pub functions_at_seats : ((c : ℕ) → IsCalling c (seat c) (p.calling c)) → HasFunctions p
  functions_at_seats callings c call is = search (callings, present.stands, both_true, multi_kind, alone_at_run, arith)

module _ (u : Setup) (p : StopState) (at : Word → ℕ) (seat : ℕ → StopRole) (source : ℕ → Source) (h : StopShows u p at seat source) where
  pub runs_alone : (s me : ℕ) → (p.now.stop s).standing me ≡ Inside DISABLE_IRQ RUN → RunsAlone p s me
  runs_alone s me is = alone_at_run u p at seat h.present s me is

  pub has_functions : HasFunctions p
  has_functions c call is = functions_at_seats u p at seat h.present h.callings c call is

  pub last_stores : IsClosing p at seat
  last_stores s op none zero_ = go (p.now.stop s).ending refl ((h.present.slots s).shows op).done
    where
      one_last : (c : ℕ) → (p.now.stop s).ending ≡ Last c → (d : ℕ) → seat d ≡ Closes s → d ≡ c
      one_last c e d is = search (h.present.stands, arith)

      go : (e : Ending) → (p.now.stop s).ending ≡ e → DoneShows u.cpus (p.now.stop s).standing e (at (Slot s Field.Done)) → (c : ℕ) × IsLast p seat s c
      go Running e d = absurd (d.1 (sym ((h.present.slots s).shows op).todo ∙ none))
      go (Last c) e d = let k = h.closing s c op e in (c, record { ending = e; completed = k.1; closes = k.0; alone = one_last c e })
      go Ended e d = absurd (let one = d.0 in omega arith)
