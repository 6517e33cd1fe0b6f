-- A source's own key, until it has left its Patch stop.
use Rattle.std.proofs.Common.{◌≡◌, ℕ, ◌≤◌, true, ◌&&◌, subst, arith, List}
use Rattle.smp_stop_steps.specs.{put_word, Change, StandsSet, OwnsKey, PresentShows, Alters, StopRole, Setup, Inside, is_inside}
use Rattle.smp_stop_steps.specs.{is_of, Patch, Work, Key, Word, has}
use Rattle.smp_stop_steps.specs.State.{Present}
use Rattle.smp_stop_steps.proofs.{State.Ends.function_law, State.Phases.is_open_inside, State.Raises.level_of}
use Rattle.smp_stop_steps.specs.Names.{DISABLE_IRQ, RUN, EXIT}

module _ (u : Setup) (p : Present) (at : Word → ℕ) (seat : ℕ → StopRole) (h : PresentShows u p at seat) where
  pub mask_is : (s c : ℕ) → (p.stop s).is_open ≡ true → is_of ((p.stop s).standing c) ≡ has (p.stop s).work.mask c
  mask_is s c open_ = subst (λ b. is_of ((p.stop s).standing c) ≡ (b && has (p.stop s).work.mask c)) open_ ((h.slots s).members c)

  -- while a function runs, each CPU of the mask is inside that stop
  pub all_inside : (s me : ℕ) → (p.stop s).standing me ≡ Inside DISABLE_IRQ RUN → (c : ℕ) → has (p.stop s).work.mask c ≡ true
      → is_inside ((p.stop s).standing c) ≡ true
  all_inside s me is c of = search (function_law, h.slots, is_open_inside, mask_is, arith)

  -- while a patch is under way, the source of no other one waits inside its own: a store is in no other's way
  pub owns_stores : (s me t k n : ℕ) (job : Work) (count : ℕ) (made rest : List Change) → seat me ≡ Alters t job count made rest →
      OwnsKey u.first p (λ j. at (Key j)) s →
      OwnsKey u.first p (λ j. put_word at (Key k) n (Key j)) s
  owns_stores s me t k n job count made rest is own open_ kind in_ done = search (is_open_inside, mask_is, all_inside, arith)

  -- at phase 4 the key stands so: with it the source's readings begin when it leaves
  pub owns_at_leave : (s : ℕ) → (p.stop s).is_open ≡ true → (p.stop s).work.kind ≡ Patch → is_inside ((p.stop s).standing s) ≡ true → EXIT ≤ (p.stop s).phase →
      u.online u.first ≡ true →
      OwnsKey u.first p (λ k. at (Key k)) s → StandsSet (p.stop s).work (at (Key (p.stop s).work.func))
  owns_at_leave s open_ kind in_ late on own = search (mask_is, h.works, level_of, h.slots, arith)
