-- Only the first CPU that is online makes a patch, and it makes one alone.
use Rattle.trace_laws.proofs.Names.{arith, List, None, Some, eqb-true, has, refl, sym, true, ℕ, ◌∙◌, ◌≡◌}
use Rattle.trace_laws.proofs.ReplayNames.{Alters, Change, Patch, StopRole, Setup, Slot, RoleStands, StopState, Whole, Word, Work, is_inside}
use Rattle.trace_laws.proofs.ReplayNames.{is_open_inside}
use Rattle.smp_stop_steps.specs.{Shows.StopShows, declared.known.Source.Source}
use Rattle.trace_laws.proofs.ReplayStops.ChangedStates.{IsAlone}

none_some : (n : ℕ) → None ≡ Some n → ⊥
none_some n e = absurd cc

some_same : (a b : ℕ) → Some a ≡ Some b → a ≡ b
some_same a b e = cc

-- a CPU that is in a stop is inside it
module _ (p : StopState) (slot c : ℕ) where
  abbrev IsInside : ℕ → Type 0
  IsInside j = is_inside ((p.now.stop j).standing c) ≡ true

  pub inside_by : (x : StopRole) → RoleStands p.now c x → p.now.inside c ≡ Some slot → is_inside ((p.now.stop slot).standing c) ≡ true
  inside_by x h1 h2 = search (none_some, some_same, arith)

-- the CPU makes no patch
abbrev pub MakesNone : StopRole → Type 0
MakesNone x = (j : ℕ) (w : Work) (count : ℕ) (made rest : List Change) → x ≡ Alters j w count made rest → ⊥

module _ (u : Setup) (p : StopState) (at : Word → ℕ) (seat : ℕ → StopRole) (source : ℕ → Source) (h : StopShows u p at seat source) where
  pub open_inside : (slot c : ℕ) → p.now.inside c ≡ Some slot → (p.now.stop slot).is_open ≡ true
  open_inside slot c e =
      is_open_inside u.cpus (p.now.stop slot) (λ g. at (Slot slot g)) (h.present.slots slot) c ((p.now.stop slot).standing c) refl
      (search arith)

  -- the active CPU of a patch is the first that is online
  pub first_is : (slot c : ℕ) → (p.now.stop slot).is_open ≡ true → (p.now.stop slot).work.kind ≡ Patch → has (p.now.stop slot).work.active c ≡ true
      → c ≡ u.first
  first_is slot c o kind active = eqb-true c u.first (sym ((h.present.works slot o kind).first c) ∙ active)

  pub alone_is : (me : ℕ) → me ≡ u.first → IsAlone p me
  alone_is me first cpu slot ne inside kind active = ne (first_is slot cpu (open_inside slot cpu inside) kind active ∙ sym first)

  -- nobody patches while that CPU makes no patch
  pub nobody_patches : (me : ℕ) → me ≡ u.first → MakesNone (seat me) → p.now.patching ≡ Whole
  nobody_patches me h1 h2 = search arith

  pub elsewhere_none : (me : ℕ) → p.now.inside me ≡ None → MakesNone (seat me)
  elsewhere_none me out j w count made rest e = search (none_some, arith)
