-- Which CPU may change the words of a record.
use Rattle.std.proofs.Common.{arith, ◌≡◌, ℕ, Bool, ◌==◌, cond, ◌⊎◌, inl, inr, Option, Some, None, sym, subst, refl}
use Rattle.smp_words.specs.Access.{act_of, word_of, found_by, put_by, put_if, at_after}
use Rattle.smp_words.specs.Put.{put_word}
use Rattle.smp_words.proofs.Puts.{at_test}
use Rattle.smp_call_steps.specs.{CallState, Holding, Holds, HoldsUncounted, MayStoreFlags, MaySee, IsWordOf, MayStoreAt, ControlValue, access_of}
use Rattle.smp_call_steps.specs.{KeepsRecords, Word, Head, Intr, Flags, Func, Info, Next, Access, Store, RecPlace, Stage}
use Rattle.smp_call_steps.specs.Shows.{Shows}
use Rattle.smp_call_steps.proofs.State.Counts.{held_place}
use Rattle.smp_call_steps.proofs.StepLaws.Premises.{may_see}
use Rattle.smp_call_steps.specs.act
use Rattle.smp_call_steps.specs.place

module _ (a : CallState) (at : Word → ℕ) (control : ℕ → ControlValue) (s : Shows a at control) (me : ℕ) where
  abbrev May : ℕ → Type 0
  May id = MayStoreAt (a.place id) a me id

  at_place : (id : ℕ) (p : RecPlace) → a.place id ≡ p → MayStoreAt p a me id → May id
  at_place id p is may = subst (λ (x : RecPlace). MayStoreAt x a me id) (sym is) may

  by_holder : (id : ℕ) → Holds (a.held me) id → May id
  by_holder id h = at_place id place.Held (held_place s me id h) h

  holds_any : (h : Option Holding) (id : ℕ) → HoldsUncounted h id → Holds h id
  holds_any x id k = search arith

  by_flags : (id n : ℕ) → MayStoreFlags a me id n → May id
  by_flags id x lock = search (by_holder, holds_any, at_place, arith)

  -- a store to a word of this kind of one record, and another word of that kind
  stored : (of : ℕ → Word) (k x n : ℕ) → (k ≡ x → May k) → (cond (k == x) n (at (of k)) ≡ at (of k)) ⊎ May k
  stored of k x n may = at_test k x (λ b. (cond b n (at (of k)) ≡ at (of k)) ⊎ May k) (λ e. inr (may e)) (λ _. inl refl)

  may_there : (k x : ℕ) → k ≡ x → May x → May k
  may_there k x e m = subst May (sym e) m

  stores : (x : Word) (n : ℕ) → MaySee a me act.Store x None (Some n) → (w : Word) (id : ℕ) → IsWordOf id w →
      (at_after at (Store x n) w ≡ at w) ⊎ May id
  stores (Flags x) n m (Flags k) id o = search (stored, may_there, by_flags, arith)
  stores (Func x) n m (Func k) id o = let h = m.0 in search (stored, may_there, by_holder, holds_any, arith)
  stores (Info x) n m (Info k) id o = let h = m.0 in search (stored, may_there, by_holder, holds_any, arith)
  stores (Next x) n (inl m) (Next k) id o = search (stored, may_there, by_holder, arith)
  stores (Next x) n (inr m) (Next k) id o = search (stored, may_there, at_place, arith)
  stores _ n m (Flags k) id o = inl refl
  stores _ n m (Func k) id o = inl refl
  stores _ n m (Info k) id o = inl refl
  stores _ n m (Next k) id o = inl refl
  stores _ n m _ id o = absurd o

  -- a number put in a word of a CPU's queue
  put_head : (c n : ℕ) (w : Word) (id : ℕ) → IsWordOf id w → put_word at (Head c) n w ≡ at w
  put_head c n y id o = search arith

  put_intr : (c n : ℕ) (w : Word) (id : ℕ) → IsWordOf id w → put_word at (Intr c) n w ≡ at w
  put_intr c n y id o = search arith

  exchanges : (b : Bool) (c n : ℕ) (w : Word) (id : ℕ) → IsWordOf id w → put_if put_word at (Head c) (cond b (Some n) None) w ≡ at w
  exchanges x c n w id o = search (put_head, arith)

  stays : (x : Access) → MaySee a me (act_of x) (word_of x) (found_by x (at (word_of x))) (put_by x (at (word_of x))) → (w : Word) (id : ℕ) →
      IsWordOf id w → (at_after at x w ≡ at w) ⊎ May id
  stays x m w id o = search (stores, put_head, put_intr, exchanges, arith)

  pub keeps_records : (stage : Stage) → (control me).stage ≡ Some stage → KeepsRecords a at (control me).drain me stage
  keeps_records stage e w id o = stays (access_of at me stage) (may_see a at control s me stage e) w id o
