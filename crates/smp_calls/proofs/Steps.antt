-- What one step of a call leaves, and one step after the other.
use Rattle.std.proofs.Common.{◌≡◌, ℕ, ◌<◌, ◌==◌, ◌||◌, Bool, true, false, List, [], ◌∷◌, ◌++◌, append_assoc, length, length-append, length-set, slice_index_or}
use Rattle.std.proofs.Common.{slice_set, refl, sym, ap, ◌∙◌, subst, arith}
use Rattle.std.proofs.lemmas.List.{append-nil, get_or-set_same, get_or-set_other}
use Rattle.std.proofs.lemmas.Bool.{cases_eq, ne_eqb, eq-eqb}
use Rattle.smp_words.specs.Size.{cpus, records_of_one, record_of}
use Rattle.smp_call_steps.specs.Order.{order}
use Rattle.smp_words.proofs.Sizes.{record_of-below, one_local}
use Rattle.smp_words.specs.declared.call.Call.{Call}
use Rattle.smp_call_steps.specs.declared.known.Sending.{Sending}
use Rattle.smp_call_steps.specs.declared.known.Logged.{Logged}
use Rattle.smp_queue.specs.Cpu.{CpuValue, confirmed_at, confirms, looks}
use Rattle.smp_queue.specs.Handling.{Grows, asks, drains}
use Rattle.smp_queue.specs.declared.handler.Heard.{Heard}
use Rattle.smp_calls.specs.Families.{IsSized, Leaves, owes_at}
use Rattle.smp_calls.proofs.Turns.{handles_none, handles_same, handles_then, handles_nothing, handles_batch}

-- sized as before
pub sized_moved : (c d : CpuValue) → d.number ≡ c.number → length d.part.confirmed ≡ length c.part.confirmed → IsSized c → IsSized d
sized_moved c d n e s = record { number = subst (λ (m : ℕ). m < cpus) (sym n) s.number; records_are = e ∙ s.records_are }

-- a record that is stored as confirmed or not, and the others
pub set_here : (c : CpuValue) (k : ℕ) (b : Bool) → IsSized c → k < records_of_one
    → slice_index_or (slice_set c.part.confirmed (record_of c.number k) b) (record_of c.number k) false ≡ b
set_here c k b s l = search (record_of-below, get_or-set_same, arith)

pub set_else : (c : CpuValue) (i j : ℕ) (b : Bool) → (j ≡ i → ⊥)
    → slice_index_or (slice_set c.part.confirmed i b) j false ≡ slice_index_or c.part.confirmed j false
set_else c i j b other = get_or-set_other c.part.confirmed i j b false other

-- whether a record is confirmed once that of number k is
pub confirms_at : (c : CpuValue) (k j : ℕ) → IsSized c → k < records_of_one → j < records_of_one → confirmed_at (confirms k c) j ≡ (j == k || confirmed_at c j)
confirms_at c k j s l b = search (cases_eq, eq-eqb, set_here, ne_eqb, set_else, one_local, arith)

-- where a CPU has logged nothing, twice, its last call or interrupt is the same
still_then : (old mid new : CpuValue) (x y : List Logged) → (x ≡ [] → (mid.sent_at ≡ old.sent_at) × (mid.asked_at ≡ old.asked_at))
    → (y ≡ [] → (new.sent_at ≡ mid.sent_at) × (new.asked_at ≡ mid.asked_at)) → x ++ y ≡ []
    → (new.sent_at ≡ old.sent_at) × (new.asked_at ≡ old.asked_at)
still_then old mid new [] [] f g e = ((g refl).0 ∙ (f refl).0, (g refl).1 ∙ (f refl).1)
still_then old mid new [] (z ∷ zs) f g e = cc
still_then old mid new (z ∷ zs) y f g e = cc

module _ {H : Type 0} (leads : H → Heard → H → Type 0) where
  pub leaves_none : (c : CpuValue) (h : H) → Leaves leads c h c h [] [] (owes_at c) (confirmed_at c)
  leaves_none c h = search (append-nil, handles_none, arith)

  -- the same, with what it owes and has confirmed said in other words
  pub leaves_as : {old new : CpuValue} {before after : H} {sent : List Sending} {log : List Logged} {o d : ℕ → Bool} (p e : ℕ → Bool)
      → Leaves leads old before new after sent log o d → ((c : ℕ) → o c ≡ p c) → ((k : ℕ) → k < records_of_one → d k ≡ e k)
      → Leaves leads old before new after sent log p e
  leaves_as p e l same alike = search arith

  pub leaves_then : {old mid new : CpuValue} {before m after : H} {s t : List Sending} {x y : List Logged} {o d p e : ℕ → Bool}
      → Leaves leads old before mid m s x o d → Leaves leads mid m new after t y p e → Leaves leads old before new after (s ++ t) (x ++ y) p e
  leaves_then {old} {mid} {new} {before} {m} {after} {s} {t} {x} {y} f l =
      let still = still_then old mid new x y f.still l.still in
      search (append_assoc, length-append, handles_then, still, arith)

  -- and where nothing is sent any more
  pub leaves_last : {old new : CpuValue} {before after : H} {s : List Sending} {x : List Logged} {o d : ℕ → Bool}
      → Leaves leads old before new after (s ++ []) (x ++ []) o d → Leaves leads old before new after s x o d
  leaves_last {old} {new} {before} {after} {s} {x} {o} {d} l = search (append-nil, arith)

  -- one look at the interrupt word, by what `handle` answers
  pub leaves_handled : (interrupted : Bool) (c d : CpuValue) (h i : H) →
      (interrupted ≡ true → (batch : List Call) × (d ≡ drains batch (asks true c)) × Grows leads h (order batch) i) →
      (interrupted ≡ false → (d ≡ asks false c) × (i ≡ h)) →
      Leaves leads c h d i [] [] (owes_at c) (confirmed_at c)
  leaves_handled true c d h i took idle = search (append-nil, handles_batch, arith)
  leaves_handled false c d h i took idle =
      search (idle refl, append-nil, handles_nothing, arith)

  -- a record is seen confirmed
  -- one step more changes nothing of it
  pub leaves_looked : {old mid new : CpuValue} {m after : H} {s : List Sending} {x : List Logged} {o d : ℕ → Bool} → mid ≡ looks old
      → Leaves leads mid m new after s x o d → Leaves leads old m new after s x o d
  leaves_looked {old} {mid} {new} {m} {after} {s} {x} {o} {d} e l = search arith

  pub leaves_confirmed : (c d : CpuValue) (h : H) (k : ℕ) → IsSized c → k < records_of_one → d ≡ looks (confirms k c)
      → Leaves leads c h d h [] [] (owes_at c) (λ j. j == k || confirmed_at c j)
  leaves_confirmed c d h k s l e = search (length-set, append-nil, confirms_at, handles_same, arith)

  -- the same after some waiting
  pub leaves_ended : (old mid new : CpuValue) (before m : H) (k : ℕ) → IsSized old → k < records_of_one
      → Leaves leads old before mid m [] [] (owes_at old) (confirmed_at old) → new ≡ looks (confirms k mid) →
      Leaves leads old before new m [] [] (owes_at old) (λ j. j == k || confirmed_at old j)
  leaves_ended old mid new before m k s l f e =
      let g = leaves_confirmed mid new m k (sized_moved old mid f.number_is f.sized s) l e in
      leaves_as (owes_at old) (λ j. j == k || confirmed_at old j) (leaves_then f g) f.owes_are (λ j b. ap (λ x. j == k || x) (f.confirmed_are j b))
