-- Handling twice is handling once, with the turns of both; and how often a CPU handles that waits.
use Rattle.std.proofs.Common.{arith, ◌≡◌, ℕ, suc, ◌+◌, length, length-append, Bool, true, false, Option, Some}
use Rattle.std.proofs.Common.{None, List, [], ◌∷◌, ◌++◌, append_assoc, refl, sym, ap, ◌∙◌, subst}
use Rattle.std.specs.List.{FoldsTo}
use Rattle.std.proofs.lemmas.List.{append-nil}
use Rattle.smp_call_steps.specs.Order.{order}
use Rattle.smp_call_steps.specs.Histories.{orders}
use Rattle.smp_words.specs.declared.call.Call.{Call}
use Rattle.smp_queue.specs.Cpu.{CpuValue, confirmed_at, confirms}
use Rattle.smp_queue.specs.Cpu.{looks as looked}
use Rattle.smp_queue.specs.Handling.{Grows, asks, drains}
use Rattle.smp_queue.specs.declared.handler.Heard.{Heard}
use Rattle.smp_calls.specs.Handles.{looks, batches, Handles}
use Rattle.smp_calls.specs.Families.{Awaits}
use Rattle.smp_calls.specs.Turns.{after_each}

looks-append : (ts us : List (Option (List Call))) → looks (ts ++ us) ≡ looks ts ++ looks us
looks-append [] us = refl
looks-append (None ∷ ts) us = ap (λ (bs : List Bool). false ∷ bs) (looks-append ts us)
looks-append (Some b ∷ ts) us = ap (λ (bs : List Bool). true ∷ bs) (looks-append ts us)

batches-append : (ts us : List (Option (List Call))) → batches (ts ++ us) ≡ batches ts ++ batches us
batches-append [] us = refl
batches-append (None ∷ ts) us = batches-append ts us
batches-append (Some b ∷ ts) us = ap (λ (bs : List (List Call)). b ∷ bs) (batches-append ts us)

orders-append : (bs cs : List (List Call)) → orders (bs ++ cs) ≡ orders bs ++ orders cs
orders-append [] cs = refl
orders-append (b ∷ bs) cs = ap (λ (xs : List Call). order b ++ xs) (orders-append bs cs) ∙ sym (append_assoc (order b) (orders bs) (orders cs))

folds-append : {P A : Type 0} (R : P → A → P → Type 0) (xs ys : List A) (p q r : P) → FoldsTo R p xs q → FoldsTo R q ys r → FoldsTo R p (xs ++ ys) r
folds-append R [] ys p q r e f = subst (λ z. FoldsTo R z ys r) (sym e) f
folds-append R (x ∷ xs) ys p q r e f = (e.0, e.1, folds-append R xs ys e.0 q r e.2 f)

-- a list that has grown twice
grown : {A : Type 0} (xs ys zs us vs : List A) → ys ≡ xs ++ us → zs ≡ ys ++ vs → zs ≡ xs ++ (us ++ vs)
grown xs ys zs us vs e f = f ∙ (ap (λ (ws : List _). ws ++ vs) e ∙ append_assoc xs us vs)

-- to handle is to take the interrupt word once, by no step outside of it
pub handled_once : (interrupted : Bool) (old new : CpuValue) → (interrupted ≡ true → (batch : List Call) × (new ≡ drains batch (asks true old)))
    → (interrupted ≡ false → new ≡ asks false old) → (new.steps ≡ old.steps) × (length new.part.asked ≡ length old.part.asked + 1)
    × (new.asked_after ≡ old.asked_after ++ old.steps ∷ [])
handled_once true old new asked idle = search (asked refl, length-append, arith)
handled_once false old new asked idle = search (idle refl, length-append, arith)

-- and it changes no head
pub handled_tried : (interrupted : Bool) (old new : CpuValue) → (interrupted ≡ true → (batch : List Call) × (new ≡ drains batch (asks true old)))
    → (interrupted ≡ false → new ≡ asks false old) → new.tried ≡ old.tried
handled_tried true old new asked idle = ap (λ (c : CpuValue). c.tried) (asked refl).1
handled_tried false old new asked idle = ap (λ (c : CpuValue). c.tried) (idle refl)

module _ {H : Type 0} (leads : H → Heard → H → Type 0) where
  -- no look at all, whatever else the CPU has done
  pub handles_same : (c d : CpuValue) (h : H) → d.part.asked ≡ c.part.asked → d.part.taken ≡ c.part.taken → d.part.ran ≡ c.part.ran → Handles leads c h d h
  handles_same c d h asked taken ran = search (append-nil, arith)

  pub handles_none : (c : CpuValue) (h : H) → Handles leads c h c h
  handles_none c h = handles_same c c h refl refl refl

  pub handles_then : (old mid new : CpuValue) (before m after : H) → Handles leads old before mid m → Handles leads mid m new after
      → Handles leads old before new after
  handles_then old mid new before m after f l =
      let split : orders (batches (f.turns ++ l.turns)) ≡ orders (batches f.turns) ++ orders (batches l.turns) =
      ap orders (batches-append f.turns l.turns) ∙ orders-append (batches f.turns) (batches l.turns) in
      search (grown, looks-append, batches-append, split, folds-append, arith)

  -- one look that found nothing
  pub handles_nothing : (c : CpuValue) (h : H) → Handles leads c h (asks false c) h
  handles_nothing c h = record {
    turns = None ∷ [];
    asked_is = refl;
    taken_is = sym (append-nil c.part.taken);
    ran_is = sym (append-nil c.part.ran);
    grows = refl;
  }

  -- one look that took a batch
  pub handles_batch : (c : CpuValue) (batch : List Call) (h i : H) → Grows leads h (order batch) i → Handles leads c h (drains batch (asks true c)) i
  handles_batch c batch h i grown = record {
    turns = Some batch ∷ [];
    asked_is = refl;
    taken_is = refl;
    ran_is = ap (λ (xs : List Call). c.part.ran ++ xs) (sym (append-nil (order batch)));
    grows = subst (λ (xs : List Call). Grows leads h xs i) (sym (append-nil (order batch))) grown;
  }

-- a CPU that waits for its record: it has handled once after each look; where the record was seen confirmed, it has done nothing yet
pub record Waiting {H : Type 0} (k : ℕ) (old : CpuValue) (before : H) (now : CpuValue) (here : H) : Type 0 where
  pub turns : now.steps + length old.part.asked ≡ old.steps + length now.part.asked
  pub locked : ℕ
  pub steps_are : now.steps ≡ old.steps + locked
  pub takes_are : now.asked_after ≡ old.asked_after ++ after_each old.steps locked
  pub tried_is : now.tried ≡ old.tried
  pub not_yet : confirmed_at old k ≡ true → (now ≡ old) × (here ≡ before)

pub waiting_first : {H : Type 0} (k : ℕ) (c : CpuValue) (h : H) → Waiting k c h c h
waiting_first k c h = record {
  turns = refl;
  locked = 0;
  steps_are = omega arith;
  takes_are = sym (append-nil c.asked_after);
  tried_is = refl;
  not_yet = λ _. (refl, refl);
}

-- after a look that found it locked, and one turn of handling
pub waiting_more : {H : Type 0} (k : ℕ) (old now after next : CpuValue) (before here last : H) → Waiting k old before now here
    → (confirmed_at now k ≡ true → ⊥) → after ≡ looked now → (next.steps ≡ after.steps) × (length next.part.asked ≡ length after.part.asked + 1)
    × (next.asked_after ≡ after.asked_after ++ after.steps ∷ [])
    → next.tried ≡ after.tried → Waiting k old before next last
waiting_more k old now after next before here last w locked e once tried =
    let steps : next.steps ≡ now.steps + 1 = once.0 ∙ ap (λ (c : CpuValue). c.steps) e in
    let asked : length next.part.asked ≡ length now.part.asked + 1 = once.1 ∙ ap (λ (c : CpuValue). length c.part.asked + 1) e in
    let made : now.steps + 1 ≡ old.steps + suc w.locked = omega (arith, w.steps_are) in
    record {
      turns = omega (arith, w.turns);
      locked = suc w.locked;
      steps_are = omega (arith, w.steps_are);
      takes_are = once.2 ∙ (ap (λ (c : CpuValue). c.asked_after ++ c.steps ∷ []) e ∙ (ap (λ (n : ℕ). now.asked_after ++ n ∷ []) made
          ∙ (ap (λ (xs : List ℕ). xs ++ (old.steps + suc w.locked) ∷ []) w.takes_are
          ∙ append_assoc old.asked_after (after_each old.steps w.locked) ((old.steps + suc w.locked) ∷ []))));
      tried_is = tried ∙ (ap (λ (c : CpuValue). c.tried) e ∙ w.tried_is);
      not_yet = λ conf. absurd (locked (ap (λ (c : CpuValue). confirmed_at c k) (w.not_yet conf).0 ∙ conf));
    }

-- after a look that found it free
pub waiting_ended : {H : Type 0} (k : ℕ) (old now next : CpuValue) (before here : H) → Waiting k old before now here → next ≡ looked (confirms k now)
    → Awaits k old before next here
waiting_ended k old now next before here w e =
    let steps : next.steps ≡ now.steps + 1 = ap (λ (c : CpuValue). c.steps) e in
    let asked : length next.part.asked ≡ length now.part.asked = ap (λ (c : CpuValue). length c.part.asked) e in
    record {
      turns = omega (arith, w.turns);
      locked = w.locked;
      steps_are = omega (arith, w.steps_are);
      takes_are = ap (λ (c : CpuValue). c.asked_after) e ∙ w.takes_are;
      tried_is = ap (λ (c : CpuValue). c.tried) e ∙ w.tried_is;
      at_once = λ conf. (e ∙ ap (λ (c : CpuValue). looked (confirms k c)) (w.not_yet conf).0, (w.not_yet conf).1);
    }
