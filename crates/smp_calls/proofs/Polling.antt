-- Waiting no longer than some polls: for one record, and for those of many CPUs.
use Rattle.std.proofs.Common.{arith, ◌≡◌, ℕ, ◌+◌, ◌<◌, ◌≤◌, ◌==◌, ◌&&◌, ◌||◌, not, Bool, true, false, cond, List, [], ◌∷◌, ◌++◌, length}
use Rattle.std.proofs.Common.{inl, inr, refl, sym, ap, ◌∙◌, subst}
use Rattle.std.proofs.lemmas.Bool.{cases_eq, cases_Bool, ne_eqb, eq-eqb}
use Rattle.smp_mask.specs.Mask.{has, members}
use Rattle.smp_mask.specs.declared.mask.TheConstants.{NR_CPUS}
use Rattle.smp_words.specs.Size.{records_of_one}
use Rattle.smp_queue.specs.Cpu.{CpuValue, confirmed_at, confirms, looks}
use Rattle.smp_queue.specs.declared.handler.Heard.{Heard}
use Rattle.smp_calls.specs.Families.{IsSized, Leaves, AreConfirmed, owes_at}
use Rattle.smp_calls.specs.Records.{many_record}
use Rattle.smp_calls.specs.Turns.{TakesApart}
use Rattle.smp_calls.specs.Within.{IsNoneOf, WaitsWithin}
use Rattle.smp_calls.proofs.Takes.{takes_none, takes_then, takes_turn}
use Rattle.smp_calls.proofs.Steps.{leaves_none, leaves_as, leaves_then, leaves_looked, leaves_ended}
use Rattle.smp_calls.proofs.Lawful.{small_many, are_apart}
use Rattle.smp_calls.proofs.One.{and_true, and_false}
use Rattle.smp_calls.proofs.Lists.{next_gone, none_left}
use Rattle.smp_calls.proofs.Loops.{both_true, not_true, kept_among, kept_else, kept_here}
use Rattle.smp_calls.proofs.Parts.{none_true}

-- a CPU has looked at its record k and has made this number of polls, one after each look; where the record was seen confirmed
-- before, it has made none
pub record Polling {H : Type 0} (leads : H → Heard → H → Type 0) (k : ℕ) (old : CpuValue) (before : H) (now : CpuValue) (here : H) (made : ℕ)
    : Type 0 where
  pub leaves : Leaves leads old before now here [] [] (owes_at old) (confirmed_at old)
  pub turns : now.steps + length old.part.asked ≡ old.steps + length now.part.asked
  pub apart : TakesApart old now
  pub polled : length now.part.asked ≡ length old.part.asked + made
  pub not_yet : confirmed_at old k ≡ true → made ≡ 0

-- of the CPUs called all were waited for but those left
pub record Asks {H : Type 0} (leads : H → Heard → H → Type 0) (old : CpuValue) (before : H) (new : CpuValue) (after : H)
    (called left answered silent polls budget : ℕ) : Type 0 where
  pub leaves : Leaves leads old before new after [] [] (owes_at old) (confirmed_at new)
  pub among : (c : ℕ) → c < NR_CPUS → has left c ≡ true → has called c ≡ true
  pub still : (c : ℕ) → c < NR_CPUS → has left c ≡ true → (has answered c ≡ true) × (has silent c ≡ true)
  pub parted : (c : ℕ) → c < NR_CPUS → has left c ≡ false → has answered c ≡ (has called c && not (has silent c))
  pub silent_among : (c : ℕ) → has silent c ≡ true → has called c ≡ true
  pub answered_among : (c : ℕ) → has answered c ≡ true → has called c ≡ true
  pub told : (c : ℕ) → c < NR_CPUS → has called c ≡ true → has left c ≡ false → confirmed_at new (many_record c) ≡ not (has silent c)
  pub others : (k : ℕ) → k < records_of_one → IsNoneOf k (has called) → confirmed_at new k ≡ confirmed_at old k
  pub turns : (new.steps + length old.part.asked) + length (members left) ≡ old.steps + (length (members called) + length new.part.asked)
  pub apart : TakesApart old new
  pub polled : length new.part.asked + budget ≡ length old.part.asked + polls
  pub gone : (c : ℕ) → c < NR_CPUS → has silent c ≡ true → has left c ≡ false → budget ≡ 0
  pub kept : (k : ℕ) → k < records_of_one → confirmed_at old k ≡ true → confirmed_at new k ≡ true
  pub at_once : AreConfirmed old (has called) → budget ≡ polls

pub differ : (b : Bool) → b ≡ true → b ≡ false → ⊥
differ b e n = search (cases_Bool, arith)

pub or_yes : (a b : Bool) → b ≡ true → (a || b) ≡ true
or_yes a b e = search (cases_Bool, arith)

not_of : (b : Bool) → not (not b) ≡ b
not_of b = search (cases_Bool, arith)

-- another one than the next is left exactly where it was
left_else : (left next cpu c : ℕ) → members left ≡ cpu ∷ members next → c < NR_CPUS → (c == cpu) ≡ false → has next c ≡ has left c
left_else left next cpu c step below n = next_gone left next cpu c step below ∙ (ap (λ b. has left c && not b) n ∙ and_true (has left c))

-- whether a record is confirmed that was waited for
found_one : (done : Bool) (k : ℕ) (was now : Bool) → now ≡ ((done && k == k) || was) → (done ≡ false → was ≡ false) → now ≡ done
found_one true k was now e locked = e ∙ ap (λ b. b || was) (eq-eqb k k refl)
found_one false k was now e locked = e ∙ locked refl

-- and another one
found_else : (done : Bool) (j k : ℕ) (was now : Bool) → now ≡ ((done && j == k) || was) → (j ≡ k → ⊥) → now ≡ was
found_else done j k was now e other = e ∙ (ap (λ b. (done && b) || was) (ne_eqb j k other) ∙ ap (λ b. b || was) (and_false done))

-- the records of two CPUs are two
others_record : (c cpu k : ℕ) → k ≡ many_record cpu → (c ≡ cpu → ⊥) → many_record c ≡ k → ⊥
others_record c cpu k is_k other e = other (are_apart.many c cpu (e ∙ is_k))

module _ {H : Type 0} (leads : H → Heard → H → Type 0) where
  -- after a look that found it locked, and one poll
  pub polling_more : (k : ℕ) (old now mid next : CpuValue) (before here last : H) (made : ℕ) → k < records_of_one
      → Polling leads k old before now here made → (confirmed_at now k ≡ true → ⊥) → mid ≡ looks now
      → Leaves leads mid here next last [] [] (owes_at mid) (confirmed_at mid)
      → (next.steps ≡ mid.steps) × (length next.part.asked ≡ length mid.part.asked + 1) × (next.asked_after ≡ mid.asked_after ++ mid.steps ∷ [])
      → Polling leads k old before next last (made + 1)
  polling_more k old now mid next before here last made l p locked e handled once =
      let steps : next.steps ≡ now.steps + 1 = once.0 ∙ ap (λ (c : CpuValue). c.steps) e in
      let asked : length next.part.asked ≡ length now.part.asked + 1 = once.1 ∙ ap (λ (c : CpuValue). length c.part.asked + 1) e in
      let one = subst (λ (x : CpuValue). Leaves leads x here next last [] [] (owes_at x) (confirmed_at x)) e handled in
      record {
        leaves = leaves_as leads (owes_at old) (confirmed_at old) (leaves_then leads p.leaves (leaves_looked leads {old = now} refl one))
            p.leaves.owes_are p.leaves.confirmed_are;
        turns = omega (arith, p.turns);
        apart = takes_then old now next p.apart (takes_turn now mid next e once.0 once.2);
        polled = omega (arith, p.polled);
        not_yet = λ confirmed. absurd (locked (p.leaves.confirmed_are k l ∙ confirmed));
      }

  -- the last look
  pub polling_looked : (old now new : CpuValue) (before here : H) (made k : ℕ) (done : Bool) → IsSized old → k < records_of_one
      → Polling leads k old before now here made → new ≡ looks (cond done (confirms k now) now) →
      Leaves leads old before new here [] [] (owes_at old) (λ j. (done && j == k) || confirmed_at old j)
  polling_looked old now new before here made k true s l p e = leaves_ended leads old now new before here k s l p.leaves e
  polling_looked old now new before here made k false s l p e =
      search (leaves_then leads p.leaves (leaves_looked leads {old = now} e (leaves_none leads new here)), arith)

  pub polling_apart : (old now new : CpuValue) (before here : H) (made k : ℕ) (done : Bool) → Polling leads k old before now here made
      → new ≡ looks (cond done (confirms k now) now) → TakesApart old new
  polling_apart old now new before here made k true p e = search (takes_then, takes_none, arith)
  polling_apart old now new before here made k false p e = search (takes_then, takes_none, arith)

  -- where the record was seen confirmed before, the last look is the first
  pub polling_at_once : (old now new : CpuValue) (before here : H) (made k : ℕ) (done : Bool) → Polling leads k old before now here made
      → new ≡ looks (cond done (confirms k now) now) → confirmed_at old k ≡ true → length new.part.asked ≡ length old.part.asked
  polling_at_once old now new before here made k true p e confirmed = search (p.not_yet confirmed, arith)
  polling_at_once old now new before here made k false p e confirmed = search (p.not_yet confirmed, arith)

  pub asks_start : (c : CpuValue) (h : H) (called polls : ℕ) → Asks leads c h c h called called called called polls polls
  asks_start c h called polls = record {
    leaves = leaves_none leads c h;
    among = λ x l e. e;
    still = λ x l e. (e, e);
    parted = λ x l e. e ∙ sym (ap (λ b. b && not (has called x)) e);
    silent_among = λ x e. e;
    answered_among = λ x e. e;
    told = λ x l e n. absurd (differ (has called x) e n);
    others = λ k l none. refl;
    turns = omega arith;
    apart = takes_none c c refl (omega arith);
    polled = refl;
    gone = λ x l e n. absurd (differ (has called x) e n);
    kept = λ k l e. e;
    at_once = λ all. refl;
  }

  -- one more was waited for
  pub asks_more : {old mid new : CpuValue} {before m after : H} (called left next cpu k answered silent answered' silent' polls budget rest : ℕ) (done : Bool) →
      Asks leads old before mid m called left answered silent polls budget →
      members left ≡ cpu ∷ members next → cpu < NR_CPUS → has left cpu ≡ true → k ≡ many_record cpu → k < records_of_one →
      Leaves leads mid m new after [] [] (owes_at mid) (λ j. (done && j == k) || confirmed_at mid j) →
      (done ≡ false → (confirmed_at mid k ≡ false) × (rest ≡ 0)) →
      new.steps + length mid.part.asked ≡ mid.steps + (1 + length new.part.asked) → TakesApart mid new →
      length new.part.asked + rest ≡ length mid.part.asked + budget → rest ≤ budget →
      (confirmed_at mid k ≡ true → length new.part.asked ≡ length mid.part.asked) →
      (done ≡ true → answered' ≡ answered) → (done ≡ false → (c : ℕ) → has answered' c ≡ (has answered c && not (c == cpu))) →
      (not done ≡ true → silent' ≡ silent) → (not done ≡ false → (c : ℕ) → has silent' c ≡ (has silent c && not (c == cpu))) →
      Asks leads old before new after called next answered' silent' polls rest
  asks_more {old} {mid} {new} {before} {m} {after} called left next cpu k answered silent answered' silent' polls budget rest done
      a step below here is_k small g locked turns apart polled fewer at_once ak ao sk so =
      let answered_here : has answered' cpu ≡ done = kept_here done answered answered' cpu ak ao (a.still cpu below here).0 in
      let silent_here : has silent' cpu ≡ not done = kept_here (not done) silent silent' cpu sk so (a.still cpu below here).1 in
      let answered_else : (c : ℕ) → (c == cpu) ≡ false → has answered' c ≡ has answered c = λ c n. kept_else done answered answered' cpu c ak ao n in
      let silent_else : (c : ℕ) → (c == cpu) ≡ false → has silent' c ≡ has silent c = λ c n. kept_else (not done) silent silent' cpu c sk so n in
      let is_called : has called cpu ≡ true = a.among cpu below here in
      let confirmed_here : confirmed_at new k ≡ done =
      found_one done k (confirmed_at mid k) (confirmed_at new k) (g.confirmed_are k small) (λ n. (locked n).0) in
      record {
        leaves = leaves_as leads (owes_at old) (confirmed_at new) (leaves_then leads a.leaves g) a.leaves.owes_are (λ j b. sym (g.confirmed_are j b));
        among = λ c l h. a.among c l (both_true (has left c) (not (c == cpu)) (sym (next_gone left next cpu c step l) ∙ h)).0;
        still = search (a.still, both_true, next_gone, not_true, answered_else, silent_else, arith);
        parted = search (a.parted, cases_eq, ne_eqb, left_else, is_called, answered_here, silent_here, answered_else, silent_else, not_of, arith);
        silent_among = λ c h. a.silent_among c (kept_among (not done) silent silent' cpu c sk so h);
        answered_among = λ c h. a.answered_among c (kept_among done answered answered' cpu c ak ao h);
        told = λ c l h gone. elim (cases_eq c cpu) [
          | inl e ↦ subst (λ (x : ℕ). confirmed_at new (many_record x) ≡ not (has silent' x)) (sym e)
              (subst (λ (j : ℕ). confirmed_at new j ≡ not (has silent' cpu)) is_k (confirmed_here ∙ sym (ap not silent_here ∙ not_of done)))
          | inr n ↦
              let other = ne_eqb c cpu n in
              let was = a.told c l h (sym (left_else left next cpu c step l other) ∙ gone) in
              found_else done (many_record c) k (confirmed_at mid (many_record c)) (confirmed_at new (many_record c))
              (g.confirmed_are (many_record c) (small_many c l))
              (others_record c cpu k is_k n) ∙ (was ∙ sym (ap not (silent_else c other)))
        ];
        others = λ j b none. found_else done j k (confirmed_at mid j) (confirmed_at new j) (g.confirmed_are j b) (λ e. none cpu is_called (e ∙ is_k))
            ∙ a.others j b none;
        turns = omega (arith, a.turns, ap (λ (xs : List ℕ). length xs) step);
        apart = takes_then old mid new a.apart apart;
        polled = omega (arith, a.polled);
        gone = search (a.gone, cases_eq, ne_eqb, left_else, silent_here, silent_else, locked, not_true, arith);
        kept = λ j b e. g.confirmed_are j b ∙ or_yes (done && j == k) (confirmed_at mid j) (a.kept j b e);
        at_once = λ all. omega (
          arith,
          a.at_once all,
          at_once (a.kept k small (subst (λ (j : ℕ). confirmed_at old j ≡ true) (sym is_k) (all cpu is_called))),
        );
      }

  -- all were waited for
  pub asks_end : {old new : CpuValue} {before after : H} (called left answered silent polls budget : ℕ) →
      Asks leads old before new after called left answered silent polls budget → members left ≡ [] → ((c : ℕ) → has called c ≡ true → c < NR_CPUS) →
      WaitsWithin leads old before new after called answered silent polls
  asks_end {old} {new} called left answered silent polls budget a none low = search (none_left, none_true, differ, cases_Bool, arith)
