-- A call to many, out of its parts.
use Rattle.std.proofs.Common.{◌≡◌, ℕ, ◌<◌, ◌==◌, ◌||◌, ◌&&◌, not, Bool, true, false, cond, Option, Some, None, List, [], subst, sym, ◌∙◌, arith}
use Rattle.std.proofs.lemmas.Bool.{cases_eq, cases_Bool, ne_eqb, eq-eqb}
use Rattle.std.proofs.lemmas.Bool.Decides.{nat_tests}
use Rattle.smp_mask.specs.Mask.{has, members}
use Rattle.smp_mask.specs.declared.mask.TheConstants.{NR_CPUS}
use Rattle.smp_words.specs.Size.{cpus}
use Rattle.smp_words.specs.declared.call.Class.{Class}
use Rattle.smp_queue.specs.Cpu.{CpuValue, confirmed_at, notes_call}
use Rattle.smp_queue.specs.declared.handler.Heard.{Heard}
use Rattle.smp_calls.specs.Families.{CallsMany, IsLast, Leaves, owes_at}
use Rattle.smp_calls.specs.Records.{many_call}
use Rattle.smp_calls.specs.Targets.{is_target, remote}
use Rattle.smp_calls.specs.Rounds.{Picks, WaitsFor, HearsIf, noted_if}
use Rattle.smp_calls.proofs.Steps.{leaves_none, leaves_then, leaves_last}
use Rattle.smp_calls.proofs.One.{and_true, and_false, or_false}
use Rattle.smp_calls.proofs.Lists.{filter_members, agreeing}

confirmed_by : (used wait x : Bool) → ((wait && used) || cond used false x) ≡ cond used wait x
confirmed_by used wait x = search (cases_Bool, arith)

pub none_true : (b : Bool) → (b ≡ true → ⊥) → b ≡ false
none_true b never = search (cases_Bool, arith)

same_test : (a b : Bool) → (a ≡ true → b ≡ true) → (b ≡ true → a ≡ true) → a ≡ b
same_test a b there back = search (cases_Bool, arith)

-- where all of these CPUs have said yes, all are called
pub all_called : (others called : ℕ) → ((c : ℕ) → has called c ≡ true → has others c ≡ true)
    → ((c : ℕ) → c < NR_CPUS → has others c ≡ true → has called c ≡ true) → members called ≡ members others
all_called others called among every = agreeing called others NR_CPUS (λ c l. same_test (has called c) (has others c) (among c) (every c l))

-- of the called ones all but this one are remote
pub others_called : (this called result : ℕ) (here : Bool) → ((c : ℕ) → has result c ≡ (has called c || (here && c == this))) → has called this ≡ false
    → members called ≡ remote this result
others_called this called result here made out = search (filter_members, cases_eq, eq-eqb, and_false, ne_eqb, and_true, or_false, arith)

-- this one is called exactly where its function runs here
pub called_here : (this called result : ℕ) (here : Bool) → ((c : ℕ) → has result c ≡ (has called c || (here && c == this))) → has called this ≡ false
    → has result this ≡ here
called_here this called result here made out = search (eq-eqb, and_true, arith)

-- this CPU is not among the others
pub not_called : (mask online this others called : ℕ) → ((c : ℕ) → has others c ≡ is_target mask online this false c)
    → ((c : ℕ) → has called c ≡ true → has others c ≡ true) → has called this ≡ false
not_called mask online this others called are among = search (none_true, eq-eqb, nat_tests, arith)

second : (m o n : Bool) → (((m && o) && n) || false) ≡ true → o ≡ true
second m o n e = search (cases_Bool, arith)

-- the others are online
pub target_online : (mask online this c : ℕ) → is_target mask online this false c ≡ true → has online c ≡ true
target_online mask online this c e = second (has mask c) (has online c) (not (c == this)) e

-- of the others only those are in the mask and online
others_targets : (mask online this c : ℕ) → (c == this) ≡ false → is_target mask online this false c ≡ is_target mask online this true c
others_targets mask online this c n = search (and_false, arith)

own_target : (mask online this c : ℕ) → (c == this) ≡ true → is_target mask online this true c ≡ has mask c
own_target mask online this c e = search (and_false, and_true, arith)

result_else : (this called result c : ℕ) (here : Bool) → ((x : ℕ) → has result x ≡ (has called x || (here && x == this))) → (c == this) ≡ false
    → has result c ≡ has called c
result_else this called result c here made n = search (and_false, or_false, arith)

-- the others that said yes, with this one where it did
pub picks_with : (says : ℕ → Bool → Type 0) (mask online this others called result : ℕ) (here : Bool)
    → ((c : ℕ) → has others c ≡ is_target mask online this false c) → Picks says (has others) called →
    ((c : ℕ) → has result c ≡ (has called c || (here && c == this))) → (here ≡ true → (has mask this ≡ true) × (this < cpus))
    → (has mask this ≡ true → this < cpus → says this here) →
    Picks says (is_target mask online this true) result
picks_with says mask online this others called result here are picks made member answered =
    let out = not_called mask online this others called are picks.among in
    search (called_here, out, cases_eq, own_target, eq-eqb, ne_eqb, others_targets, result_else, arith)

module _ {H : Type 0} (leads : H → Heard → H → Type 0) where
  -- and then waited for, with a direct call before or not
  pub calls_waited_for : (old mid new : CpuValue) (before m after : H) (class : Class) (func info : ℕ) (to : List ℕ) (here : Option Heard) (wait : Bool) →
      CallsMany leads old before mid m to class func info here false → WaitsFor leads mid m new after to wait →
      CallsMany leads old before new after to class func info here wait
  calls_waited_for old mid new before m after class func info to None wait f w =
      (f.0, f.1, search (leaves_last leads (leaves_then leads f.2 w), f.1, confirmed_by, arith))
  calls_waited_for old mid new before m after class func info to (Some heard) wait f w =
      let call = many_call old.number class func info in
      let c = f.2 in
      let number : mid.number ≡ old.number = c.later.number_is ∙ c.first.number_is in (
        f.0,
        f.1,
        record {
          middle = c.middle;
          called = c.called;
          ended = c.ended;
          first = c.first;
          at_once = c.at_once;
          here = c.here;
          later = search (leaves_then leads c.later w, f.1, c.later.confirmed_are, arith);
        },
      )

  -- a direct call, if any, right after the queueing
  pub calls_then_here : (old mid new : CpuValue) (before m after : H) (class : Class) (func info : ℕ) (to : List ℕ) (here : Option Heard) →
      CallsMany leads old before mid m to class func info None false → IsLast old mid to → HearsIf leads m here after → new ≡ noted_if here mid →
      CallsMany leads old before new after to class func info here false
  calls_then_here old mid new before m after class func info to None f last e noted = search arith
  calls_then_here old mid new before m after class func info to (Some heard) f last call noted = (
    f.0,
    f.1,
    record {
      middle = mid;
      called = m;
      ended = after;
      first = f.2;
      at_once = subst (λ (xs : List ℕ). IsLast old mid xs) (sym f.1) last;
      here = call;
      later = subst (λ (x : CpuValue). Leaves leads (notes_call mid) after x after [] [] (owes_at mid) (confirmed_at mid)) (sym noted)
          (leaves_none leads (notes_call mid) after);
    },
  )
