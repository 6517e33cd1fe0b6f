-- What is answered once the answers of one CPU more are put among those of all.
use Rattle.std.proofs.Common.{◌≡◌, ◌≢◌, ◌⊎◌, ℕ, zero, suc, ◌+◌, ◌<◌, ◌≤◌, Bool, true, if◌then◌else◌, Option, Some, None, IfSome, MatchOption, List}
use Rattle.std.proofs.Common.{[], ◌∷◌, ◌++◌}
use Rattle.std.proofs.Common.{length, slice_index_or, inl, inr, append_assoc, refl, sym, ap, subst, ◌∙◌, arith}
use Rattle.std.proofs.lemmas.Bool.{cases_Bool, cases_eq}
use Rattle.std.proofs.lemmas.List.{append-nil, length-append}
use Rattle.smp_mask.specs.Mask.{has, members, members_below}
use Rattle.smp_words.specs.Limits.{AreLimits}
use Rattle.smp_words.specs.Size.{cpus}
use Rattle.smp_machine.specs.MachineCpu.{MachineValue, MachineCpuValue}
use Rattle.smp_machine.specs.Members.{AreFor}
use Rattle.smp_script.specs.declared.directive.Directive.{Directive}
use Rattle.smp_script.specs.declared.directive.Directive.TheVariants.{Start, Step, Show, Do}
use Rattle.smp_run.specs.declared.answer.Answer.{Answer}
use Rattle.smp_run.specs.Answers.{IsLineAnswer, Answered, Gathers, cpu_of}
use Rattle.smp_run.specs.Driven.{AreJoined, HasRunLines, IsBack, IsDriven}
use Rattle.smp_run.specs.Made.{AreMakings, IsLineMade, Making}
use Rattle.smp_run.specs.Seats.{IsSeated, keys_at}

-- a number is in a list
abbrev pub IsIn : List ℕ → ℕ → Type 0
IsIn [] c = ⊥
IsIn (n ∷ ns) c = (c ≡ n) ⊎ IsIn ns c

in_before : (xs ys : List ℕ) (c : ℕ) → IsIn xs c → IsIn (xs ++ ys) c
in_before [] ys c void = absurd void
in_before (x ∷ xs) ys c (inl e) = inl e
in_before (x ∷ xs) ys c (inr later) = inr (in_before xs ys c later)

in_last : (xs : List ℕ) (n : ℕ) → IsIn (xs ++ n ∷ []) n
in_last [] n = inl refl
in_last (x ∷ xs) n = inr (in_last xs n)

in_others : (xs : List ℕ) (n c : ℕ) → IsIn (xs ++ n ∷ []) c → c ≢ n → IsIn xs c
in_others [] n c (inl e) other = absurd (other e)
in_others [] n c (inr void) other = absurd void
in_others (x ∷ xs) n c (inl e) other = inl e
in_others (x ∷ xs) n c (inr later) other = inr (in_others xs n c later other)

-- a list with one more
pub one_more : {X : Type 0} (xs : List X) (x : X) → length (xs ++ x ∷ []) ≡ length xs + 1
one_more xs x = length-append xs (x ∷ [])

-- numbers from `low` on and below `high`, each above those before it
abbrev pub Rise : ℕ → ℕ → List ℕ → Type 0
Rise low high [] = low ≤ high
Rise low high (n ∷ ns) = (low ≤ n) × (n < high) × Rise (suc n) high ns

rise_more : (low high : ℕ) (ns : List ℕ) → Rise low high ns → Rise low (suc high) ns
rise_more low high [] rise = omega (arith, rise)
rise_more low high (n ∷ ns) rise = (rise.0, (let less = rise.1 in omega (arith, less)), rise_more (suc n) high ns rise.2)

rise_push : (low high : ℕ) (ns : List ℕ) → Rise low high ns → Rise low (suc high) (ns ++ high ∷ [])
rise_push low high [] rise = (rise, omega arith, omega arith)
rise_push low high (n ∷ ns) rise = (rise.0, (let less = rise.1 in omega (arith, less)), rise_push (suc n) high ns rise.2)

-- none is below the first bound
rise_low : (low high : ℕ) (ns : List ℕ) (c : ℕ) → Rise low high ns → IsIn ns c → low ≤ c
rise_low low high [] c rise void = absurd void
rise_low low high (n ∷ ns) c rise (inl e) = let from = rise.0 in omega (arith, from, e)
rise_low low high (n ∷ ns) c rise (inr later) =
    let from = rise.0 in let above = rise_low (suc n) high ns c rise.2 later in omega (arith, from, above)

in_middle : (xs ys : List ℕ) (n : ℕ) → IsIn (xs ++ n ∷ ys) n
in_middle [] ys n = inl refl
in_middle (x ∷ xs) ys n = inr (in_middle xs ys n)

-- those before another are below it
rise_before : (low high : ℕ) (xs ys : List ℕ) (n c : ℕ) → Rise low high (xs ++ n ∷ ys) → IsIn xs c → c < n
rise_before low high [] ys n c rise void = absurd void
rise_before low high (x ∷ xs) ys n c rise (inl e) =
    let above = rise_low (suc x) high (xs ++ n ∷ ys) n rise.2 (in_middle xs ys n) in omega (arith, above, e)
rise_before low high (x ∷ xs) ys n c rise (inr later) = rise_before (suc x) high xs ys n c rise.2 later

-- the first is the least
head_least : (n high : ℕ) (ns : List ℕ) (c : ℕ) → Rise 0 high (n ∷ ns) → IsIn (n ∷ ns) c → n ≤ c
head_least n high ns c rise (inl e) = omega (arith, e)
head_least n high ns c rise (inr later) = let above = rise_low (suc n) high ns c rise.2 later in omega (arith, above)

-- the members of a mask rise, and are all that it has
members_rise : (mask k : ℕ) → Rise 0 k (members_below mask k)
unfolding members_below
members_rise mask zero = omega arith
members_rise mask (suc k) = elim (cases_Bool (has mask k)) [
  | inl there ↦ subst (λ (b : Bool). Rise 0 (suc k) (members_below mask k ++ (if b then k ∷ [] else []))) (sym there)
      (rise_push 0 k (members_below mask k) (members_rise mask k))
  | inr other ↦ subst (λ (b : Bool). Rise 0 (suc k) (members_below mask k ++ (if b then k ∷ [] else []))) (sym other)
      (subst (λ (ns : List ℕ). Rise 0 (suc k) ns) (sym (append-nil (members_below mask k)))
      (rise_more 0 k (members_below mask k) (members_rise mask k)))
]

members_all : (mask k c : ℕ) → c < k → has mask c ≡ true → IsIn (members_below mask k) c
unfolding members_below
members_all mask zero c below there = absurd (omega (arith, below))
members_all mask (suc k) c below there = elim (cases_eq c k) [
  | inl e ↦
      let here : has mask k ≡ true = subst (λ (x : ℕ). has mask x ≡ true) e there in
      subst (λ (b : Bool). IsIn (members_below mask k ++ (if b then k ∷ [] else [])) c) (sym here)
      (subst (λ (x : ℕ). IsIn (members_below mask k ++ k ∷ []) x) (sym e) (in_last (members_below mask k) k))
  | inr apart ↦ in_before (members_below mask k) (if has mask k then k ∷ [] else []) c (members_all mask k c (omega (arith, below, apart)) there)
]

-- the answers of one CPU more are put among those of all
joined_more : (online keys n : ℕ) (first : List ℕ) (lines : List Directive) (old own new : List Answer) → length new ≡ length lines
    → Answered online keys (IsIn first) lines old → Answered online keys (λ c. c ≡ n) lines own → Gathers (λ c. c ≡ n) lines own new (length lines)
    → Gathers (λ c. c ≢ n) lines old new (length lines) → Answered online keys (IsIn (first ++ n ∷ [])) lines new
joined_more online keys n first lines old own new sized was mine gathered kept = record {
  sized = sized;
  each = λ i l a below is.
      let cpu = cpu_of (slice_index_or lines i l) in
      elim (cases_eq cpu n) [
        | inl e ↦ subst (λ (x : Answer). IsLineAnswer online keys (slice_index_or lines i l) x) (sym (gathered i l a below e)) (mine.each i l a below e)
        | inr other ↦ subst (λ (x : Answer). IsLineAnswer online keys (slice_index_or lines i l) x) (sym (kept i l a below other))
            (was.each i l a below (in_others first n cpu is other))
      ];
}

-- a line with another answer, where it is not this CPU's own
line_gathered : (m : MachineValue) (this : ℕ) (line : Directive) (a b : Answer) (makings : List Making) → (cpu_of line ≡ this → b ≡ a)
    → IsLineMade m this line a makings → IsLineMade m this line b makings
line_gathered m this (Do cpu count request) a b makings same made =
    ((λ own. subst (λ (x : Answer). AreMakings m this request count x makings) (sym (same own)) (made.0 own)), made.1)
line_gathered m this (Start cpu command) a b makings same made = made
line_gathered m this (Step cpu count) a b makings same made = made
line_gathered m this Show a b makings same made = made

-- a CPU's answers, put among those of others
run_gathered : (m : MachineValue) (lines : List Directive) (from to : List Answer) (p : MachineCpuValue)
    → Gathers (λ c. c ≡ p.calls.number) lines from to (length lines) → HasRunLines m lines from p → HasRunLines m lines to p
run_gathered m lines from to p gathered run = let played = run.played in record {
  sent = run.sent;
  direct = run.direct;
  waited = run.waited;
  played = record {
    made = played.made;
    lines_are = record {
      sized = played.lines_are.sized;
      each = λ i l a x below. line_gathered m p.calls.number (slice_index_or lines i l) (slice_index_or from i a) (slice_index_or to i a)
          (slice_index_or played.made i x) (gathered i l a below) (played.lines_are.each i l a x below);
    };
    stops = played.stops;
  };
}

-- a CPU that is back, with the answers of another put among its own
back_kept : (m : MachineValue) (lines : List Directive) (old new : List Answer) (n cpu : ℕ) → cpu ≢ n
    → Gathers (λ c. c ≢ n) lines old new (length lines) → IsBack m lines old cpu → IsBack m lines new cpu
back_kept m lines old new n cpu apart others b = record {
  value = b.value;
  number_is = b.number_is;
  seated = b.seated;
  shown = b.shown;
  run = run_gathered m lines old new b.value (λ i l a below mine. others i l a below (λ e. apart (sym b.number_is ∙ (sym mine ∙ e)))) b.run;
}

-- of these CPUs, the first
abbrev pub Lowest : MachineValue → List Directive → List ℕ → List Answer → Option MachineCpuValue → Type 0
Lowest m lines first answers None = first ≡ []
Lowest m lines first answers (Some p) = IsSeated m p × HasRunLines m lines answers p × ((more : List ℕ) × (first ≡ p.calls.number ∷ more))

-- the first of these CPUs are back, with their answers among these; the others are left
pub record Gathered {X : Type 0} (Q : ℕ → X → Type 0) (m : MachineValue) (lines : List Directive) (answers : List Answer) (last : Option MachineCpuValue)
    (rest : List X) : Type 0 where
  pub first : List ℕ
  pub later : List ℕ
  pub numbers_are : members m.calls.online ≡ first ++ later
  pub rest_are : AreFor Q later rest
  pub answered : Answered m.calls.online (keys_at m) (IsIn first) lines answers
  pub back : (cpu : ℕ) → IsIn first cpu → IsBack m lines answers cpu
  pub lowest : Lowest m lines first answers last

-- none is back yet
pub gathered_none : {X : Type 0} (Q : ℕ → X → Type 0) (m : MachineValue) (lines : List Directive) (answers : List Answer) (rest : List X)
    → length answers ≡ length lines → AreFor Q (members m.calls.online) rest → Gathered Q m lines answers None rest
gathered_none Q m lines answers rest sized all = record {
  first = [];
  later = members m.calls.online;
  numbers_are = refl;
  rest_are = all;
  answered = record { sized = sized; each = λ i l a below void. absurd void };
  back = λ cpu void. absurd void;
  lowest = refl;
}

-- one CPU more is back
module _ (m : MachineValue) (lines : List Directive) (old own new : List Answer) (next : MachineCpuValue) (n : ℕ) (driven : IsDriven m lines n own next)
    (sized : length new ≡ length lines) (gathered : Gathers (λ c. c ≡ n) lines own new (length lines))
    (others : Gathers (λ c. c ≢ n) lines old new (length lines)) where
  run_next : HasRunLines m lines new next
  run_next = run_gathered m lines own new next (subst (λ (x : ℕ). Gathers (λ c. c ≡ x) lines own new (length lines)) (sym driven.number_is) gathered) driven.run

  back_more : (first : List ℕ) → ((cpu : ℕ) → IsIn first cpu → IsBack m lines old cpu) → (cpu : ℕ) → IsIn (first ++ n ∷ []) cpu → IsBack m lines new cpu
  back_more first was cpu there = elim (cases_eq cpu n) [
    | inl same ↦ record {
      value = next;
      number_is = driven.number_is ∙ sym same;
      seated = driven.seated;
      shown = driven.shown;
      run = run_next;
    }
    | inr apart ↦ back_kept m lines old new n cpu apart others (was cpu (in_others first n cpu there apart))
  ]

  lowest_more : (first : List ℕ) (last : Option MachineCpuValue) (result : MachineCpuValue) → ((c : ℕ) → IsIn first c → c < n) → Lowest m lines first old last
      → MatchOption last (result ≡ next) (λ c. result ≡ c) → Lowest m lines (first ++ n ∷ []) new (Some result)
  lowest_more first None result below was is =
      subst (λ (p : MachineCpuValue). Lowest m lines (first ++ n ∷ []) new (Some p)) (sym is)
      (driven.seated, run_next, ([], ap (λ (ns : List ℕ). ns ++ n ∷ []) was ∙ ap (λ (k : ℕ). k ∷ []) (sym driven.number_is)))
  lowest_more first (Some p) result below was is =
      subst (λ (x : MachineCpuValue). Lowest m lines (first ++ n ∷ []) new (Some x)) (sym is) (
        was.0,
        run_gathered m lines old new p (λ i l a under mine. others i l a under (λ e.
            let less = below p.calls.number (subst (λ (ns : List ℕ). IsIn ns p.calls.number) (sym was.2.1) (inl refl)) in omega (arith, less, mine, e))) was.1,
        (was.2.0 ++ n ∷ [], ap (λ (ns : List ℕ). ns ++ n ∷ []) was.2.1),
      )

gathered_on : {X : Type 0} (Q : ℕ → X → Type 0) (cpu_at : X → MachineCpuValue) (answers_at : X → List Answer) (m : MachineValue) (lines : List Directive)
    → ((n : ℕ) (x : X) → Q n x → IsDriven m lines n (answers_at x) (cpu_at x)) → (first later : List ℕ) (old new : List Answer)
    (last : Option MachineCpuValue) (result : MachineCpuValue) (x : X) (rest : List X) → members m.calls.online ≡ first ++ later → AreFor Q later (x ∷ rest)
    → Answered m.calls.online (keys_at m) (IsIn first) lines old → ((cpu : ℕ) → IsIn first cpu → IsBack m lines old cpu) → Lowest m lines first old last
    → length new ≡ length lines → Gathers (λ c. c ≡ (cpu_at x).calls.number) lines (answers_at x) new (length lines)
    → Gathers (λ c. c ≢ (cpu_at x).calls.number) lines old new (length lines) → MatchOption last (result ≡ cpu_at x) (λ c. result ≡ c)
    → Gathered Q m lines new (Some result) rest
gathered_on Q cpu_at answers_at m lines means first [] old new last result x rest is left answered back lowest sized own others kept = absurd left
gathered_on Q cpu_at answers_at m lines means first (n ∷ later) old new last result x rest is left answered back lowest sized own others kept =
    let driven = means n x left.0 in let number = driven.number_is in
    let mine : Gathers (λ c. c ≡ n) lines (answers_at x) new (length lines) =
    subst (λ (k : ℕ). Gathers (λ c. c ≡ k) lines (answers_at x) new (length lines)) number own in
    let apart : Gathers (λ c. c ≢ n) lines old new (length lines) =
    subst (λ (k : ℕ). Gathers (λ c. c ≢ k) lines old new (length lines)) number others in
    let rise : Rise 0 cpus (first ++ n ∷ later) = subst (λ (ns : List ℕ). Rise 0 cpus ns) is (members_rise m.calls.online cpus) in
    record {
      first = first ++ n ∷ [];
      later = later;
      numbers_are = is ∙ sym (append_assoc first (n ∷ []) later);
      rest_are = left.1;
      answered = joined_more m.calls.online (keys_at m) n first lines old (answers_at x) new sized answered driven.answered mine apart;
      back = back_more m lines old (answers_at x) new (cpu_at x) n driven sized mine apart first back;
      lowest = lowest_more m lines old (answers_at x) new (cpu_at x) n driven sized mine apart first last result
          (λ c there. rise_before 0 cpus first later n c rise there) lowest kept;
    }

pub gathered_more : {X : Type 0} (Q : ℕ → X → Type 0) (cpu_at : X → MachineCpuValue) (answers_at : X → List Answer) (m : MachineValue)
    (lines : List Directive) → ((n : ℕ) (x : X) → Q n x → IsDriven m lines n (answers_at x) (cpu_at x)) → (old new : List Answer)
    (last : Option MachineCpuValue) (result : MachineCpuValue) (x : X) (xs rest : List X) → xs ≡ x ∷ rest → length new ≡ length lines
    → Gathers (λ c. c ≡ (cpu_at x).calls.number) lines (answers_at x) new (length lines)
    → Gathers (λ c. c ≢ (cpu_at x).calls.number) lines old new (length lines) → MatchOption last (result ≡ cpu_at x) (λ c. result ≡ c)
    → Gathered Q m lines old last xs → Gathered Q m lines new (Some result) rest
gathered_more Q cpu_at answers_at m lines means old new last result x xs rest is sized own others kept g =
    gathered_on Q cpu_at answers_at m lines means g.first g.later old new last result x rest g.numbers_are
    (subst (λ (zs : List _). AreFor Q g.later zs) is g.rest_are) g.answered g.back g.lowest sized own others kept

-- the next one is for some number
next_of : {X : Type 0} (Q : ℕ → X → Type 0) (later : List ℕ) (x : X) (rest : List X) → AreFor Q later (x ∷ rest) → (n : ℕ) × Q n x
next_of Q [] x rest left = absurd left
next_of Q (n ∷ later) x rest left = (n, left.0)

pub gathered_next : {X : Type 0} (Q : ℕ → X → Type 0) (m : MachineValue) (lines : List Directive) (answers : List Answer) (last : Option MachineCpuValue)
    (x : X) (xs rest : List X) → xs ≡ x ∷ rest → Gathered Q m lines answers last xs → (n : ℕ) × Q n x
gathered_next Q m lines answers last x xs rest is g = next_of Q g.later x rest (subst (λ (zs : List _). AreFor Q g.later zs) is g.rest_are)

-- all are back
joined_all : {X : Type 0} (Q : ℕ → X → Type 0) (m : MachineValue) (lines : List Directive) (first later : List ℕ) (answers : List Answer)
    (last : Option MachineCpuValue) → AreLimits m.calls.nr m.calls.online → members m.calls.online ≡ first ++ later → AreFor Q later []
    → Answered m.calls.online (keys_at m) (IsIn first) lines answers → ((cpu : ℕ) → IsIn first cpu → IsBack m lines answers cpu)
    → Lowest m lines first answers last → IfSome last (λ p. AreJoined m lines p answers)
joined_all Q m lines first later answers None limits is left answered back lowest = tt
joined_all Q m lines first (n ∷ later) answers (Some p) limits is left answered back lowest = absurd left
joined_all Q m lines first [] answers (Some p) limits is left answered back lowest =
    let all : members m.calls.online ≡ first = is ∙ append-nil first in
    let there : (c : ℕ) → has m.calls.online c ≡ true → IsIn first c =
    λ c on. subst (λ (ns : List ℕ). IsIn ns c) all
    (members_all m.calls.online cpus c (let low = limits.below c on in let within = limits.within in omega (arith, low, within)) on) in
    let rise : Rise 0 cpus (p.calls.number ∷ lowest.2.0) =
    subst (λ (ns : List ℕ). Rise 0 cpus ns) (all ∙ lowest.2.1) (members_rise m.calls.online cpus) in
    record {
      seated = lowest.0;
      least = record {
        passing = lowest.0.online;
        least = λ c on. head_least p.calls.number cpus lowest.2.0 c rise (subst (λ (ns : List ℕ). IsIn ns c) lowest.2.1 (there c on));
      };
      run = lowest.1;
      answered = record { sized = answered.sized; each = λ i l a below on. answered.each i l a below (there _ on) };
      back = λ cpu on. back cpu (there cpu on);
    }

pub gathered_all : {X : Type 0} (Q : ℕ → X → Type 0) (m : MachineValue) (lines : List Directive) (answers : List Answer) (last : Option MachineCpuValue)
    (rest : List X) → AreLimits m.calls.nr m.calls.online → rest ≡ [] → Gathered Q m lines answers last rest
    → IfSome last (λ p. AreJoined m lines p answers)
gathered_all Q m lines answers last rest limits none g =
    joined_all Q m lines g.first g.later answers last limits g.numbers_are (subst (λ (zs : List _). AreFor Q g.later zs) none g.rest_are) g.answered g.back
    g.lowest
