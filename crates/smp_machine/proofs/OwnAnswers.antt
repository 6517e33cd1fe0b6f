-- What a CPU has answered to its own stops.
use Rattle.std.proofs.Common.{◌≡◌, ◌⊎◌, inl, inr, ℕ, ◌<◌, true, false, true≢false, Option, Some, None, List, [], ◌∷◌, ◌++◌, length}
use Rattle.std.proofs.Common.{slice_index_or, slice_set, append_assoc, arith, refl, sym, ap, ◌∙◌, subst}
use Rattle.std.specs.List.{AllByRecursion}
use Rattle.std.proofs.lemmas.Bool.{and_parts, cases_eq}
use Rattle.std.proofs.lemmas.List.{append-nil, get_or-set_same, get_or-set_other}
use Rattle.smp_mask.specs.Mask.{has}
use Rattle.smp_words.specs.Size.{cpus}
use Rattle.smp_stop_steps.specs.Callings.{IsCalling}
use Rattle.smp_stop_steps.specs.Seats.{RoleStands}
use Rattle.smp_stop_steps.specs.State.{Present}
use Rattle.smp_stop_steps.specs.Stop.{is_of}
use Rattle.smp_words.specs.declared.phase.TheConstants.{DISABLE_IRQ, RUN}
use Rattle.smp_multi.specs.Cpu.{CpuValue as StopCpuValue, Inside, inside_of}
use Rattle.smp_multi.specs.Laws.{StopsAreShown, IsInside, IsPending}
use Rattle.smp_multi.specs.Names.{Work, StopCall, One, Multi, StopRole, Free, In, Gives, Alters, Closes, Calling, Idle, Calls, Carries}
use Rattle.smp_machine.specs.OwnAnswers.{IsIn, IsCalled, IsGiven, IsOwnAnswer, HasToRun, CarriesFor, OwnAnswers}

-- ---- lists

in_left : {A : Type 0} (xs ys : List A) (x : A) → IsIn xs x → IsIn (xs ++ ys) x
in_left {A} xs ys x (before, after, e) = (before, after ++ ys, ap (λ (l : List A). l ++ ys) e ∙ append_assoc before (x ∷ after) ys)

in_right : {A : Type 0} (xs ys : List A) (x : A) → IsIn ys x → IsIn (xs ++ ys) x
in_right {A} xs ys x (before, after, e) = (xs ++ before, after, ap (λ (l : List A). xs ++ l) e ∙ sym (append_assoc xs before (x ∷ after)))

all_as : {A : Type 0} (P Q : A → Type 0) (xs : List A) → ((x : A) → P x → Q x) → AllByRecursion P xs → AllByRecursion Q xs
all_as P Q [] f h = tt
all_as P Q (x ∷ xs) f h = (f x h.0, all_as P Q xs f h.1)

all_append : {A : Type 0} (P : A → Type 0) (xs ys : List A) → AllByRecursion P xs → AllByRecursion P ys → AllByRecursion P (xs ++ ys)
all_append P [] ys a b = b
all_append P (x ∷ xs) ys a b = (a.0, all_append P xs ys a.1 b)

called_left : (xs ys : List StopCall) (func arg answer : ℕ) → IsCalled xs func arg answer → IsCalled (xs ++ ys) func arg answer
called_left xs ys func arg answer (call, there, f, a, x) = (call, in_left xs ys call there, f, a, x)

called_right : (xs ys : List StopCall) (func arg answer : ℕ) → IsCalled ys func arg answer → IsCalled (xs ++ ys) func arg answer
called_right xs ys func arg answer (call, there, f, a, x) = (call, in_right xs ys call there, f, a, x)

-- what it carries it carried before, where it is in the same stop
pub carried_still : (old new : StopCpuValue) (calls : List StopCall)
    → ((stop : Inside) → new.inside ≡ Some stop → stop.acked ≡ RUN → old.inside ≡ Some stop) → new.part.calling ≡ old.part.calling
    → (work : Work) (answer : ℕ) → HasToRun old.number work → CarriesFor new work answer → IsGiven old calls work answer
carried_still old new calls there calling work answer run k =
    inr (record { stop = k.stop; is = there k.stop k.is k.at_run; work_is = k.work_is; at_run = k.at_run; carries = sym calling ∙ k.carries })

-- ---- one stretch, and then another

-- it has answered none
pub own_none : (old new : StopCpuValue) (calls : List StopCall) → new.part.calls ≡ old.part.calls ++ calls → new.part.begun ≡ old.part.begun
    → new.pending ≡ old.pending → new.part.answers ≡ old.part.answers
    → ((work : Work) (answer : ℕ) → HasToRun old.number work → CarriesFor new work answer → IsGiven old calls work answer) → OwnAnswers old new
own_none old new calls calls_are begun pending answers carried = record {
  calls = calls;
  calls_are = calls_are;
  begun = [];
  begun_are = begun ∙ sym (append-nil old.part.begun);
  pends = λ work e. inl (sym pending ∙ e);
  answers = [];
  answers_are = ap (λ (l : List (List ℕ)). slice_index_or l old.number []) answers ∙ sym (append-nil (slice_index_or old.part.answers old.number []));
  each = tt;
  carried = carried;
}

pub own_still : (old new : StopCpuValue) → new.part.calls ≡ old.part.calls → new.part.begun ≡ old.part.begun → new.pending ≡ old.pending
    → new.part.answers ≡ old.part.answers → ((stop : Inside) → new.inside ≡ Some stop → stop.acked ≡ RUN → old.inside ≡ Some stop)
    → new.part.calling ≡ old.part.calling → OwnAnswers old new
own_still old new calls begun pending answers there calling =
    own_none old new [] (calls ∙ sym (append-nil old.part.calls)) begun pending answers (carried_still old new [] there calling)

some_same : {A : Type 0} {a b : A} → Some a ≡ Some b → a ≡ b
some_same e = cc

some_none : {A : Type 0} {a : A} {o : Option A} → o ≡ Some a → o ≡ None → ⊥
some_none e n = cc

-- it has begun a stop
pub own_begun : (old new : StopCpuValue) (work : Work) → new.part.calls ≡ old.part.calls → new.part.begun ≡ old.part.begun ++ work ∷ []
    → new.pending ≡ Some work → new.part.answers ≡ old.part.answers → new.inside ≡ old.inside → new.part.calling ≡ old.part.calling → OwnAnswers old new
own_begun old new work calls begun pending answers inside calling = record {
  calls = [];
  calls_are = calls ∙ sym (append-nil old.part.calls);
  begun = work ∷ [];
  begun_are = begun;
  pends = λ w e. inr ([], [], ap (λ (z : Work). z ∷ []) (some_same (sym pending ∙ e)));
  answers = [];
  answers_are = ap (λ (l : List (List ℕ)). slice_index_or l old.number []) answers ∙ sym (append-nil (slice_index_or old.part.answers old.number []));
  each = tt;
  carried = carried_still old new [] (λ stop e at. sym inside ∙ e) calling;
}

-- it has collected one
pub own_collected : (old new : StopCpuValue) → new.part.calls ≡ old.part.calls → new.part.begun ≡ old.part.begun → new.pending ≡ None
    → new.part.answers ≡ old.part.answers → new.inside ≡ old.inside → new.part.calling ≡ old.part.calling → OwnAnswers old new
own_collected old new calls begun pending answers inside calling = record {
  calls = [];
  calls_are = calls ∙ sym (append-nil old.part.calls);
  begun = [];
  begun_are = begun ∙ sym (append-nil old.part.begun);
  pends = λ work e. absurd (some_none e pending);
  answers = [];
  answers_are = ap (λ (l : List (List ℕ)). slice_index_or l old.number []) answers ∙ sym (append-nil (slice_index_or old.part.answers old.number []));
  each = tt;
  carried = carried_still old new [] (λ stop e at. sym inside ∙ e) calling;
}

-- it has completed the stop that it was in
pub own_answered : (old new : StopCpuValue) (stop : Inside) (answer : ℕ) (calls : List StopCall) → new.part.calls ≡ old.part.calls ++ calls
    → new.part.begun ≡ old.part.begun → new.pending ≡ old.pending
    → new.part.answers ≡ slice_set old.part.answers stop.slot (slice_index_or old.part.answers stop.slot [] ++ answer ∷ [])
    → old.number < length old.part.answers → (stop.slot ≡ old.number → old.pending ≡ Some stop.work)
    → (HasToRun old.number stop.work → IsGiven old calls stop.work answer) → new.inside ≡ None → OwnAnswers old new
own_answered old new stop answer calls calls_are begun pending answers low link given outside = elim (cases_eq stop.slot old.number) [
  | inl same ↦ record {
    calls = calls;
    calls_are = calls_are;
    begun = [];
    begun_are = begun ∙ sym (append-nil old.part.begun);
    pends = λ work e. inl (sym pending ∙ e);
    answers = answer ∷ [];
    answers_are = ap (λ (l : List (List ℕ)). slice_index_or l old.number []) answers
        ∙ (ap (λ (k : ℕ). slice_index_or (slice_set old.part.answers k (slice_index_or old.part.answers k [] ++ answer ∷ [])) old.number []) same
        ∙ get_or-set_same old.part.answers old.number (slice_index_or old.part.answers old.number [] ++ answer ∷ []) [] low);
    each = ((stop.work, inl (link same), given), tt);
    carried = λ work x run k. absurd (some_none k.is outside);
  }
  | inr apart ↦ record {
    calls = calls;
    calls_are = calls_are;
    begun = [];
    begun_are = begun ∙ sym (append-nil old.part.begun);
    pends = λ work e. inl (sym pending ∙ e);
    answers = [];
    answers_are = ap (λ (l : List (List ℕ)). slice_index_or l old.number []) answers
        ∙ (get_or-set_other old.part.answers stop.slot old.number (slice_index_or old.part.answers stop.slot [] ++ answer ∷ []) [] (λ e. apart (sym e))
        ∙ sym (append-nil (slice_index_or old.part.answers old.number [])));
    each = tt;
    carried = λ work x run k. absurd (some_none k.is outside);
  }
]

pub own_then : (old mid new : StopCpuValue) → mid.number ≡ old.number → OwnAnswers old mid → OwnAnswers mid new → OwnAnswers old new
own_then old mid new number a b = record {
  calls = a.calls ++ b.calls;
  calls_are = b.calls_are ∙ (ap (λ (l : List StopCall). l ++ b.calls) a.calls_are ∙ append_assoc old.part.calls a.calls b.calls);
  begun = a.begun ++ b.begun;
  begun_are = b.begun_are ∙ (ap (λ (l : List Work). l ++ b.begun) a.begun_are ∙ append_assoc old.part.begun a.begun b.begun);
  pends = λ work e. pended work (b.pends work e);
  answers = a.answers ++ b.answers;
  answers_are = subst (λ (n : ℕ). slice_index_or new.part.answers n [] ≡ slice_index_or mid.part.answers n [] ++ b.answers) number b.answers_are
      ∙ (ap (λ (l : List ℕ). l ++ b.answers) a.answers_are ∙ append_assoc (slice_index_or old.part.answers old.number []) a.answers b.answers);
  each = all_append (IsOwnAnswer old (a.begun ++ b.begun) (a.calls ++ b.calls)) a.answers b.answers
      (all_as (IsOwnAnswer old a.begun a.calls) (IsOwnAnswer old (a.begun ++ b.begun) (a.calls ++ b.calls)) a.answers first a.each)
      (all_as (IsOwnAnswer mid b.begun b.calls) (IsOwnAnswer old (a.begun ++ b.begun) (a.calls ++ b.calls)) b.answers second b.each);
  carried = λ work x run k. joined work x run (b.carried work x (mid_runs work run) k);
}
  where
    earlier : (work : Work) → (old.pending ≡ Some work) ⊎ IsIn a.begun work → (old.pending ≡ Some work) ⊎ IsIn (a.begun ++ b.begun) work
    earlier work (inl was) = inl was
    earlier work (inr there) = inr (in_left a.begun b.begun work there)

    pended : (work : Work) → (mid.pending ≡ Some work) ⊎ IsIn b.begun work → (old.pending ≡ Some work) ⊎ IsIn (a.begun ++ b.begun) work
    pended work (inl was) = earlier work (a.pends work was)
    pended work (inr there) = inr (in_right a.begun b.begun work there)

    mid_runs : (work : Work) → HasToRun old.number work → HasToRun mid.number work
    mid_runs work run = subst (λ (n : ℕ). HasToRun n work) (sym number) run

    in_first : (work : Work) (x : ℕ) → IsGiven old a.calls work x → IsGiven old (a.calls ++ b.calls) work x
    in_first work x (inl call) = inl (called_left a.calls b.calls work.func work.arg x call)
    in_first work x (inr was) = inr was

    -- given in the second stretch, or in the first, or before both
    joined : (work : Work) (x : ℕ) → HasToRun old.number work → IsGiven mid b.calls work x → IsGiven old (a.calls ++ b.calls) work x
    joined work x run (inl call) = inl (called_right a.calls b.calls work.func work.arg x call)
    joined work x run (inr was) = in_first work x (a.carried work x run was)

    first : (x : ℕ) → IsOwnAnswer old a.begun a.calls x → IsOwnAnswer old (a.begun ++ b.begun) (a.calls ++ b.calls) x
    first x (work, which, given) = (work, earlier work which, λ run. in_first work x (given run))

    second : (x : ℕ) → IsOwnAnswer mid b.begun b.calls x → IsOwnAnswer old (a.begun ++ b.begun) (a.calls ++ b.calls) x
    second x (work, which, given) = (work, pended work which, λ run. joined work x run (given (mid_runs work run)))

-- ---- of a CPU whose value some words show

pub own_low : (c : StopCpuValue) → StopsAreShown c → c.number < length c.part.answers
own_low c s =
    let number : c.number ≡ s.known.number = ap (λ (z : StopCpuValue). z.number) s.view in
    let long : length c.part.answers ≡ length s.known.part.answers = ap (λ (z : StopCpuValue). length z.part.answers) s.view in
    let sized : length s.known.part.answers ≡ cpus = s.sees.part_is.answers.sized in
    let below : s.known.number < cpus = s.sees.below in
    omega arith

-- a CPU that is in a stop is of it
is_of_it : (n : Present) (me : ℕ) (x : StopRole) (stop : Inside) → RoleStands n me x → inside_of x ≡ Some stop → is_of ((n.stop stop.slot).standing me) ≡ true
is_of_it n me Free stop st e = cc
is_of_it n me (In s w a l t) stop st e =
    let slot : s ≡ stop.slot = ap (λ (z : Inside). z.slot) (some_same e) in
    subst (λ (k : ℕ). is_of ((n.stop k).standing me) ≡ true) slot (ap is_of st.1)
is_of_it n me (Gives s w a v) stop st e =
    let slot : s ≡ stop.slot = ap (λ (z : Inside). z.slot) (some_same e) in
    subst (λ (k : ℕ). is_of ((n.stop k).standing me) ≡ true) slot (ap is_of st.1)
is_of_it n me (Alters s w count made rest) stop st e =
    let slot : s ≡ stop.slot = ap (λ (z : Inside). z.slot) (some_same e) in
    subst (λ (k : ℕ). is_of ((n.stop k).standing me) ≡ true) slot (ap is_of st.1)
is_of_it n me (Closes s) stop st e = cc

-- its own stop that it is in is the one that it has begun
pub own_link : (c : StopCpuValue) → StopsAreShown c → (stop : Inside) → c.inside ≡ Some stop → stop.slot ≡ c.number → c.pending ≡ Some stop.work
own_link c s stop is same = go c.pending refl
  where
    seated : inside_of s.known.seat ≡ Some stop
    seated = sym (ap (λ (z : StopCpuValue). z.inside) s.view) ∙ is

    of : is_of ((s.stops.now.stop stop.slot).standing s.known.number) ≡ true
    of = is_of_it s.stops.now s.known.number s.known.seat stop
        (subst (RoleStands s.stops.now s.known.number) s.sees.seat_is (s.shown.present.stands s.known.number)) seated

    opened : (s.stops.now.stop c.number).is_open ≡ true
    opened = subst (λ (k : ℕ). (s.stops.now.stop k).is_open ≡ true) same
        (and_parts (s.stops.now.stop stop.slot).is_open (has (s.stops.now.stop stop.slot).work.mask s.known.number)
        (sym ((s.shown.present.slots stop.slot).members s.known.number) ∙ of)).0

    work : (s.stops.now.stop c.number).work ≡ stop.work
    work = ap (λ (k : ℕ). (s.stops.now.stop k).work) (sym same) ∙ (subst (IsInside s.stops.now c.number) is s.inside).1

    go : (o : Option Work) → c.pending ≡ o → c.pending ≡ Some stop.work
    go None e = absurd (true≢false (sym opened ∙ subst (IsPending (s.stops.now.stop c.number)) e s.pending))
    go (Some w) e = e ∙ ap Some (sym (subst (IsPending (s.stops.now.stop c.number)) e s.pending).1 ∙ work)

-- an active CPU that has acknowledged RUN in a stop of kind Multi carries an answer
pub carries_active : (c : StopCpuValue) → StopsAreShown c → (stop : Inside) → c.inside ≡ Some stop → stop.acked ≡ RUN → stop.work.kind ≡ Multi
    → has stop.work.active c.number ≡ true → (x : ℕ) × (c.part.calling ≡ Carries x)
carries_active c s stop is at multi active =
    let number : c.number ≡ s.known.number = ap (λ (z : StopCpuValue). z.number) s.view in
    let seated : inside_of s.known.seat ≡ Some stop = sym (ap (λ (z : StopCpuValue). z.inside) s.view) ∙ is in
    let here : IsCalling c.number s.known.seat (s.stops.calling c.number) =
    subst (λ (n : ℕ). IsCalling n s.known.seat (s.stops.calling n)) (sym number)
    (subst (λ (x : StopRole). IsCalling s.known.number x (s.stops.calling s.known.number)) s.sees.seat_is (s.shown.callings s.known.number)) in
    let k = go s.known.seat seated (s.stops.calling c.number) here in
    (k.0, sym s.calling ∙ k.1)
  where
    no_bools : true ≡ false → ⊥
    no_bools e = cc

    go : (x : StopRole) → inside_of x ≡ Some stop → (f : Calling) → IsCalling c.number x f → (y : ℕ) × (f ≡ Carries y)
    go Free e f k = cc
    go (In s w a l t) e Idle k =
        let same : w ≡ stop.work = ap (λ (z : Inside). z.work) (some_same e) in
        let late : a ≡ stop.acked = ap (λ (z : Inside). z.acked) (some_same e) in
        absurd (no_bools (sym (ap (λ (z : Work). has z.active c.number) same ∙ active) ∙ k (omega (arith, late, at))))
    go (In s w a l t) e (Calls call) k =
        let same : w ≡ stop.work = ap (λ (z : Inside). z.work) (some_same e) in
        let late : a ≡ stop.acked = ap (λ (z : Inside). z.acked) (some_same e) in
        elim k.1.1 [
          | inl one ↦ absurd (let bad : One ≡ Multi = sym one ∙ (ap (λ (z : Work). z.kind) same ∙ multi) in cc)
          | inr early ↦ absurd (let early_at = early.0 in omega (arith, late, at, early_at))
        ]
    go (In s w a l t) e (Carries y) k = (y, refl)
    go (Gives s w a v) e Idle k = absurd k
    go (Gives s w a v) e (Calls call) k =
        let same : w ≡ stop.work = ap (λ (z : Inside). z.work) (some_same e) in
        absurd (let bad : One ≡ Multi = sym k.1 ∙ (ap (λ (z : Work). z.kind) same ∙ multi) in cc)
    go (Gives s w a v) e (Carries y) k = (y, refl)
    go (Alters s w count made rest) e f k =
        let late : DISABLE_IRQ ≡ stop.acked = ap (λ (z : Inside). z.acked) (some_same e) in absurd (omega (arith, late, at))
    go (Closes s) e f k = cc
