-- Works that a CPU has taken were served.
use Rattle.std.proofs.Common.{◌≡◌, inl, inr, ℕ, ◌+◌, ◌<◌, ◌==◌, ◌&&◌, Bool, true, false}
use Rattle.std.proofs.Common.{Option, Some, None, List}
use Rattle.std.proofs.Common.{[], ◌∷◌, ◌++◌, length, map, slice_index_or, slice_set, length-set, append_assoc}
use Rattle.std.proofs.Common.{arith, refl, sym, ap, ◌∙◌, subst, ne_eqb, eq-eqb}
use Rattle.std.specs.List.{AllByRecursion}
use Rattle.std.proofs.lemmas.Bool.{cases_eq}
use Rattle.std.proofs.lemmas.Bool.Decides.{nat_tests}
use Rattle.std.proofs.lemmas.List.{append-nil, map-append, length-append, get_or-set_same, get_or-set_other}
use Rattle.smp_mask.specs.Mask.{has}
use Rattle.smp_queue.specs.Cpu.{CpuValue as CallCpuValue}
use Rattle.smp_words.specs.Limits.{AreLimits}
use Rattle.smp_stop_steps.specs.Start.{has_slot}
use Rattle.smp_multi.specs.Answers.{RefusesEntry}
use Rattle.smp_multi.specs.Cpu.{TableValue as StopTableValue, CpuValue as StopCpuValue, Inside}
use Rattle.smp_multi.specs.Names.{Attempt, Work, StopSetting, StopCall}
use Rattle.smp_machine.specs.declared.work_queue.Item.{Item}
use Rattle.smp_machine.specs.Passes.{PassesValue, LastIsOwn, takes, TakenIsShown}
use Rattle.smp_machine.specs.MachineCpu.{MachineValue, MachineCpuValue, IsMachine}
use Rattle.smp_machine.specs.Served.{Entered, Missed, Unseen, Service, is_entered, one_if, in_hand, visits, entries, attempts_as, attempts_for}
use Rattle.smp_machine.specs.Served.{IsBeginning, IsLater, IsLookedAt, KeepsVisits, Serves}
use Rattle.smp_machine.specs.Takes.{Drops, TakesFront, EntersFront, TakesNext}

-- ---- a CPU at a later time

pub beginning_still : {A : Type 0} (old new : List A) → new ≡ old → IsBeginning old new
beginning_still old new e = ([], e ∙ sym (append-nil old))

pub beginning_same : {A : Type 0} (l : List A) → IsBeginning l l
beginning_same l = beginning_still l l refl

beginning_then : {A : Type 0} (old mid new : List A) → IsBeginning old mid → IsBeginning mid new → IsBeginning old new
beginning_then {A} old mid new a b = (a.0 ++ b.0, b.1 ∙ (ap (λ (l : List A). l ++ b.0) a.1 ∙ append_assoc old a.0 b.0))

pub later_still : (old new : StopCpuValue) → new.table ≡ old.table → new.setting ≡ old.setting → new.number ≡ old.number
    → new.part.begun ≡ old.part.begun → new.part.collected ≡ old.part.collected → new.part.calls ≡ old.part.calls
    → IsBeginning old.moves new.moves → IsLater old new
later_still old new table setting number begun collected calls moves = record {
  table_is = table;
  setting_is = setting;
  number_is = number;
  begun = beginning_still old.part.begun new.part.begun begun;
  collected = beginning_still old.part.collected new.part.collected collected;
  calls = beginning_still old.part.calls new.part.calls calls;
  moves = moves;
}

pub later_same : (c : StopCpuValue) → IsLater c c
later_same c = later_still c c refl refl refl refl refl refl (beginning_same c.moves)

-- one stop more is begun, or collected
pub later_begun : (old new : StopCpuValue) (more : List Work) → new.table ≡ old.table → new.setting ≡ old.setting → new.number ≡ old.number
    → new.part.begun ≡ old.part.begun ++ more → new.part.collected ≡ old.part.collected → new.part.calls ≡ old.part.calls
    → IsBeginning old.moves new.moves → IsLater old new
later_begun old new more table setting number begun collected calls moves = record {
  table_is = table;
  setting_is = setting;
  number_is = number;
  begun = (more, begun);
  collected = beginning_still old.part.collected new.part.collected collected;
  calls = beginning_still old.part.calls new.part.calls calls;
  moves = moves;
}

pub later_collected : (old new : StopCpuValue) (more : List ℕ) → new.table ≡ old.table → new.setting ≡ old.setting → new.number ≡ old.number
    → new.part.begun ≡ old.part.begun → new.part.collected ≡ old.part.collected ++ more → new.part.calls ≡ old.part.calls
    → IsBeginning old.moves new.moves → IsLater old new
later_collected old new more table setting number begun collected calls moves = record {
  table_is = table;
  setting_is = setting;
  number_is = number;
  begun = beginning_still old.part.begun new.part.begun begun;
  collected = (more, collected);
  calls = beginning_still old.part.calls new.part.calls calls;
  moves = moves;
}

-- stop functions were called
pub later_called : (old new : StopCpuValue) (more : List StopCall) → new.table ≡ old.table → new.setting ≡ old.setting → new.number ≡ old.number
    → new.part.begun ≡ old.part.begun → new.part.collected ≡ old.part.collected → new.part.calls ≡ old.part.calls ++ more
    → IsBeginning old.moves new.moves → IsLater old new
later_called old new more table setting number begun collected calls moves = record {
  table_is = table;
  setting_is = setting;
  number_is = number;
  begun = beginning_still old.part.begun new.part.begun begun;
  collected = beginning_still old.part.collected new.part.collected collected;
  calls = (more, calls);
  moves = moves;
}

pub later_then : (old mid new : StopCpuValue) → IsLater old mid → IsLater mid new → IsLater old new
later_then old mid new a b = record {
  table_is = b.table_is ∙ a.table_is;
  setting_is = b.setting_is ∙ a.setting_is;
  number_is = b.number_is ∙ a.number_is;
  begun = beginning_then old.part.begun mid.part.begun new.part.begun a.begun b.begun;
  collected = beginning_then old.part.collected mid.part.collected new.part.collected a.collected b.collected;
  calls = beginning_then old.part.calls mid.part.calls new.part.calls a.calls b.calls;
  moves = beginning_then old.moves mid.moves new.moves a.moves b.moves;
}

-- ---- how many stops it has been in

pub keeps_still : (old new : StopCpuValue) → new.part.answers ≡ old.part.answers → new.inside ≡ old.inside → KeepsVisits old new
keeps_still old new answers inside = record {
  sized = ap length answers;
  visits_are = λ source low. λ i. length (slice_index_or (answers i) source []) + in_hand source (inside i);
}

-- it is still in the same stop
pub keeps_inside : (old new : StopCpuValue) (stop next : Inside) → old.inside ≡ Some stop → new.inside ≡ Some next → next.slot ≡ stop.slot
    → new.part.answers ≡ old.part.answers → KeepsVisits old new
keeps_inside old new stop next was is slot answers = record {
  sized = ap length answers;
  visits_are = λ source low.
      let same : in_hand source new.inside ≡ in_hand source old.inside = ap (in_hand source) is
      ∙ (ap (λ (n : ℕ). one_if (n == source)) slot ∙ sym (ap (in_hand source) was)) in
      λ i. length (slice_index_or (answers i) source []) + same i;
}

-- one answer more of this source
one_answer : (l : List (List ℕ)) (slot source word : ℕ) → source < length l
    → length (slice_index_or (slice_set l slot (slice_index_or l slot [] ++ word ∷ [])) source []) + 0
    ≡ length (slice_index_or l source []) + one_if (slot == source)
one_answer l slot source word low =
    let more : List ℕ = slice_index_or l slot [] ++ word ∷ [] in
    elim (cases_eq source slot) [
      | inl same ↦
          let there : slice_index_or (slice_set l slot more) source [] ≡ more =
          ap (λ (k : ℕ). slice_index_or (slice_set l slot more) k []) same ∙ get_or-set_same l slot more [] (subst (λ (k : ℕ). k < length l) same low) in
          let long : length more ≡ length (slice_index_or l slot []) + 1 = length-append (slice_index_or l slot []) (word ∷ []) in
          let was : slice_index_or l source [] ≡ slice_index_or l slot [] = ap (λ (k : ℕ). slice_index_or l k []) same in
          let one : one_if (slot == source) ≡ 1 = ap one_if (eq-eqb slot source (sym same)) in
          let now : length (slice_index_or (slice_set l slot more) source []) ≡ length more = ap length there in
          let before : length (slice_index_or l source []) ≡ length (slice_index_or l slot []) = ap length was in
          omega arith
      | inr apart ↦
          let there : slice_index_or (slice_set l slot more) source [] ≡ slice_index_or l source [] = get_or-set_other l slot source more [] apart in
          let none : one_if (slot == source) ≡ 0 = ap one_if (ne_eqb slot source (λ k. apart (sym k))) in
          let now : length (slice_index_or (slice_set l slot more) source []) ≡ length (slice_index_or l source []) = ap length there in
          omega arith
    ]

-- it has completed the stop that it was in
pub keeps_answer : (old new : StopCpuValue) (stop : Inside) (word : ℕ) → old.inside ≡ Some stop → new.inside ≡ None
    → new.part.answers ≡ slice_set old.part.answers stop.slot (slice_index_or old.part.answers stop.slot [] ++ word ∷ []) → KeepsVisits old new
keeps_answer old new stop word was is answers =
    let l : List (List ℕ) = old.part.answers in
    let more : List ℕ = slice_index_or l stop.slot [] ++ word ∷ [] in
    record {
      sized = ap length answers ∙ length-set l stop.slot more;
      visits_are = λ source low.
          let now : visits source new ≡ length (slice_index_or (slice_set l stop.slot more) source []) + 0 =
          λ i. length (slice_index_or (answers i) source []) + in_hand source (is i) in
          let before : visits source old ≡ length (slice_index_or l source []) + one_if (stop.slot == source) =
          λ i. length (slice_index_or l source []) + in_hand source (was i) in
          now ∙ (one_answer l stop.slot source word low ∙ sym before);
    }

-- ---- the works taken

entries-append : (source : ℕ) (xs ys : List Service) → entries source (xs ++ ys) ≡ entries source xs + entries source ys
entries-append source [] ys = omega arith
entries-append source (x ∷ xs) ys =
    let rest = entries-append source xs ys in
    let here : ℕ = one_if (is_entered x.fate && x.item.slot == source) in
    ap (λ (n : ℕ). here + n) rest ∙ (let e : here + (entries source xs + entries source ys) ≡ (here + entries source xs) + entries source ys = omega arith in e)

attempts_append : (xs ys : List Service) → attempts_for (xs ++ ys) ≡ attempts_for xs ++ attempts_for ys
attempts_append [] ys = refl
attempts_append (x ∷ xs) ys =
    let here : List Attempt = attempts_as x.item.slot x.fate in
    ap (λ (l : List Attempt). here ++ l) (attempts_append xs ys) ∙ sym (append_assoc here (attempts_for xs) (attempts_for ys))

looked_append : (online : ℕ) (xs ys : List Service) → AllByRecursion (IsLookedAt online) xs → AllByRecursion (IsLookedAt online) ys
    → AllByRecursion (IsLookedAt online) (xs ++ ys)
looked_append online [] ys a b = b
looked_append online (x ∷ xs) ys a b = (a.0, looked_append online xs ys a.1 b)

-- none was taken
pub serves_none : (old new : MachineCpuValue) → new.passes.taken ≡ old.passes.taken → new.stops.attempts ≡ old.stops.attempts
    → KeepsVisits old.stops new.stops → Serves old new
serves_none old new taken attempts keeps = record {
  served = [];
  taken_are = taken ∙ sym (append-nil old.passes.taken);
  sized = keeps.sized;
  visits_are = λ source low. let same = keeps.visits_are source low in omega arith;
  attempts_are = attempts ∙ sym (append-nil old.stops.attempts);
  looked_at = tt;
}

pub serves_still : (old new : MachineCpuValue) → new.passes.taken ≡ old.passes.taken → new.stops.part.answers ≡ old.stops.part.answers
    → new.stops.inside ≡ old.stops.inside → new.stops.attempts ≡ old.stops.attempts → Serves old new
serves_still old new taken answers inside attempts = serves_none old new taken attempts (keeps_still old.stops new.stops answers inside)

-- one stretch after another
pub serves_then : (old mid new : MachineCpuValue) → mid.stops.setting ≡ old.stops.setting → Serves old mid → Serves mid new → Serves old new
serves_then old mid new setting a b = record {
  served = a.served ++ b.served;
  taken_are = b.taken_are ∙ (ap (λ (l : List Item). l ++ map (λ (s : Service). s.item) b.served) a.taken_are
      ∙ (append_assoc old.passes.taken (map (λ (s : Service). s.item) a.served) (map (λ (s : Service). s.item) b.served)
      ∙ ap (λ (l : List Item). old.passes.taken ++ l) (sym (map-append (λ (s : Service). s.item) a.served b.served))));
  sized = b.sized ∙ a.sized;
  visits_are = λ source low.
      let one = a.visits_are source low in
      let two = b.visits_are source (subst (λ (n : ℕ). source < n) (sym a.sized) low) in
      let both = entries-append source a.served b.served in
      omega arith;
  attempts_are = b.attempts_are ∙ (ap (λ (l : List Attempt). l ++ attempts_for b.served) a.attempts_are
      ∙ (append_assoc old.stops.attempts (attempts_for a.served) (attempts_for b.served)
      ∙ ap (λ (l : List Attempt). old.stops.attempts ++ l) (sym (attempts_append a.served b.served))));
  looked_at = looked_append old.stops.setting.online a.served b.served a.looked_at
      (subst (λ (k : StopSetting). AllByRecursion (IsLookedAt k.online) b.served) setting b.looked_at);
}

-- the front of the own queue was taken
serves_front : (t : StopTableValue) (old new : MachineCpuValue) (front : Option Item) (slot : Option ℕ) → TakesFront old.passes new.passes front
    → EntersFront t old.stops new.stops front slot → Serves old new
serves_front t old new None None took e =
    serves_still old new (ap (λ (p : PassesValue). p.taken) took) (ap (λ (c : StopCpuValue). c.part.answers) e) (ap (λ (c : StopCpuValue). c.inside) e)
    (ap (λ (c : StopCpuValue). c.attempts) e)
serves_front t old new None (Some slot) took e = absurd e
serves_front t old new (Some x) None took (inl e) =
    let keeps = keeps_still old.stops new.stops (ap (λ (c : StopCpuValue). c.part.answers) e.is) (ap (λ (c : StopCpuValue). c.inside) e.is) in
    record {
      served = record { item = x; fate = Missed } ∷ [];
      taken_are = ap (λ (p : PassesValue). p.taken) took.0;
      sized = keeps.sized;
      visits_are = λ source low. let same = keeps.visits_are source low in omega arith;
      attempts_are = ap (λ (c : StopCpuValue). c.attempts) e.is;
      looked_at = ((λ unseen. absurd (let bad : Missed ≡ Unseen = unseen in cc)), tt);
    }
serves_front t old new (Some x) None took (inr e) =
    let keeps = keeps_still old.stops new.stops (ap (λ (c : StopCpuValue). c.part.answers) e.0) (ap (λ (c : StopCpuValue). c.inside) e.0) in
    record {
      served = record { item = x; fate = Unseen } ∷ [];
      taken_are = ap (λ (p : PassesValue). p.taken) took.0;
      sized = keeps.sized;
      visits_are = λ source low. let same = keeps.visits_are source low in omega arith;
      attempts_are = ap (λ (c : StopCpuValue). c.attempts) e.0 ∙ sym (append-nil old.stops.attempts);
      looked_at = ((λ _. e.1), tt);
    }
serves_front t old new (Some x) (Some slot) took e =
    let r = e.1.1 in
    record {
      served = record { item = x; fate = Entered } ∷ [];
      taken_are = ap (λ (p : PassesValue). p.taken) took.0;
      sized = ap (λ (c : StopCpuValue). length c.part.answers) r.is;
      visits_are = λ source low.
          let now : visits source new.stops ≡ length (slice_index_or old.stops.part.answers source []) + one_if (slot == source) =
          ap (visits source) r.is in
          let before : visits source old.stops ≡ length (slice_index_or old.stops.part.answers source []) + 0 =
          λ i. length (slice_index_or old.stops.part.answers source []) + in_hand source (r.outside i) in
          let same : one_if (slot == source) ≡ one_if (x.slot == source) = ap (λ (n : ℕ). one_if (n == source)) e.0 in
          omega arith;
      attempts_are = ap (λ (c : StopCpuValue). c.attempts) r.is
          ∙ ap (λ (s : ℕ). old.stops.attempts ++ record { slot = s; entered = true } ∷ []) e.0;
      looked_at = ((λ unseen. absurd (let bad : Entered ≡ Unseen = unseen in cc)), tt);
    }

pub serves_next : (m : MachineValue) (old new : MachineCpuValue) (slot : Option ℕ) → TakesNext m old new slot → Serves old new
serves_next m old new slot t = serves_front m.stops old new t.front slot t.passes_are t.stops_are

-- ---- the last work taken

-- after works that were served
pub own_after : (old mid new : MachineCpuValue) → Serves old mid → mid.passes.number ≡ old.passes.number → LastIsOwn mid.passes new.passes
    → LastIsOwn old.passes new.passes
own_after old mid new s number l =
    let before : List Item = map (λ (x : Service). x.item) s.served in
    record {
      others = before ++ l.others;
      last = l.last;
      own = l.own ∙ number;
      taken_are = l.taken_are ∙ (ap (λ (t : List Item). t ++ (l.others ++ l.last ∷ [])) s.taken_are
          ∙ (append_assoc old.passes.taken before (l.others ++ l.last ∷ [])
          ∙ ap (λ (t : List Item). old.passes.taken ++ t) (sym (append_assoc before l.others (l.last ∷ [])))));
    }

-- nothing was taken before it, or after it
pub own_from : (old mid new : PassesValue) → mid ≡ old → LastIsOwn mid new → LastIsOwn old new
own_from old mid new e l = subst (λ (p : PassesValue). LastIsOwn p new) e l

pub own_to : (old mid new : PassesValue) → new ≡ mid → LastIsOwn old mid → LastIsOwn old new
own_to old mid new e l = subst (λ (p : PassesValue). LastIsOwn old p) (sym e) l

-- the front of the own queue was of the own stop, and was entered
own_front : (t : StopTableValue) (old new : MachineCpuValue) (front : Option Item) (slot : ℕ) → slot ≡ old.passes.number
    → TakesFront old.passes new.passes front → EntersFront t old.stops new.stops front (Some slot) → LastIsOwn old.passes new.passes
own_front t old new None slot same took e = absurd e
own_front t old new (Some x) slot same took e =
    record { others = []; last = x; own = sym e.0 ∙ same; taken_are = ap (λ (p : PassesValue). p.taken) took.0 }

pub own_next : (m : MachineValue) (old new : MachineCpuValue) (slot : ℕ) → slot ≡ old.passes.number → TakesNext m old new (Some slot)
    → LastIsOwn old.passes new.passes
own_next m old new slot same t = own_front m.stops old new t.front slot same t.passes_are t.stops_are

-- ---- a stale work

-- a CPU that is online has a slot
not_online : (nr online source : ℕ) → AreLimits nr online → has_slot nr source ≡ false → (b : Bool) → has online source ≡ b → has online source ≡ false
not_online nr online source limits none false is = is
not_online nr online source limits none true is =
    let below = limits.below source is in
    let within = limits.within in
    absurd (grind (arith, nat_tests))

pub drops : (t : StopTableValue) (source : ℕ) (old new : StopCpuValue) → AreLimits t.nr t.setting.online → old.setting ≡ t.setting → old.inside ≡ None
    → RefusesEntry t source old new → Drops t source old new
drops t source old new limits setting outside (inl (inl inside, same)) = absurd (inside outside)
drops t source old new limits setting outside (inl (inr none, same)) = inr (
  same,
  ap (λ (x : StopSetting). has x.online source) setting ∙ not_online t.nr t.setting.online source limits none (has t.setting.online source) refl,
)
drops t source old new limits setting outside (inr looked) = inl looked

-- ---- the front of the own queue, entered or dropped

pub next_front : (m : MachineValue) (calls : CallCpuValue) (heard : List ℕ) (old new : StopCpuValue) (before after : PassesValue) (x : Item) (slot : Option ℕ)
    → after ≡ takes x before → TakenIsShown after → EntersFront m.stops old new (Some x) slot
    → TakesNext m (record { calls = calls; stops = old; passes = before; heard_at = heard })
    (record { calls = calls; stops = new; passes = after; heard_at = heard }) slot
next_front m calls heard old new before after x slot took shown front =
    record { calls_are = refl; heard_are = refl; front = Some x; passes_are = (took, shown); stops_are = front }
