-- What calls of the families send, and how many direct calls they make.
use Rattle.std.proofs.Common.{◌≡◌, ◌≢◌, ℕ, zero, suc, ◌+◌, ◌*◌, ◌<◌, ◌⊎◌, inl, inr, not, ◌&&◌, ◌||◌, ◌==◌, Bool, true, false, None, Some, Option}
use Rattle.std.proofs.Common.{Result, Ok, Err, IfOk, IfErr, if◌then◌else◌, filter, take, length, slice_index_or}
use Rattle.std.proofs.Common.{List, [], ◌∷◌, ◌++◌, append_assoc, refl, sym, ap, ◌∙◌}
use Rattle.std.proofs.Common.{subst, arith}
use Rattle.std.proofs.lemmas.Bool.{cases_eq, cases_Bool, eq-eqb, ne_eqb, and_parts, false_from_ne_true}
use Rattle.std.specs.List.{flat_map, sum_by}
use Rattle.std.proofs.Math.Nat.{suc-mul, zero-mul}
use Rattle.std.proofs.lemmas.List.{append-nil, length_push, map-append, take_more, flat_map_more}
use Rattle.std.proofs.lemmas.List.Elements.{filter-append}
use Rattle.std.proofs.lemmas.List.Sums.{sum_by_push}
use Rattle.smp_mask.specs.Mask.{has, members, members_below, IsLeast}
use Rattle.smp_mask.specs.declared.mask.TheConstants.{NR_CPUS}
use Rattle.smp_mask.specs.declared.error.SmpError.{SmpError}
use Rattle.smp_mask.specs.declared.error.SmpError.TheVariants as error
use Rattle.smp_words.specs.Size.{cpus}
use Rattle.smp_words.specs.declared.call.Call.{Call}
use Rattle.smp_words.specs.declared.call.Class.{Class}
use Rattle.smp_words.specs.declared.call.Class.TheVariants.{Async}
use Rattle.smp_call_steps.specs.declared.known.DirectCall.{DirectCall}
use Rattle.smp_queue.specs.Cpu.{CpuValue, confirms, looks, notes_call}
use Rattle.smp_queue.specs.declared.handler.Heard.{Heard}
use Rattle.smp_calls.specs.Families.{CallsBy, CallsHere, CallsMany, CallsOne, CallsUserHere, CallsWith, QueuesNone}
use Rattle.smp_calls.specs.Queued.{Queued, destinations, sendings}
use Rattle.smp_calls.specs.Records.{call_by, class_for, many_call, single_record, user_record}
use Rattle.smp_calls.specs.Rounds.{Picks}
use Rattle.smp_calls.specs.Targets.{IsAny, HasNone, is_target, remote}
use Rattle.smp_machine.specs.Calls.{RefusedInHand}
use Rattle.smp_machine.specs.MachineCpu.{MachineValue, MachineCpuValue}
use Rattle.smp_script.specs.declared.directive.Directive.{Directive}
use Rattle.smp_script.specs.declared.request.Request.{Request}
use Rattle.smp_script.specs.declared.request.Request.TheVariants.{Single, User, Any, Many, Cond}
use Rattle.smp_script.specs.declared.request.Which.{Which}
use Rattle.smp_run.specs.Sent.{Sent, HasCalled, HasRequested, sent_of, calls_to, cpus_with, passing_below, first_only, queue_of_one, queue_of_any}
use Rattle.smp_run.specs.Sent.{line_calls, line_direct, one_if, repeated, request_calls, request_direct, script_calls, script_direct}
use Rattle.smp_run.specs.Answers.{says as says_of}
use Rattle.smp_run.proofs.Picking.{picked}

-- the calls that were queued, without their marks
sent_queued : (call : ℕ → Call) (queued : List Queued) → sent_of (sendings call queued) ≡ calls_to call (destinations queued)
sent_queued call [] = refl
sent_queued call (q ∷ qs) = ap (λ (l : List Sent). record { call = call q.to; to = q.to } ∷ l) (sent_queued call qs)

-- there are as many direct calls as before
as_long : (xs ys : List DirectCall) → ys ≡ xs → length ys ≡ length xs + 0
as_long xs ys e = let same = ap (λ (l : List DirectCall). length l) e in omega (arith, same)

-- one more was made, by a CPU that had made as many
abbrev entry : CpuValue → DirectCall
entry c = record { steps = c.steps; asked = length c.part.asked; logged = length c.log }

one_longer : (old mid new : CpuValue) → mid.direct ≡ old.direct → new.direct ≡ (notes_call mid).direct → length new.direct ≡ length old.direct + 1
one_longer old mid new e noted =
    ap (λ (l : List DirectCall). length l) noted ∙ (length_push mid.direct (entry mid) ∙ ap (λ (l : List DirectCall). length l + 1) e)

-- calls to these CPUs were queued, and direct calls made
called_to : (old new : MachineCpuValue) (call : ℕ → Call) (queued : List Queued) (to : List ℕ) (direct : ℕ)
    → new.calls.part.sent ≡ old.calls.part.sent ++ sendings call queued → destinations queued ≡ to
    → length new.calls.direct ≡ length old.calls.direct + direct → HasCalled (calls_to call to) direct old new
called_to old new call queued to direct e d here = record {
  sent = ap sent_of e ∙ (map-append _ old.calls.part.sent (sendings call queued)
      ∙ ap (λ (l : List Sent). sent_of old.calls.part.sent ++ l) (sent_queued call queued ∙ ap (λ (l : List ℕ). calls_to call l) d));
  direct_is = here;
}

-- none was queued
only_direct : (direct : ℕ) (old new : MachineCpuValue) → new.calls.part.sent ≡ old.calls.part.sent
    → length new.calls.direct ≡ length old.calls.direct + direct → HasCalled [] direct old new
only_direct direct old new e here = record { sent = ap sent_of e ∙ sym (append-nil (sent_of old.calls.part.sent)); direct_is = here }

-- and none was made
pub called_none : (old new : MachineCpuValue) → new.calls.part.sent ≡ old.calls.part.sent → new.calls.direct ≡ old.calls.direct → HasCalled [] 0 old new
called_none old new e d = only_direct 0 old new e (as_long old.calls.direct new.calls.direct d)

pub called_as_was : (old new : MachineCpuValue) → new.calls ≡ old.calls → HasCalled [] 0 old new
called_as_was old new e = called_none old new (ap (λ (c : CpuValue). c.part.sent) e) (ap (λ (c : CpuValue). c.direct) e)

called_nothing : (old new : MachineCpuValue) → new.calls.part.sent ≡ old.calls.part.sent ++ [] → new.calls.direct ≡ old.calls.direct → HasCalled [] 0 old new
called_nothing old new e d = called_none old new (e ∙ append-nil old.calls.part.sent) d

-- the same calls by another name
pub called_as : (xs ys : List Sent) (n k : ℕ) (old new : MachineCpuValue) → xs ≡ ys → n ≡ k → HasCalled xs n old new → HasCalled ys k old new
called_as xs ys n k old new e f c = subst (λ (x : List Sent × ℕ). HasCalled x.0 x.1 old new) (λ i. (e i, f i)) c

-- these calls, and then those
pub called_then : (xs ys : List Sent) (n k : ℕ) (old mid new : MachineCpuValue) → HasCalled xs n old mid → HasCalled ys k mid new
    → HasCalled (xs ++ ys) (n + k) old new
called_then xs ys n k old mid new f l = record {
  sent = l.sent ∙ (ap (λ (zs : List Sent). zs ++ ys) f.sent ∙ append_assoc (sent_of old.calls.part.sent) xs ys);
  direct_is = omega (arith, f.direct_is, l.direct_is);
}

-- a CPU is called that is this one, or another one
own_direct : (this dst : ℕ) → dst ≡ this → 1 ≡ one_if (dst == this)
own_direct this dst own = ap one_if (sym (eq-eqb dst this own))

other_direct : (this dst : ℕ) → dst ≢ this → 0 ≡ one_if (dst == this)
other_direct this dst other = ap one_if (sym (ne_eqb dst this other))

-- the queue of the CPU called, where it is online and another one
one_queue : (online this dst : ℕ) → has online dst ≡ true → dst ≢ this → queue_of_one online this dst ≡ dst ∷ []
one_queue online this dst there other = let e : (dst == this) ≡ false = ne_eqb dst this other in rw (there, e) refl

own_case : (b : Bool) (this dst : ℕ) → (dst == this) ≡ true → (if b && not (dst == this) then dst ∷ [] else []) ≡ []
own_case true this dst e = rw e refl
own_case false this dst e = refl

own_queue : (online this dst : ℕ) → dst ≡ this → queue_of_one online this dst ≡ []
own_queue online this dst own = own_case (has online dst) this dst (eq-eqb dst this own)

no_queue : (online this dst : ℕ) → has online dst ≡ false → queue_of_one online this dst ≡ []
no_queue online this dst off = rw off refl

-- a call to one CPU, by some record and of some class
module _ {H : Type 0} (leads : H → Heard → H → Type 0) where
  by_one : (online dst k func info : ℕ) (class : Class) (wait : Bool) (old new : MachineCpuValue) (h h' : H) → has online dst ≡ true
      → dst ≢ old.calls.number → CallsBy leads old.calls h new.calls h' k class dst func info wait
      → HasCalled (calls_to (λ _. call_by old.calls.number k class func info) (queue_of_one online old.calls.number dst))
      (one_if (dst == old.calls.number)) old new
  by_one online dst k func info class wait old new h h' there other c =
      called_as _ _ _ _ old new (ap (λ (l : List ℕ). calls_to (λ _. call_by old.calls.number k class func info) l)
      (sym (one_queue online old.calls.number dst there other))) (other_direct old.calls.number dst other)
      (called_to old new (λ _. call_by old.calls.number k class func info) c.0 (dst ∷ []) 0 c.2.sent_is c.1
      (as_long old.calls.direct new.calls.direct c.2.direct_is))

  -- to the own CPU, or to one that is not online
  by_none : (online dst direct : ℕ) (call : Call) (old new : MachineCpuValue) → queue_of_one online old.calls.number dst ≡ []
      → direct ≡ one_if (dst == old.calls.number) → HasCalled [] direct old new
      → HasCalled (calls_to (λ _. call) (queue_of_one online old.calls.number dst)) (one_if (dst == old.calls.number)) old new
  by_none online dst direct call old new none is c =
      called_as _ _ _ _ old new (ap (λ (l : List ℕ). calls_to (λ _. call) l) (sym none)) is c

  called_here : (func info : ℕ) (wait : Bool) (old new : MachineCpuValue) (h h' : H) → CallsHere leads old.calls h new.calls h' func info wait
      → HasCalled [] 1 old new
  called_here func info wait old new h h' c =
      only_direct 1 old new (ap (λ (x : CpuValue). x.part.sent) c.3 ∙ (c.2.sent_is ∙ append-nil old.calls.part.sent))
      (one_longer old.calls c.0 new.calls c.2.direct_is (ap (λ (x : CpuValue). x.direct) c.3))

  called_user_here : (u func info : ℕ) (old new : MachineCpuValue) (h h' : H) → CallsUserHere leads old.calls h new.calls h' u func info
      → HasCalled [] 1 old new
  called_user_here u func info old new h h' c =
      only_direct 1 old new (ap (λ (x : CpuValue). x.part.sent) c.0)
      (one_longer old.calls (looks (confirms (user_record u) old.calls)) new.calls refl (ap (λ (x : CpuValue). x.direct) c.0))

  pub single_called : (online dst func info : ℕ) (wait : Bool) (old new : MachineCpuValue) (h h' : H) (made : Result (Unit {0}) SmpError)
      → old.stops.inside ≡ None
      → IfOk made (λ _. dst ≢ old.calls.number → (has online dst ≡ true) × CallsOne leads old.calls h new.calls h' dst func info wait)
      → IfOk made (λ _. dst ≡ old.calls.number → CallsHere leads old.calls h new.calls h' func info wait)
      → IfErr made (λ e. RefusedInHand e old h new h' ⊎ ((old.stops.inside ≡ None) × (e ≡ error.NoCpu) × (dst ≢ old.calls.number)
      × (has online dst ≡ false) × QueuesNone leads old.calls h new.calls h' wait))
      → HasRequested online (Single wait dst func info) old new
  single_called online dst func info wait old new h h' (Ok u) free queued here refused = elim (cases_eq dst old.calls.number) [
    | inl own ↦ by_none online dst 1 _ old new (own_queue online old.calls.number dst own) (own_direct old.calls.number dst own)
        (called_here func info wait old new h h' (here own))
    | inr other ↦ let q = queued other in by_one online dst _ func info _ wait old new h h' q.0 other q.1
  ]
  single_called online dst func info wait old new h h' (Err e) free queued here (inl held) = absurd (held.in_hand free)
  single_called online dst func info wait old new h h' (Err e) free queued here (inr (_, is, other, off, none)) =
      by_none online dst 0 _ old new (no_queue online old.calls.number dst off) (other_direct old.calls.number dst other)
      (called_nothing old new none.sent_is none.direct_is)

  pub user_called : (online dst u func info : ℕ) (old new : MachineCpuValue) (h h' : H)
      → (dst ≢ old.calls.number → (has online dst ≡ true) × CallsBy leads old.calls h new.calls h' (user_record u) Async dst func info false)
      → (dst ≡ old.calls.number → CallsUserHere leads old.calls h new.calls h' u func info)
      → HasRequested online (User u dst func info) old new
  user_called online dst u func info old new h h' queued here = elim (cases_eq dst old.calls.number) [
    | inl own ↦ by_none online dst 1 _ old new (own_queue online old.calls.number dst own) (own_direct old.calls.number dst own)
        (called_user_here u func info old new h h' (here own))
    | inr other ↦ let q = queued other in by_one online dst _ func info _ false old new h h' q.0 other q.1
  ]

-- the members of a mask, by another test
members_passing : (mask : ℕ) (passes : ℕ → Bool) (n : ℕ) → ((c : ℕ) → c < n → has mask c ≡ passes c) → members_below mask n ≡ passing_below passes n
unfolding members_below passing_below
members_passing mask passes zero same = refl
members_passing mask passes (suc n) same =
    ap (λ (l : List ℕ). l ++ (if has mask n then n ∷ [] else [])) (members_passing mask passes n (λ c l. same c (omega (arith, l))))
    ∙ ap (λ (b : Bool). passing_below passes n ++ (if b then n ∷ [] else [])) (same n (omega arith))

passing_same : (p q : ℕ → Bool) (n : ℕ) → ((c : ℕ) → c < n → p c ≡ q c) → passing_below p n ≡ passing_below q n
unfolding passing_below
passing_same p q zero same = refl
passing_same p q (suc n) same =
    ap (λ (l : List ℕ). l ++ (if p n then n ∷ [] else [])) (passing_same p q n (λ c l. same c (omega (arith, l))))
    ∙ ap (λ (b : Bool). passing_below q n ++ (if b then n ∷ [] else [])) (same n (omega arith))

passing_none : (p : ℕ → Bool) (n : ℕ) → ((c : ℕ) → c < n → p c ≡ false) → passing_below p n ≡ []
unfolding passing_below
passing_none p zero none = refl
passing_none p (suc n) none =
    ap (λ (l : List ℕ). l ++ (if p n then n ∷ [] else [])) (passing_none p n (λ c l. none c (omega (arith, l))))
    ∙ ap (λ (b : Bool). if b then n ∷ [] else []) (none n (omega arith))

-- those that pass another test too
filter_one : (f : ℕ → Bool) (b : Bool) (n : ℕ) → filter f (if b then n ∷ [] else []) ≡ (if b && f n then n ∷ [] else [])
filter_one f true n = refl
filter_one f false n = refl

filter_members : (mask : ℕ) (f : ℕ → Bool) (n : ℕ) → filter f (members_below mask n) ≡ passing_below (λ c. has mask c && f c) n
unfolding members_below passing_below
filter_members mask f zero = refl
filter_members mask f (suc n) =
    filter-append f (members_below mask n) (if has mask n then n ∷ [] else [])
    ∙ (ap (λ (l : List ℕ). l ++ filter f (if has mask n then n ∷ [] else [])) (filter_members mask f n)
    ∙ ap (λ (l : List ℕ). passing_below (λ c. has mask c && f c) n ++ l) (filter_one f (has mask n) n))

-- the first of those that pass is the least
first_append : (xs ys : List ℕ) (x : ℕ) → first_only xs ≡ x ∷ [] → first_only (xs ++ ys) ≡ x ∷ []
first_append [] ys x e = absurd (cc e)
first_append (z ∷ zs) ys x e = e

first_passing : (p : ℕ → Bool) (n least : ℕ) → IsLeast p least → least < n → first_only (passing_below p n) ≡ least ∷ []
unfolding passing_below
first_passing p zero least is below = absurd (omega (arith, below))
first_passing p (suc n) least is below = elim (cases_eq least n) [
  | inl e ↦
      let none = passing_none p n (λ c l. false_from_ne_true (p c) (λ t. let le = is.least c t in omega (arith, l, le, e))) in
      let here : p n ≡ true = subst (λ (m : ℕ). p m ≡ true) e is.passing in
      rw (passing_below, none, here) (ap (λ (m : ℕ). m ∷ []) (sym e))
  | inr other ↦ first_append (passing_below p n) _ least (first_passing p n least is (omega (arith, below, other)))
]

-- a call to any CPU of a mask: to the own one, or to another
own_any : (online this mask : ℕ) → has mask this ≡ true → queue_of_any online this mask ≡ []
own_any online this mask own = rw own refl

other_any : (online this mask cpu : ℕ) → has mask this ≡ false → IsAny mask online this cpu → cpu < cpus → queue_of_any online this mask ≡ cpu ∷ []
other_any online this mask cpu lacks is below = rw lacks (first_passing (λ c. has mask c && has online c) cpus cpu (is.lowest lacks) below)

none_any : (online this mask : ℕ) → HasNone mask online this → queue_of_any online this mask ≡ []
none_any online this mask none =
    let empty = passing_none (λ c. has mask c && has online c) cpus (λ c l. none.none_online c) in
    let lacks = none.not_own in rw lacks (ap first_only empty)

-- a caller that the mask lacks is not the CPU that is called
not_own : (mask online this cpu : ℕ) → has mask this ≡ false → IsAny mask online this cpu → cpu ≢ this
not_own mask online this cpu lacks is own =
    let passing = (and_parts (has mask cpu) (has online cpu) (is.lowest lacks).passing).0 in
    cc (subst (λ (c : ℕ). has mask c ≡ true) own passing, lacks)

-- who says yes and is not the caller
other_picked : (mask online own says : Bool) → ((((mask && online) && not own) || ((true && mask) && own)) && says) && not own
    ≡ (((mask && online) && not own) || ((false && mask) && own)) && says
other_picked true true true true = refl
other_picked true true true false = refl
other_picked true true false true = refl
other_picked true true false false = refl
other_picked true false true true = refl
other_picked true false true false = refl
other_picked true false false true = refl
other_picked true false false false = refl
other_picked false true true true = refl
other_picked false true true false = refl
other_picked false true false true = refl
other_picked false true false false = refl
other_picked false false true true = refl
other_picked false false true false = refl
other_picked false false false true = refl
other_picked false false false false = refl

remote_passing : (mask online this : ℕ) (says : ℕ → Bool) (called : ℕ) → Picks (λ c answer. answer ≡ says c) (is_target mask online this true) called
    → remote this called ≡ cpus_with (λ c. is_target mask online this false c && says c)
remote_passing mask online this says called picks =
    filter_members called (λ c. not (c == this)) NR_CPUS
    ∙ passing_same (λ c. has called c && not (c == this)) (λ c. is_target mask online this false c && says c) NR_CPUS (λ c l.
    ap (λ (b : Bool). b && not (c == this)) (picked (is_target mask online this true) says called picks c l)
    ∙ other_picked (has mask c) (has online c) (c == this) (says c))

-- the caller is asked where the mask has it
own_asked : (mask online : Bool) → (((mask && online) && not true) || ((true && mask) && true)) ≡ mask
own_asked true true = refl
own_asked true false = refl
own_asked false true = refl
own_asked false false = refl

own_target : (mask online this : ℕ) → is_target mask online this true this ≡ has mask this
own_target mask online this =
    ap (λ (own : Bool). ((has mask this && has online this) && not own) || ((true && has mask this) && own)) (eq-eqb this this refl)
    ∙ own_asked (has mask this) (has online this)

own_picked : (mask online this : ℕ) (says : ℕ → Bool) (called : ℕ) → this < cpus
    → Picks (λ c answer. answer ≡ says c) (is_target mask online this true) called → has called this ≡ (has mask this && says this)
own_picked mask online this says called low picks =
    picked (is_target mask online this true) says called picks this low ∙ ap (λ (b : Bool). b && says this) (own_target mask online this)

module _ {H : Type 0} (leads : H → Heard → H → Type 0) where
  pub any_called : (online mask func info : ℕ) (wait : Bool) (old new : MachineCpuValue) (h h' : H) (made : Result ℕ SmpError) → old.stops.inside ≡ None
      → ((c : ℕ) → has online c ≡ true → c < cpus)
      → IfOk made (λ cpu. IsAny mask online old.calls.number cpu)
      → IfOk made (λ cpu. cpu ≢ old.calls.number → CallsOne leads old.calls h new.calls h' cpu func info wait)
      → IfOk made (λ cpu. cpu ≡ old.calls.number → CallsHere leads old.calls h new.calls h' func info wait)
      → IfErr made (λ e. RefusedInHand e old h new h' ⊎ ((old.stops.inside ≡ None) × (e ≡ error.NoCpu) × HasNone mask online old.calls.number
      × (new.calls ≡ old.calls) × (h' ≡ h)))
      → HasRequested online (Any wait mask func info) old new
  any_called online mask func info wait old new h h' (Ok cpu) free low is queued here refused =
      let call : ℕ → Call = λ _. call_by old.calls.number (single_record wait) (class_for wait) func info in
      elim (cases_Bool (has mask old.calls.number)) [
        | inl own ↦ called_as _ _ _ _ old new (ap (λ (l : List ℕ). calls_to call l) (sym (own_any online old.calls.number mask own)))
            (ap one_if (sym own)) (called_here leads func info wait old new h h' (here (is.own own)))
        | inr lacks ↦
            let c = queued (not_own mask online old.calls.number cpu lacks is) in
            let there = (and_parts (has mask cpu) (has online cpu) (is.lowest lacks).passing).1 in
            called_as _ _ _ _ old new (ap (λ (l : List ℕ). calls_to call l) (sym (other_any online old.calls.number mask cpu lacks is (low cpu there))))
            (ap one_if (sym lacks))
            (called_to old new call c.0 (cpu ∷ []) 0 c.2.sent_is c.1 (as_long old.calls.direct new.calls.direct c.2.direct_is))
      ]
  any_called online mask func info wait old new h h' (Err e) free low is queued here (inl held) = absurd (held.in_hand free)
  any_called online mask func info wait old new h h' (Err e) free low is queued here (inr (_, error_is, none, same, kept)) =
      called_as _ _ _ _ old new (ap (λ (l : List ℕ). calls_to (λ _. call_by old.calls.number (single_record wait) (class_for wait) func info) l)
      (sym (none_any online old.calls.number mask none))) (ap one_if (sym none.not_own)) (called_as_was old new same)

  -- the calls of a call to many, whether it runs its function on the own CPU too or not
  with_sent : (old new : CpuValue) (h h' : H) (call : ℕ → Call) (queued : List Queued) (here : Option Heard) (wait : Bool)
      → CallsWith leads old h new h' call queued here wait → new.part.sent ≡ old.part.sent ++ sendings call queued
  with_sent old new h h' call queued None wait c = c.sent_is
  with_sent old new h h' call queued (Some heard) wait c =
      c.later.sent_is ∙ (append-nil c.middle.part.sent ∙ c.first.sent_is)

  -- and its direct call, where it does
  with_direct : (old new : CpuValue) (h h' : H) (call : ℕ → Call) (queued : List Queued) (here : Bool) (heard : Heard) (wait : Bool)
      → CallsWith leads old h new h' call queued (if here then Some heard else None) wait → length new.direct ≡ length old.direct + one_if here
  with_direct old new h h' call queued false heard wait c = as_long old.direct new.direct c.direct_is
  with_direct old new h h' call queued true heard wait c =
      one_longer old c.middle new c.first.direct_is c.later.direct_is

  pub many_called : (online mask func info : ℕ) (wait : Bool) (old new : MachineCpuValue) (h h' : H) (made : Result ℕ SmpError) → old.stops.inside ≡ None
      → IfOk made (λ called. (c : ℕ) → has called c ≡ is_target mask online old.calls.number false c)
      → IfOk made (λ called. CallsMany leads old.calls h new.calls h' (members called) (class_for wait) func info None wait)
      → IfErr made (λ e. RefusedInHand e old h new h')
      → HasRequested online (Many wait mask func info) old new
  many_called online mask func info wait old new h h' (Ok called) free targets c refused =
      let call = many_call old.calls.number (class_for wait) func info in
      called_to old new call c.0 _ 0 c.2.sent_is
      (c.1 ∙ members_passing called (is_target mask online old.calls.number false) NR_CPUS (λ i l. targets i))
      (as_long old.calls.direct new.calls.direct c.2.direct_is)
  many_called online mask func info wait old new h h' (Err e) free targets c refused = absurd (refused.in_hand free)

  pub cond_called : (online mask func info : ℕ) (which : Which) (heard : Heard) (wait : Bool) (old new : MachineCpuValue) (h h' : H)
      (made : Result ℕ SmpError) → old.stops.inside ≡ None → old.calls.number < cpus
      → IfOk made (λ called. Picks (λ c answer. answer ≡ says_of which c) (is_target mask online old.calls.number true) called)
      → IfOk made (λ called. CallsMany leads old.calls h new.calls h' (remote old.calls.number called) (class_for wait) func info
      (if has called old.calls.number then Some heard else None) wait)
      → IfErr made (λ e. RefusedInHand e old h new h')
      → HasRequested online (Cond which wait mask func info) old new
  cond_called online mask func info which heard wait old new h h' (Ok called) free low picks c refused =
      let this = old.calls.number in let call = many_call this (class_for wait) func info in
      called_as _ _ _ _ old new refl (ap one_if (own_picked mask online this (says_of which) called low picks))
      (called_to old new call c.0 _ (one_if (has called this))
      (with_sent old.calls new.calls h h' call c.0 (if has called this then Some heard else None) wait c.2)
      (c.1 ∙ remote_passing mask online this (says_of which) called picks)
      (with_direct old.calls new.calls h h' call c.0 (has called this) heard wait c.2))
  cond_called online mask func info which heard wait old new h h' (Err e) free low picks c refused = absurd (refused.in_hand free)

-- the calls of one line more
pub script_more : (m now : MachineValue) (old mid new : MachineCpuValue) (lines : List Directive) (at : ℕ) (line : Directive) → at < length lines
    → line ≡ slice_index_or lines at line → now ≡ m → mid.calls.number ≡ old.calls.number
    → HasCalled (script_calls m.calls.online old.calls.number (take at lines)) (script_direct old.calls.number (take at lines)) old mid
    → HasCalled (line_calls now.calls.online mid.calls.number line) (line_direct mid.calls.number line) mid new
    → HasCalled (script_calls m.calls.online old.calls.number (take (at + 1) lines)) (script_direct old.calls.number (take (at + 1) lines)) old new
script_more m now old mid new lines at line below is same number s more =
    let f : Directive → List Sent = line_calls m.calls.online old.calls.number in
    let n : Directive → ℕ = line_direct old.calls.number in
    let here : HasCalled (f line) (n line) mid new =
    subst (λ (k : ℕ). HasCalled (line_calls m.calls.online k line) (line_direct k line) mid new) number
    (subst (λ (x : MachineValue). HasCalled (line_calls x.calls.online mid.calls.number line) (line_direct mid.calls.number line) mid new) same more) in
    let grown : take (at + 1) lines ≡ take at lines ++ line ∷ [] =
    take_more lines at line below ∙ ap (λ (l : Directive). take at lines ++ l ∷ []) (sym is) in
    called_as _ _ _ _ old new (flat_map_more f [] (take at lines) line ∙ ap (λ (l : List Directive). flat_map f l) (sym grown))
    (sym (ap (λ (l : List Directive). sum_by n l) grown ∙ sum_by_push n (take at lines) line))
    (called_then (flat_map f (take at lines)) (f line) (sum_by n (take at lines)) (n line) old mid new s here)

-- the calls of a request once more
pub repeat_more : (m now : MachineValue) (old mid new : MachineCpuValue) (request : Request) (n : ℕ) → now ≡ m → mid.calls.number ≡ old.calls.number
    → HasCalled (repeated n (request_calls m.calls.online old.calls.number request)) (n * request_direct old.calls.number request) old mid
    → HasRequested now.calls.online request mid new
    → HasCalled (repeated (suc n) (request_calls m.calls.online old.calls.number request)) (suc n * request_direct old.calls.number request) old new
unfolding repeated
repeat_more m now old mid new request n same number s more =
    let calls = request_calls m.calls.online old.calls.number request in let k = request_direct old.calls.number request in
    let here : HasCalled calls k mid new =
    subst (λ (i : ℕ). HasCalled (request_calls m.calls.online i request) (request_direct i request) mid new) number
    (subst (λ (x : MachineValue). HasCalled (request_calls x.calls.online mid.calls.number request) (request_direct mid.calls.number request) mid new) same
    more) in
    called_as _ _ _ _ old new refl (sym (suc-mul n k)) (called_then (repeated n calls) calls (n * k) k old mid new s here)

-- those of none
pub repeat_none : (old : MachineCpuValue) (xs : List Sent) (k : ℕ) → HasCalled (repeated 0 xs) (0 * k) old old
unfolding repeated
repeat_none old xs k = called_as _ _ _ _ old old refl (sym (zero-mul k)) (called_none old old refl refl)
