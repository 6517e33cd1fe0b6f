-- What the lowest CPU of a run has done, once it has polled, and once it has read the labels.
use Rattle.std.proofs.Common.{◌≡◌, ℕ, suc, ◌+◌, ◌%◌, ◌^◌, ◌==◌, Bool, true, false, if◌then◌else◌, List, [], ◌∷◌, ◌++◌, cond, filter, length, inl, inr}
use Rattle.std.proofs.Common.{refl, sym, ap, subst, ◌∙◌, arith}
use Rattle.std.specs.List.{flat_map}
use Rattle.std.proofs.lemmas.Fn.{chained_keeps}
use Rattle.std.proofs.lemmas.List.{append-nil}
use Rattle.smp_words.specs.declared.call.Call.{Call}
use Rattle.smp_call_steps.specs.Histories.{Marked, orders, sent_to}
use Rattle.smp_call_steps.specs.declared.known.Sending.{Sending}
use Rattle.smp_queue.specs.Audit.{HasRowsOf, IfDrained}
use Rattle.smp_queue.specs.Cpu.{CpuValue as CallCpuValue}
use Rattle.smp_queue.specs.declared.audit.Audit.{Audit}
use Rattle.smp_queue.specs.declared.audit.Audit.TheVariants.{Drained, Left}
use Rattle.smp_multi.specs.Cpu.{CpuValue as StopCpuValue}
use Rattle.smp_multi.specs.Names.{Reading}
use Rattle.smp_queue.specs.Handling.{heard_of}
use Rattle.smp_queue.specs.declared.handler.Heard.{Heard}
use Rattle.smp_calls.specs.Handles.{Handles, batches}
use Rattle.smp_multi.specs.declared.func.Called.{Called}
use Rattle.smp_machine.specs.Crews.{IsPlayed}
use Rattle.smp_machine.specs.MachineCpu.{MachineValue, MachineCpuValue, fresh_place}
use Rattle.smp_machine.specs.Members.{AreFor}
use Rattle.smp_machine.specs.Own.{own_of}
use Rattle.smp_machine.specs.Seats.{SeatValue}
use Rattle.smp_machine.specs.declared.crew.Played.{Played}
use Rattle.smp_script.specs.declared.directive.Directive.{Directive}
use Rattle.smp_run.specs.Driven.{HasRunLines, IsDriven, MakesLines}
use Rattle.smp_run.specs.Made.{HasMade, HasPlayed, stops_of}
use Rattle.smp_run.specs.Readings.{HasRead}
use Rattle.smp_run.specs.Runs.{HasAsked}
use Rattle.smp_run.specs.Sent.{Sent, HasCalled, HasWaited, sent_of, script_calls, script_direct}
use Rattle.smp_run.specs.declared.answer.Answer.{Answer}
use Rattle.smp_run.specs.Answers.{Answered}
use Rattle.smp_run.specs.Seats.{IsSeated, keys_at}
use Rattle.smp_run.proofs.Making.{made_as, made_polled, made_then}
use Rattle.smp_run.proofs.Sending.{called_as, called_then}
use Rattle.smp_run.proofs.Staying.{called_worked, still_worked}
use Rattle.smp_run.proofs.Waiting.{waited_worked, waits_still}

-- a new CPU has made its lines, and then polled
pub run_polled : (m : MachineValue) (lines : List Directive) (answers : List Answer) (old mid new : MachineCpuValue) → old ≡ fresh_place m old.calls.number
    → new.calls.number ≡ old.calls.number → HasCalled (script_calls m.calls.online old.calls.number lines) (script_direct old.calls.number lines) old mid
    → HasPlayed m lines answers old mid → HasCalled [] 0 mid new → HasMade [] mid new → HasWaited new → HasRunLines m lines answers new
run_polled m lines answers old mid new fresh number sent played none still waited =
    let this = old.calls.number in let calls = script_calls m.calls.online this lines in
    let direct = script_direct this lines in
    let all : HasCalled calls direct (fresh_place m this) new =
    subst (λ (p : MachineCpuValue). HasCalled calls direct p new) fresh (called_as (calls ++ []) calls (direct + 0) direct old new (append-nil calls)
    (omega arith) (called_then calls [] direct 0 old mid new sent none)) in
    let none_before : 0 + direct ≡ direct = omega arith in
    let stops = flat_map stops_of played.made in
    let done : HasPlayed m lines answers old new = record {
      made = played.made;
      lines_are = played.lines_are;
      stops = made_as (stops ++ []) stops old new (append-nil stops) (made_then stops [] old mid new played.stops still);
    } in
    let kept : HasPlayed m lines answers (fresh_place m this) new = subst (λ (p : MachineCpuValue). HasPlayed m lines answers p new) fresh done in
    record {
      sent = subst (λ (k : ℕ). sent_of new.calls.part.sent ≡ script_calls m.calls.online k lines) (sym number) all.sent;
      direct = subst (λ (k : ℕ). length new.calls.direct ≡ script_direct k lines) (sym number) (all.direct_is ∙ none_before);
      waited = waited;
      played = subst (λ (k : ℕ). HasPlayed m lines answers (fresh_place m k) new) (sym number) kept;
    }

-- a seat that was made for a CPU, and given up once it has made its lines
pub made_back : {H F : Type 0} (lines : List Directive) (answers : H → List Answer) (m : MachineValue) (cpu : MachineCpuValue) (h : H) (f : F)
    (start made : SeatValue H F) (back : MachineCpuValue) (h' : H) → start ≡ record { machine = m; cpu = cpu; handler = h; functions = f }
    → MakesLines start.machine lines (answers made.handler) start.cpu made.cpu → back ≡ made.cpu → h' ≡ made.handler
    → MakesLines m lines (answers h') cpu back
made_back {H} {F} lines answers m cpu h f start made back h' is makes cpu_is handler_is =
    subst (λ (p : MachineCpuValue). MakesLines m lines (answers h') cpu p) (sym cpu_is)
    (subst (λ (x : H). MakesLines m lines (answers x) cpu made.cpu) (sym handler_is)
    (subst (λ (s : SeatValue H F). MakesLines s.machine lines (answers made.handler) s.cpu made.cpu) is makes))

-- by a handler whose calls keep the answers to its CPU's lines
module _ {H F : Type 0} (hears : H → Heard → H → Type 0) (runs : F → Called → F → Type 0) (answers : H → List Answer)
    (keeps : (p : H) (call : Heard) (q : H) → hears p call q → answers q ≡ answers p) where
  kept_one : (first : List Answer) (xs : List Call) (q : H) (call : Call) (v : H) → answers q ≡ first → hears q (heard_of call) v → answers v ≡ first
  kept_one first xs q call v is led = keeps q (heard_of call) v led ∙ is

  answers_kept : (old new : CallCpuValue) (before after : H) → Handles hears old before new after → answers after ≡ answers before
  answers_kept old new before after made =
      chained_keeps (λ p call q. hears p (heard_of call) q) (λ xs q. answers q ≡ answers before) (kept_one (answers before))
      (orders (batches made.turns)) before after refl made.grows

  -- what the part of a CPU promises
  abbrev pub Plays : List Directive → SeatValue H F → SeatValue H F → Type 0
  Plays lines old new = MakesLines old.machine lines (answers new.handler) old.cpu new.cpu

  -- a CPU that has made its lines has made them still, once it has polled
  driven_is : {A : Type 0} (begins : ℕ → H → F → Type 0) (leaves : ℕ → Type 0) (m : MachineValue) (lines : List Directive) (n : ℕ) (b : Played H F A)
      → IsPlayed hears runs begins (Plays lines) leaves m n b → IsDriven m lines n (answers b.handler) b.cpu
  driven_is begins leaves m lines n b p =
      let made : MakesLines m lines (answers p.played.handler) (fresh_place m n) p.played.cpu = p.part in
      let mid = p.played.cpu in let h = p.played.handler in let f = p.played.functions in let own = own_of mid in
      let kept : answers b.handler ≡ answers h = answers_kept mid.calls b.cpu.calls h b.handler p.polled.handled in
      let seated : IsSeated m b.cpu = elim p.ended [
        | inl outside ↦ (still_worked hears runs m mid b.cpu h b.handler f b.functions own p.polled outside made.seated).seated
        | inr left ↦ subst (λ (x : MachineCpuValue). IsSeated m x) (sym (ap (λ (s : SeatValue H F). s.cpu) left.1)) made.seated
      ] in
      let run : HasRunLines m lines (answers h) b.cpu =
      run_polled m lines (answers h) (fresh_place m n) mid b.cpu refl p.number_is made.sent made.played
      (called_worked hears runs mid b.cpu h b.handler f b.functions own p.polled) (made_polled hears runs mid b.cpu h b.handler f b.functions p.polled)
      (waited_worked hears runs mid b.cpu h b.handler f b.functions own p.polled made.waited) in
      record {
        seated = seated;
        number_is = p.number_is;
        answered = subst (λ (xs : List Answer). Answered m.calls.online (keys_at m) (λ c. c ≡ n) lines xs) (sym kept) made.answered;
        run = subst (λ (xs : List Answer). HasRunLines m lines xs b.cpu) (sym kept) run;
        shown = record { calls = p.shown.calls; stops = p.shown.stops };
      }

  pub are_driven : {A : Type 0} (begins : ℕ → H → F → Type 0) (leaves : ℕ → Type 0) (m : MachineValue) (lines : List Directive) (numbers : List ℕ)
      (back : List (Played H F A)) → AreFor (λ n b. IsPlayed hears runs begins (Plays lines) leaves m n b) numbers back
      → AreFor (λ n b. IsDriven m lines n (answers b.handler) b.cpu) numbers back
  are_driven begins leaves m lines [] [] all = tt
  are_driven begins leaves m lines (n ∷ ns) (b ∷ bs) all = (driven_is begins leaves m lines n b all.0, are_driven begins leaves m lines ns bs all.1)
  are_driven begins leaves m lines [] (b ∷ bs) all = absurd all
  are_driven begins leaves m lines (n ∷ ns) [] all = absurd all

-- it has read since
pub run_read : (m : MachineValue) (lines : List Directive) (answers : List Answer) (old new : MachineCpuValue) (readings : List Reading)
    → HasRead m old new readings → HasRunLines m lines answers old → HasRunLines m lines answers new
run_read m lines answers old new readings read run =
    let played = run.played in
    let kept : HasPlayed m lines answers (fresh_place m old.calls.number) new = record {
      made = played.made;
      lines_are = played.lines_are;
      stops = record {
        begun = ap (λ (c : StopCpuValue). c.part.begun) read.stops_are ∙ played.stops.begun;
        collected = ap (λ (c : StopCpuValue). c.part.collected) read.stops_are ∙ played.stops.collected;
      };
    } in
    record {
      sent = subst (λ (c : CallCpuValue). sent_of c.part.sent ≡ script_calls m.calls.online c.number lines) (sym read.calls_are) run.sent;
      direct = subst (λ (c : CallCpuValue). length c.direct ≡ script_direct c.number lines) (sym read.calls_are) run.direct;
      waited = waits_still old new read.calls_are run.waited;
      played = subst (λ (c : CallCpuValue). HasPlayed m lines answers (fresh_place m c.number) new) (sym read.calls_are) kept;
    }

-- the calls to one CPU, with their marks and without
count_one : (b : Bool) (x : Marked) (xs : List Marked) (y : Sent) (ys : List Sent) → length xs ≡ length ys
    → length (if b then x ∷ xs else xs) ≡ length (cond b (y ∷ ys) ys)
count_one true x xs y ys e = ap suc e
count_one false x xs y ys e = e

count_sent : (to : ℕ) (xs : List Sending) → length (sent_to to xs) ≡ length (filter (λ s. s.to == to) (sent_of xs))
count_sent to [] = refl
count_sent to (x ∷ xs) = count_one (x.to == to) _ (sent_to to xs) _ (filter (λ s. s.to == to) (sent_of xs)) (count_sent to xs)

-- the rows of the last CPU are of what its lines ask for
pub has_asked : (m : MachineValue) (lines : List Directive) (answers : List Answer) (last : MachineCpuValue) (ending : Audit)
    → HasRunLines m lines answers last → IfDrained ending (HasRowsOf last.calls) → IfDrained ending (HasAsked m.calls.online last.calls.number lines)
has_asked m lines answers last (Drained t) run rows = λ to below.
    (rows to below).0 ∙ ap (λ (n : ℕ). n % 2 ^ 64) (count_sent to last.calls.part.sent
    ∙ ap (λ (xs : List Sent). length (filter (λ s. s.to == to) xs)) run.sent)
has_asked m lines answers last (Left l) run rows = tt
