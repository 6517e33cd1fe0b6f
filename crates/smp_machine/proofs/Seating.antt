-- The CPUs of a machine, as they are put together one after the other.
use Rattle.std.proofs.Common.{◌≡◌, ◌≢◌, ℕ, ◌+◌, ◌<◌, ◌≤◌, Bool, true, false, if◌then◌else◌, Option, Some, None, List, [], ◌∷◌, ◌++◌, length}
use Rattle.std.proofs.Common.{length-append, get_or, map, subst}
use Rattle.std.specs.Prelude.{IfSome, is_some}
use Rattle.std.proofs.Math.ListN.{get_or-map}
use Rattle.std.proofs.Common.{sym, refl, ap, ◌∙◌, inl, inr, arith}
use Rattle.std.specs.List.{remove}
use Rattle.std.proofs.lemmas.List.{get_or_push, get_or_append_left, get_or-set_other, get_or_default}
use Rattle.std.proofs.lemmas.List.Edits.{length-remove}
use Rattle.std.proofs.lemmas.Bool.{cases_eq}
use Rattle.smp_mask.specs.Mask.{has}
use Rattle.smp_words.specs.Limits.{AreLimits}
use Rattle.smp_words.specs.Size.{cpus}
use Rattle.smp_queue.specs.Cpu as call
use Rattle.smp_multi.specs.Cpu as stop
use Rattle.smp_machine.specs.Passes.{PassesValue, AreFresh}
use Rattle.smp_machine.specs.MachineCpu.{MachineValue, MachineCpuValue, fresh_place, AreWaiting}
use Rattle.smp_machine.proofs.Made.{fresh_rest}

-- the parts of the CPUs from n on are left, and of the CPUs below n those online are kept
pub record AreSeated (m : MachineValue) (n : ℕ) (calls : call.BootValue) (stops : stop.BootValue) (passes : List PassesValue)
    (waiting : List (Option MachineCpuValue)) : Type 0 where
  pub calls_table : calls.table ≡ m.calls
  pub calls_left : (cpu : ℕ) → n ≤ cpu → has m.calls.online cpu ≡ true → call.is_left calls cpu ≡ true
  pub stops_table : stops.table ≡ m.stops.table
  pub stops_setting : stops.setting ≡ m.stops.setting
  pub stops_online : m.stops.setting.online ≡ m.calls.online
  pub stops_left : (cpu : ℕ) → n ≤ cpu → has m.calls.online cpu ≡ true → stop.is_left stops cpu ≡ true
  pub passes_sized : length passes + n ≡ cpus
  pub passes_left : AreFresh m.queues n passes
  pub count : length waiting ≡ n
  pub each : (cpu : ℕ) → cpu < n → get_or waiting cpu None ≡ (if has m.calls.online cpu then Some (fresh_place m cpu) else None)

calls_past : (b : Bool) (n cpu : ℕ) (calls : call.BootValue) → cpu ≢ n → call.is_left (if b then call.given n calls else calls) cpu ≡ call.is_left calls cpu
calls_past true n cpu calls other = get_or-set_other calls.left n cpu false false other
calls_past false n cpu calls other = refl

stops_past : (b : Bool) (n cpu : ℕ) (stops : stop.BootValue) → cpu ≢ n → stop.is_left (if b then stop.given n stops else stops) cpu ≡ stop.is_left stops cpu
stops_past true n cpu stops other = get_or-set_other stops.left n cpu false false other
stops_past false n cpu stops other = refl

calls_table_kept : (b : Bool) (n : ℕ) (calls : call.BootValue) → (if b then call.given n calls else calls).table ≡ calls.table
calls_table_kept true n calls = refl
calls_table_kept false n calls = refl

stops_table_kept : (b : Bool) (n : ℕ) (stops : stop.BootValue) → (if b then stop.given n stops else stops).table ≡ stops.table
stops_table_kept true n stops = refl
stops_table_kept false n stops = refl

stops_setting_kept : (b : Bool) (n : ℕ) (stops : stop.BootValue) → (if b then stop.given n stops else stops).setting ≡ stops.setting
stops_setting_kept true n stops = refl
stops_setting_kept false n stops = refl

pub seated_none : (m : MachineValue) (calls : call.BootValue) (stops : stop.BootValue) (passes : List PassesValue) (waiting : List (Option MachineCpuValue))
    → m.stops.setting.online ≡ m.calls.online → call.IsFull calls m.calls → stop.IsFull stops m.stops.table m.stops.setting
    → length passes ≡ cpus → AreFresh m.queues 0 passes → waiting ≡ [] → AreSeated m 0 calls stops passes waiting
seated_none m calls stops passes waiting online c s sized fresh none = record {
  calls_table = c.table_is;
  calls_left = λ cpu l e. c.left_are cpu e;
  stops_table = s.table_is;
  stops_setting = s.setting_is;
  stops_online = online;
  stops_left = λ cpu l e. s.left_are cpu (ap (λ (mask : ℕ). has mask cpu) online ∙ e);
  passes_sized = omega arith;
  passes_left = fresh;
  count = ap length none;
  each = λ cpu l. absurd (omega arith);
}

pub seated_more : (m : MachineValue) (n : ℕ) (calls calls' : call.BootValue) (stops stops' : stop.BootValue) (passes passes' : List PassesValue)
    (waiting waiting' : List (Option MachineCpuValue)) (x : Option MachineCpuValue) (b : Bool) → n < cpus → b ≡ has m.calls.online n
    → AreSeated m n calls stops passes waiting → calls' ≡ (if b then call.given n calls else calls) → stops' ≡ (if b then stop.given n stops else stops)
    → passes' ≡ remove passes 0
    → x ≡ (if b then Some (fresh_place m n) else None) → waiting' ≡ waiting ++ x ∷ [] → AreSeated m (n + 1) calls' stops' passes' waiting'
seated_more m n calls calls' stops stops' passes passes' waiting waiting' x b low is s c_is s_is p_is x_is w_is =
    let passes_sized : length passes + n ≡ cpus = s.passes_sized in
    let shorter : length (remove passes 0) + 1 ≡ length passes = length-remove passes 0 (omega arith) in
    let count : length waiting ≡ n = s.count in
    rw c_is (rw s_is (rw p_is (rw w_is (record {
      calls_table = calls_table_kept b n calls ∙ s.calls_table;
      calls_left = λ cpu l e. calls_past b n cpu calls (λ k. omega arith) ∙ s.calls_left cpu (omega arith) e;
      stops_table = stops_table_kept b n stops ∙ s.stops_table;
      stops_setting = stops_setting_kept b n stops ∙ s.stops_setting;
      stops_online = s.stops_online;
      stops_left = λ cpu l e. stops_past b n cpu stops (λ k. omega arith) ∙ s.stops_left cpu (omega arith) e;
      passes_sized = omega arith;
      passes_left = fresh_rest m.queues n passes s.passes_left;
      count = length-append waiting (x ∷ []) ∙ omega arith;
      each = λ cpu l. elim (cases_eq cpu n) [
        | inl e ↦ get_or_push waiting x None cpu (count ∙ sym e)
            ∙ (x_is ∙ (ap (λ (y : Bool). if y then Some (fresh_place m n) else None) is
            ∙ ap (λ (j : ℕ). if has m.calls.online j then Some (fresh_place m j) else None) (sym e)))
        | inr ne ↦ get_or_append_left waiting (x ∷ []) None cpu (omega arith) ∙ s.each cpu (omega arith)
      ];
    }))))

-- what is at a CPU that is online, once all are seated
seat_is : (m : MachineValue) (n : ℕ) (calls : call.BootValue) (stops : stop.BootValue) (passes : List PassesValue) (waiting : List (Option MachineCpuValue))
    → AreLimits m.calls.nr m.calls.online → cpus ≤ n → AreSeated m n calls stops passes waiting → (cpu : ℕ) → has m.calls.online cpu ≡ true
    → (cpu < length waiting) × (get_or waiting cpu None ≡ Some (fresh_place m cpu))
seat_is m n calls stops passes waiting limits all s cpu e =
    let below = limits.below cpu e in
    let few = limits.within in
    let count : length waiting ≡ n = s.count in
    (omega arith, s.each cpu (omega arith) ∙ ap (λ (b : Bool). if b then Some (fresh_place m cpu) else None) e)

-- once all are seated, all that are online wait fresh
pub seats_wait : (m : MachineValue) (online n : ℕ) (calls : call.BootValue) (stops : stop.BootValue) (passes : List PassesValue)
    (waiting : List (Option MachineCpuValue))
    → online ≡ m.calls.online → AreLimits m.calls.nr m.calls.online → cpus ≤ n → AreSeated m n calls stops passes waiting → AreWaiting m online waiting
seats_wait m online n calls stops passes waiting is limits all s = record {
  online_is = is;
  sized = λ cpu e. (seat_is m n calls stops passes waiting limits all s cpu (ap (λ (mask : ℕ). has mask cpu) (sym is) ∙ e)).0;
  fresh_are = λ cpu e. subst (λ o. IfSome o (λ c. c ≡ fresh_place m cpu))
      (sym (seat_is m n calls stops passes waiting limits all s cpu (ap (λ (mask : ℕ). has mask cpu) (sym is) ∙ e)).1) refl;
}

-- whether the CPU of a number is left, by what waits there
pub left_is : (waiting : List (Option MachineCpuValue)) (cpu : ℕ) (o : Option MachineCpuValue) → get_or waiting cpu None ≡ o
    → get_or (map is_some waiting) cpu false ≡ is_some o
left_is waiting cpu o e = get_or-map is_some waiting cpu None ∙ ap is_some e

-- and are left
pub seats_left : (m : MachineValue) (n : ℕ) (calls : call.BootValue) (stops : stop.BootValue) (passes : List PassesValue)
    (waiting : List (Option MachineCpuValue))
    → AreLimits m.calls.nr m.calls.online → cpus ≤ n → AreSeated m n calls stops passes waiting
    → (cpu : ℕ) → has m.calls.online cpu ≡ true → get_or (map is_some waiting) cpu false ≡ true
seats_left m n calls stops passes waiting limits all s cpu e =
    left_is waiting cpu (Some (fresh_place m cpu)) (seat_is m n calls stops passes waiting limits all s cpu e).1

-- the CPU that waits at a number, as it is taken out
pub taken_from : (waiting : List (Option MachineCpuValue)) (cpu : ℕ) (o now : Option MachineCpuValue) → cpu < length waiting → o ≡ now
    → now ≡ get_or waiting cpu now → get_or waiting cpu None ≡ o
taken_from waiting cpu o now low e f = sym (e ∙ (f ∙ get_or_default waiting cpu now None low))

-- is fresh
pub waits_fresh : (m : MachineValue) (online : ℕ) (waiting : List (Option MachineCpuValue)) (cpu : ℕ) (c : MachineCpuValue)
    → AreWaiting m online waiting → has online cpu ≡ true → get_or waiting cpu None ≡ Some c → c ≡ fresh_place m cpu
waits_fresh m online waiting cpu c w h e = subst (λ o. IfSome o (λ c. c ≡ fresh_place m cpu)) e (w.fresh_are cpu h)
