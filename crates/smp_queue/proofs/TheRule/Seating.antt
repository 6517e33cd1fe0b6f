-- The CPUs of a table, as they are seated one after the other.
use Rattle.std.proofs.Common.{◌≡◌, ℕ, zero, suc, refl, ◌+◌, ◌<◌, ◌≤◌, true, false, cond, Option, Some, None, List, [], ◌∷◌, ◌++◌, length}
use Rattle.std.proofs.Common.{length-append, get_or, map, sym, ap}
use Rattle.std.proofs.Common.{◌∙◌, subst, arith, inl, inr}
use Rattle.std.specs.Prelude.{IfSome, is_some}
use Rattle.std.proofs.lemmas.List.{get_or_push, get_or_append_left, get_or_default}
use Rattle.std.proofs.lemmas.Bool.{cases_eq}
use Rattle.std.proofs.Math.ListN.{get_or-map}
use Rattle.atomic_table.specs.Seated.{TableId}
use Rattle.smp_mask.specs.Mask.{has}
use Rattle.smp_words.specs.Limits.{AreLimits}
use Rattle.smp_queue.specs.{cells, TableValue, CpuValue, fresh_cpu, table_with, AreWaiting, CallSetting, CallSeatView, HasComeTo, next_online}
use Rattle.smp_words.specs.Size.{cpus, records, records_of_one, record_of}
use Rattle.smp_words.proofs.Sizes.{record_of-below}
use Rattle.smp_call_steps.specs.Threads.Parts.{row}
use Rattle.smp_call_steps.proofs.Basics.Rows.{row-at}
use Rattle.smp_queue.specs.Cpu.{confirmed_at}
use Rattle.smp_queue.proofs.TheRule.Keeps.{next_is}

-- where the first seat has come to a CPU that is online, the next seat is its
pub come_next : {maker : CallSeatView} (k : CallSetting) {n : ℕ} → (come : HasComeTo maker k n) → n < cpus → has k.online n ≡ true → next_online k come.0 ≡ n
come_next k {n} come small online = next_is cpus k.online come.0 n come.2 (omega arith) online come.3

-- the CPUs below n that are online have a seat, and are kept
pub record AreSeated (table maker_table : TableId) (maker : CallSeatView) (k : CallSetting) (n : ℕ) (waiting : List (Option CpuValue)) : Type 0 where
  pub sized : table.words ≡ cells
  pub maker_is : maker_table ≡ table
  pub next : HasComeTo maker k n
  pub count : length waiting ≡ n
  pub each : (cpu : ℕ) → cpu < n → get_or waiting cpu None ≡ cond (has k.online cpu) (Some (fresh_cpu (table_with table k) cpu)) None

pub seats_more : (table maker_table maker_table' : TableId) (maker maker' : CallSeatView) (k : CallSetting) (n : ℕ) (waiting waiting' : List (Option CpuValue))
    (x : Option CpuValue) → AreSeated table maker_table maker k n waiting →
    maker_table' ≡ table → HasComeTo maker' k (n + 1) → waiting' ≡ waiting ++ x ∷ [] → x ≡ cond (has k.online n) (Some (fresh_cpu (table_with table k) n)) None
    → AreSeated table maker_table' maker' k (n + 1) waiting'
seats_more table maker_table maker_table' maker maker' k n waiting waiting' x s is next pushed kept =
    let count : length waiting ≡ n = s.count in
    search (count, length-append, cases_eq, get_or_push, get_or_append_left, arith)

-- once all are seated, all that are online wait fresh
pub seats_wait : (table maker_table : TableId) (maker : CallSeatView) (k : CallSetting) (n : ℕ) (waiting : List (Option CpuValue))
    → AreLimits k.nr k.online → k.nr ≤ n
    → AreSeated table maker_table maker k n waiting → AreWaiting (table_with table k) k.online waiting
seats_wait table maker_table maker k n waiting limits all s = search arith

-- whether the CPU of a number is left, by what waits there
pub left_is : (waiting : List (Option CpuValue)) (cpu : ℕ) (o : Option CpuValue) → get_or waiting cpu None ≡ o
    → get_or (map is_some waiting) cpu false ≡ is_some o
left_is waiting cpu o e = get_or-map is_some waiting cpu None ∙ ap is_some e

-- and are left
pub seats_left : (table maker_table : TableId) (maker : CallSeatView) (k : CallSetting) (n : ℕ) (waiting : List (Option CpuValue))
    → AreLimits k.nr k.online → k.nr ≤ n
    → AreSeated table maker_table maker k n waiting → (cpu : ℕ) → has k.online cpu ≡ true → get_or (map is_some waiting) cpu false ≡ true
seats_left table maker_table maker k n waiting limits all s cpu e = search (left_is, arith)

-- the CPU that waits at a number, as it is taken out
pub taken_from : (waiting : List (Option CpuValue)) (cpu : ℕ) (o now : Option CpuValue) → cpu < length waiting → o ≡ now → now ≡ get_or waiting cpu now
    → get_or waiting cpu None ≡ o
taken_from waiting cpu o now low e f = sym (e ∙ (f ∙ get_or_default waiting cpu now None low))

-- is fresh
pub waits_fresh : (t : TableValue) (online : ℕ) (waiting : List (Option CpuValue)) (cpu : ℕ) (c : CpuValue) → AreWaiting t online waiting
    → has online cpu ≡ true
    → get_or waiting cpu None ≡ Some c → c ≡ fresh_cpu t cpu
waits_fresh t online waiting cpu c w h e = subst (λ o. IfSome o (λ c. c ≡ fresh_cpu t cpu)) e (w.fresh_are cpu h)

-- a CPU that has done nothing has each of its records confirmed
pub born_confirmed : (t : TableValue) (cpu k : ℕ) → cpu < cpus → k < records_of_one → confirmed_at (fresh_cpu t cpu) k ≡ true
born_confirmed t cpu k l m = row-at records (record_of cpu k) (λ _. true) false (record_of-below cpu k l m)

-- and owes no interrupt
pub born_owes : (n i : ℕ) → get_or (row n (λ _. false)) i false ≡ false
unfolding row
born_owes zero i = refl
born_owes (suc n) zero = refl
born_owes (suc n) (suc i) = born_owes n i
