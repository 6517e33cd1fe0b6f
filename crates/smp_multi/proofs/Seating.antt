-- The CPUs of a table, as they are seated one after the other.
use Rattle.std.proofs.Common.{◌≡◌, ℕ, ◌+◌, ◌<◌, ◌≤◌, Bool, true, false, cond, Option, Some, None, List, [], ◌∷◌, ◌++◌, length, length-append}
use Rattle.std.proofs.Common.{get_or, map, option_map, sym, refl, ap, ◌∙◌, subst, inl, inr, arith}
use Rattle.std.specs.Prelude.{IfSome, is_some}
use Rattle.std.proofs.lemmas.List.{get_or_push, get_or_append_left, get_or_default}
use Rattle.std.proofs.lemmas.Bool.{cases_eq}
use Rattle.std.proofs.Math.ListN.{get_or-map}
use Rattle.atomic_table.specs.Seated.{TableId}
use Rattle.smp_mask.specs.Mask.{has}
use Rattle.smp_words.specs.Limits.{AreLimits}
use Rattle.smp_words.specs.Size.{cpus}
use Rattle.smp_multi.specs.Cells.{cells}
use Rattle.smp_multi.specs.Cpu.{CpuValue, fresh_cpu, AreWaiting}
use Rattle.smp_multi.specs.Names.{StopSetting, StopSeatView, Maker}
use Rattle.smp_multi.specs.Seat.{SeatValue, fresh_seat}

-- the CPUs below n have a seat, and of these the ones online are kept
pub record AreSeated (table maker_table : TableId) (maker : StopSeatView) (k : StopSetting) (n : ℕ) (waiting : List (Option CpuValue)) : Type 0 where
  pub sized : table.words ≡ cells
  pub maker_is : maker_table ≡ table
  pub next : maker ≡ Maker n k
  pub count : length waiting ≡ n
  pub each : (cpu : ℕ) → cpu < n → get_or waiting cpu None ≡ cond (has k.online cpu) (Some (fresh_cpu table k cpu)) None

pub seats_more : (table maker_table maker_table' : TableId) (maker maker' : StopSeatView) (k : StopSetting) (n : ℕ) (waiting waiting' : List (Option CpuValue))
    (x : Option CpuValue) → AreSeated table maker_table maker k n waiting →
    maker_table' ≡ table → maker' ≡ Maker (n + 1) k → waiting' ≡ waiting ++ x ∷ [] → x ≡ cond (has k.online n) (Some (fresh_cpu table k n)) None
    → AreSeated table maker_table' maker' k (n + 1) waiting'
seats_more table maker_table maker_table' maker maker' k n waiting waiting' x s is next pushed kept =
    let count : length waiting ≡ n = s.count in
    rw pushed (record {
      sized = s.sized;
      maker_is = is;
      next = next;
      count = length-append waiting (x ∷ []) ∙ omega arith;
      each = λ cpu l. elim (cases_eq cpu n) [
        | inl e ↦ get_or_push waiting x None cpu (count ∙ sym e) ∙ (kept ∙ ap (λ (j : ℕ). cond (has k.online j) (Some (fresh_cpu table k j)) None) (sym e))
        | inr ne ↦ get_or_append_left waiting (x ∷ []) None cpu (omega arith) ∙ s.each cpu (omega arith)
      ];
    })

-- the seat of the next CPU, where it is online
module _ (b : Bool) (table : TableId) (k : StopSetting) (n : ℕ) (on : b ≡ has k.online n) (seat : Option SeatValue)
    (is : seat ≡ cond b (Some (fresh_seat table k n)) None) where
  pub seat_kept : option_map (λ s. fresh_cpu s.table s.known.setting n) seat ≡ cond (has k.online n) (Some (fresh_cpu table k n)) None
  seat_kept = ap (option_map (λ (s : SeatValue). fresh_cpu s.table s.known.setting n)) is ∙ go b on
    where
      go : (c : Bool) → c ≡ has k.online n → option_map (λ s. fresh_cpu s.table s.known.setting n) (cond c (Some (fresh_seat table k n)) None)
          ≡ cond (has k.online n) (Some (fresh_cpu table k n)) None
      go true e = subst (λ d. Some (fresh_cpu table k n) ≡ cond d (Some (fresh_cpu table k n)) None) e refl
      go false e = subst (λ d. None ≡ cond d (Some (fresh_cpu table k n)) None) e refl

-- once all are seated, all that are online wait fresh
pub seats_wait : (table maker_table : TableId) (maker : StopSeatView) (nr : ℕ) (k : StopSetting) (n : ℕ) (waiting : List (Option CpuValue))
    → AreLimits nr k.online
    → cpus ≤ n → AreSeated table maker_table maker k n waiting → AreWaiting table k k.online waiting
seats_wait table maker_table maker nr k n waiting limits all s = record {
  online_is = refl;
  sized = λ cpu e. let below = limits.below cpu e in let few = limits.within in let count = s.count in omega arith;
  fresh_are = λ cpu e. let below = limits.below cpu e in let few = limits.within in
      subst (λ o. IfSome o (λ c. c ≡ fresh_cpu table k cpu))
      (sym (s.each cpu (omega arith) ∙ ap (λ (b : Bool). cond b (Some (fresh_cpu table k cpu)) None) e)) refl;
}

-- whether the CPU of a number is left, by what waits there
pub left_is : (waiting : List (Option CpuValue)) (cpu : ℕ) (o : Option CpuValue) → get_or waiting cpu None ≡ o
    → get_or (map is_some waiting) cpu false ≡ is_some o
left_is waiting cpu o e = get_or-map is_some waiting cpu None ∙ ap is_some e

-- and are left
pub seats_left : (table maker_table : TableId) (maker : StopSeatView) (nr : ℕ) (k : StopSetting) (n : ℕ) (waiting : List (Option CpuValue))
    → AreLimits nr k.online
    → cpus ≤ n → AreSeated table maker_table maker k n waiting → (cpu : ℕ) → has k.online cpu ≡ true → get_or (map is_some waiting) cpu false ≡ true
seats_left table maker_table maker nr k n waiting limits all s cpu e =
    let below = limits.below cpu e in
    let few = limits.within in
    left_is waiting cpu (Some (fresh_cpu table k cpu)) (s.each cpu (omega arith) ∙ ap (λ (b : Bool). cond b (Some (fresh_cpu table k cpu)) None) e)

-- the CPU that waits at a number, as it is taken out
pub taken_from : (waiting : List (Option CpuValue)) (cpu : ℕ) (o now : Option CpuValue) → cpu < length waiting → o ≡ now → now ≡ get_or waiting cpu now
    → get_or waiting cpu None ≡ o
taken_from waiting cpu o now low e f = sym (e ∙ (f ∙ get_or_default waiting cpu now None low))

-- is fresh
pub waits_fresh : (table : TableId) (k : StopSetting) (online : ℕ) (waiting : List (Option CpuValue)) (cpu : ℕ) (c : CpuValue)
    → AreWaiting table k online waiting → has online cpu ≡ true → get_or waiting cpu None ≡ Some c → c ≡ fresh_cpu table k cpu
waits_fresh table k online waiting cpu c w h e = subst (λ o. IfSome o (λ c. c ≡ fresh_cpu table k cpu)) e (w.fresh_are cpu h)
