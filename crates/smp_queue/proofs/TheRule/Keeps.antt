-- Each access keeps the rule of the table, and tells what its play says.
use Rattle.std.proofs.Common.{◌≡◌, ◌≢◌, ℕ, zero, suc, ◌+◌, ◌<◌, ◌⊎◌, Bool, true, false, ◌==◌, cond, List, [], ◌∷◌, ◌++◌, length, get_or, set, replicate, sym}
use Rattle.std.proofs.Common.{refl, ap, ◌∙◌, subst, inl, inr, ⊎_elim, arith, Option, Some, None, length-set, true≢false, ◌≤◌}
use mathlib.Core.Option.{none, some, some-injective, some-ne-none}
use lib.ListN.{get_elem?, length-replicate}
use lib.Seq.{set-get_or}
use prog.Atomic.{either}
use Rattle.atomic_table.specs.Table.{State, Me, step, keeps, stepped, Allows, Splits, opening}
use Rattle.atomic_table.proofs.Lists.{at_set, set_here, set_else, at_longer}
use Rattle.std.proofs.lemmas.Bool.{cases_eq}
use Rattle.std.proofs.lemmas.List.{get_or-set_same}
use Rattle.smp_mask.specs.Mask.{has}
use Rattle.smp_words.proofs.Puts.{put_same, put_other, test_else}
use Rattle.smp_words.specs.Access.{put_if, seen_of}
use Rattle.smp_start.specs.Seats.{StaysRuled}
use Rattle.smp_words.specs.Put.{put, put_word}
use Rattle.smp_call_steps.specs.Calls.{CallState, no_calls}
use Rattle.smp_call_steps.specs.Stages.{ControlValue}
use Rattle.smp_call_steps.specs.Value.{outside}
use Rattle.smp_call_steps.specs.Reached.{IsReached}
use Rattle.smp_call_steps.specs.Shows.{Shows}
use Rattle.smp_call_steps.specs.Threads.Known.{Sees, fresh, known_told, known_taking, noted_known, GoesOn}
use Rattle.smp_call_steps.proofs.Knows.OneStep.{known_step}
use Rattle.smp_call_steps.proofs.Knows.Reached.{nothing_reached}
use Rattle.smp_call_steps.proofs.Machine.Starts.{zeros_shown}
use Rattle.smp_words.proofs.Zeros.{zero_at}
use Rattle.smp_queue.specs.{Call, Word, Head, Intr, Access, Load, Store, Swap, Exchange, KnownCalls, CallSetting, CallSeatView}
use Rattle.smp_queue.specs.{Maker, New, cells, cell_of, number_in, Ruled}
use Rattle.smp_queue.specs.{next_from, next_online}
use Rattle.smp_queue.specs.{SeatKnows, SeatInvariant, known, after, seat_made, noted, AfterLoad, AfterStore, AfterExchange, AfterSwap}
use Rattle.smp_queue.specs.{loaded, stored, SitsWith, exchanged, swapped}
use Rattle.smp_queue.specs.{IsCpuSeat, MayAccess, Reaches, HasBegun, IsQuiet}
use Rattle.smp_queue.specs.Names.{Cpu}
use Rattle.smp_queue.proofs.TheRule.Cells.{one_cell, cell_below, number_here, stored_here}
use Rattle.smp_queue.specs.act

at_snoc : {A : Type 0} (l : List A) (a b : A) (j : ℕ) → get_elem? (l ++ a ∷ []) j ≡ some b → (get_elem? l j ≡ some b) ⊎ ((j ≡ length l) × (a ≡ b))
at_snoc [] a b zero e = inr (refl, some-injective a b e)
at_snoc [] a b (suc j) e = absurd (some-ne-none b (sym e))
at_snoc (x ∷ xs) a b zero e = inl e
at_snoc (x ∷ xs) a b (suc j) e = ⊎_elim (λ (t : get_elem? xs j ≡ some b). inl t) (λ (t : (j ≡ length xs) × (a ≡ b)). inr (ap suc t.0, t.1)) (at_snoc xs a b j e)

-- what is taken matters at a swap alone
load_else : (queue : List Call) (v : KnownCalls) (w : Word) (n : ℕ) → known_taking queue v act.Load w (Some n) None ≡ known_told v act.Load w (Some n) None
load_else queue v (Head to) n = refl
load_else queue v _ n = refl

store_else : (queue : List Call) (v : KnownCalls) (w : Word) (x : ℕ) → known_taking queue v act.Store w None (Some x) ≡ known_told v act.Store w None (Some x)
store_else queue v (Head to) x = refl
store_else queue v _ x = refl

exchange_else : (queue : List Call) (v : KnownCalls) (w : Word) (n : ℕ) (o : Option ℕ)
    → known_taking queue v act.Cas w (Some n) o ≡ known_told v act.Cas w (Some n) o
exchange_else queue v (Head to) n None = refl
exchange_else queue v (Head to) n (Some x) = refl
exchange_else queue v _ n o = refl

load_step : (a : CallState) (at : Word → ℕ) (control : ℕ → ControlValue) (v : KnownCalls) (w : Word) → MayAccess v (Load w) → Shows a at control
    → Sees a control v
    → GoesOn a at control v.number at (known_told v act.Load w (Some (at w)) None)
load_step a at control v w can shown sees =
    subst (GoesOn a at control v.number at) (load_else (a.queue v.number) v w (at w)) (known_step shown sees can.stage can.aims (Load w) can.is_access)

store_step : (a : CallState) (at : Word → ℕ) (control : ℕ → ControlValue) (v : KnownCalls) (w : Word) (x : ℕ) → MayAccess v (Store w x) → Shows a at control
    → Sees a control v → GoesOn a at control v.number (put_word at w x) (known_told v act.Store w None (Some x))
store_step a at control v w x can shown sees =
    subst (GoesOn a at control v.number (put_word at w x)) (store_else (a.queue v.number) v w x)
    (known_step shown sees can.stage can.aims (Store w x) can.is_access)

exchange_step : (a : CallState) (at : Word → ℕ) (control : ℕ → ControlValue) (v : KnownCalls) (w : Word) (old new : ℕ) → MayAccess v (Exchange w old new)
    → Shows a at control → Sees a control v →
    GoesOn a at control v.number (put_if put_word at w (cond (at w == old) (Some new) None))
    (known_told v act.Cas w (Some (at w)) (cond (at w == old) (Some new) None))
exchange_step a at control v w old new can shown sees =
    subst (GoesOn a at control v.number (put_if put_word at w (cond (at w == old) (Some new) None)))
    (exchange_else (a.queue v.number) v w (at w) (cond (at w == old) (Some new) None))
    (known_step shown sees can.stage can.aims (Exchange w old new) can.is_access)

maker_else : {m : ℕ} {k : CallSetting} {w : KnownCalls} → Maker m k ≡ Cpu w → ⊥
maker_else e = cc

at_below : {A : Type 0} (l : List A) (i : ℕ) (a : A) → get_elem? l i ≡ some a → i < length l
at_below [] i a e = absurd (some-ne-none a (sym e))
at_below (x ∷ xs) zero a e = omega arith
at_below (x ∷ xs) (suc i) a e = let below = at_below xs i a e in omega arith

-- a store leaves the head and the interrupt word of a CPU as they were, unless it is in one of them
quiet_put : (at : Word → ℕ) (w : Word) (x cpu : ℕ) → w ≢ Head cpu → w ≢ Intr cpu → IsQuiet at cpu → IsQuiet (put_word at w x) cpu
quiet_put at (Head to) x cpu h i q = (test_else cpu to x (at (Head cpu)) (λ e. h (ap (λ (n : ℕ). Head n) (sym e))) ∙ q.0, q.1)
quiet_put at (Intr to) x cpu h i q = (q.0, test_else cpu to x (at (Intr cpu)) (λ e. i (ap (λ (n : ℕ). Intr n) (sym e))) ∙ q.1)
quiet_put at _ x cpu h i q = q

-- a CPU sits at these words
abbrev SitsIn : List ℕ → KnownCalls → Type 0
SitsIn words v = (s : SeatInvariant v) × ((w : Word) → s.lives.at w ≡ number_in words w)

-- what the seat of a CPU knows, whether it has made a step or not
pub knows_as : (k : CallSetting) (a : CallState) (control : ℕ → ControlValue) (seat : ℕ → ℕ) (next id : ℕ) (u : CallSeatView) → IsCpuSeat u
    → SeatKnows k a control seat next id u → SeatKnows k a control seat next id (Cpu (known u))
knows_as k a control seat next id (Maker m l) is h = absurd is
knows_as k a control seat next id (New m l) is h = h
knows_as k a control seat next id (Cpu v) is h = h

module _ {S : Type 0} (k : CallSetting) where
  pub starts : Ruled {S = S} k (opening (replicate cells 0) [] (Maker 0 k))
  starts = record {
    calls = no_calls;
    reached = nothing_reached (number_in (replicate cells 0)) (λ w. zero_at cells (cell_of w));
    controls = λ _. outside;
    seat = λ _. 0;
    next = 0;
    few = omega arith;
    wide = length-replicate {A = ℕ} cells 0;
    shown = zeros_shown (number_in (replicate cells 0)) (λ _. outside) (λ w. zero_at cells (cell_of w)) (λ _. refl);
    each_seat = each;
    absent = λ _ _. record { stage = refl; drain = refl; part = refl };
    unused = λ _ w. zero_at cells (cell_of w);
    quiet = λ cpu _. (zero_at cells (cell_of (Head cpu)), zero_at cells (cell_of (Intr cpu)));
  }
    where
      each : (id : ℕ) (v : CallSeatView) → get_elem? (Maker 0 k ∷ []) id ≡ some v → SeatKnows k no_calls (λ _. outside) (λ _. 0) 0 id v
      each zero v e = subst (SeatKnows k no_calls (λ _. outside) (λ _. 0) 0 0) (some-injective (Maker 0 k) v e) (refl, refl, refl)
      each (suc id) v e = absurd (some-ne-none v (sym e))

  pub splits : (id m n : ℕ) (v : CallSeatView) → v ≡ Maker m k → next_online k m ≡ n → m ≤ n → n < k.nr → has k.online n ≡ true
      → Splits {S = S} (Ruled k) id v (after v) (seat_made v)
  splits id m n v is next above low online s r at =
      subst (λ v. Ruled {S = S} k record { words = s.words; homes = s.homes; views = set s.views id (after v) ++ seat_made v ∷ [] }) (sym is)
      (subst (λ x. Ruled {S = S} k record { words = s.words; homes = s.homes; views = set s.views id (Maker (x + 1) k) ++ New x k ∷ [] })
      (sym next) made)
    where
      mine : (m ≡ r.next) × (id ≡ 0) × (k ≡ k)
      mine = subst (SeatKnows k r.calls r.controls r.seat r.next id) is (r.each_seat id v at)

      last : ℕ
      last = length (set s.views id (Maker (n + 1) k))

      old : (j : ℕ) (u : CallSeatView) → j ≢ id → get_elem? s.views j ≡ some u → SeatKnows k r.calls r.controls r.seat r.next j u
          → SeatKnows k r.calls r.controls (put r.seat n (length (set s.views id (Maker (n + 1) k)))) (n + 1) j u
      old j (Maker i l) other e h = absurd (other (h.1 ∙ sym mine.1))
      old j (New w l) other e h = let a = h.0 in let b = mine.0 in
          (omega arith, put_other r.seat n (length (set s.views id (Maker (n + 1) k))) w (λ same. let c = same in omega arith) ∙ h.1, h.2, h.3, h.4)
      old j (Cpu w) other e h = let a = h.0 in let b = mine.0 in
          (omega arith, put_other r.seat n (length (set s.views id (Maker (n + 1) k))) w.number (λ same. let c = same in omega arith) ∙ h.1, h.2, h.3, h.4)

      -- a seat of a CPU that has made a step is still there
      begun : (j : ℕ) (u : CallSeatView) → get_elem? s.views j ≡ some u → HasBegun u
          → get_elem? (set s.views id (Maker (n + 1) k) ++ New n k ∷ []) j ≡ some u
      begun j (Maker i l) e h = absurd h
      begun j (New i l) e h = absurd h
      begun j (Cpu w) e h = at_longer (set s.views id (Maker (n + 1) k)) (New n k ∷ []) j (Cpu w)
          (set_else s.views id j (Maker (n + 1) k) (λ same. maker_else
          (some-injective (Maker m k) (Cpu w) (sym (at ∙ ap some is) ∙ (ap (get_elem? s.views) (sym same) ∙ e)))) ∙ e)

      made : Ruled {S = S} k record { words = s.words; homes = s.homes; views = set s.views id (Maker (n + 1) k) ++ New n k ∷ [] }
      made = record {
        calls = r.calls;
        reached = r.reached;
        controls = r.controls;
        seat = put r.seat n (length (set s.views id (Maker (n + 1) k)));
        next = n + 1;
        few = omega arith;
        wide = r.wide;
        shown = r.shown;
        each_seat = λ j u e. ⊎_elim
            (λ (t : get_elem? (set s.views id (Maker (n + 1) k)) j ≡ some u). ⊎_elim
            (λ (t : (j ≡ id) × (Maker (n + 1) k ≡ u)).
            subst (SeatKnows k r.calls r.controls (put r.seat n (length (set s.views id (Maker (n + 1) k)))) (n + 1) j) t.1
            (refl, t.0 ∙ mine.1, refl))
            (λ (t : (j ≢ id) × (get_elem? s.views j ≡ some u)). old j u t.0 t.1 (r.each_seat j u t.1)) (at_set s.views id j (Maker (n + 1) k) u t))
            (λ (t : (j ≡ length (set s.views id (Maker (n + 1) k))) × (New n k ≡ u)).
            subst (SeatKnows k r.calls r.controls (put r.seat n (length (set s.views id (Maker (n + 1) k)))) (n + 1) j) t.1 (
              omega arith,
              put_same r.seat n (length (set s.views id (Maker (n + 1) k))) ∙ sym t.0,
              refl,
              r.absent n (λ _. (let a = mine.0 in omega arith)),
              online,
            ))
            (at_snoc (set s.views id (Maker (n + 1) k)) (New n k) u j e);
        absent = λ c l. r.absent c (λ on. (let a = mine.0 in let b = l on in omega arith));
        unused = λ none. r.unused (λ j u e h. none j u (begun j u e h) h);
        quiet = r.quiet;
      }

  -- a CPU that has a seat sits among the CPUs of the table
  sits : (s : State S CallSeatView) (r : Ruled k s) (id : ℕ) (v : KnownCalls) → SeatKnows k r.calls r.controls r.seat r.next id (Cpu v) → SitsIn s.words v
  sits s r id v m =
      let few = r.few in
      let low = m.0 in
      let nr : v.setting.nr ≡ k.nr = ap (λ (j : CallSetting). j.nr) m.2 in (
        record {
          lives = record { calls = r.calls; reached = r.reached; at = number_in s.words; controls = r.controls; shown = r.shown; sees = m.3 };
          below = omega arith;
          online = subst (λ (j : CallSetting). has j.online v.number ≡ true) (sym m.2) m.4;
          absent = λ cpu l. subst (λ (j : CallSetting). Sees r.calls r.controls (fresh j cpu)) (sym m.2) (r.absent cpu (λ _. omega arith));
          offline = λ cpu off. subst (λ (j : CallSetting). Sees r.calls r.controls (fresh j cpu)) (sym m.2)
              (r.absent cpu (λ on. absurd (true≢false (sym on ∙ (ap (λ (j : CallSetting). has j.online cpu) (sym m.2) ∙ off)))));
          quiet = λ cpu off. r.quiet cpu (ap (λ (j : CallSetting). has j.online cpu) (sym m.2) ∙ off);
        },
        λ w. refl,
      )

  -- a seat's CPU makes a step of the machine: it has its seat still, and the rule is kept
  lifts : (s : State S CallSeatView) (r : Ruled k s) (id i n : ℕ) (u : CallSeatView) (w : KnownCalls) (carried : List (ℕ × S)) → get_elem? s.views id ≡ some u
      → IsCpuSeat u → w.setting ≡ (known u).setting → GoesOn r.calls (number_in s.words) r.controls (known u).number (number_in (set s.words i n)) w
      → ((cpu : ℕ) → has k.online cpu ≡ false → IsQuiet (number_in (set s.words i n)) cpu)
      → Ruled k (stepped s i n id carried (Cpu w) keeps) × SitsIn (set s.words i n) w
  lifts s r id i n x w carried at is same g quiet = (ruled, sits (stepped s i n id carried (Cpu w) keeps) ruled id w its)
    where
      v : KnownCalls
      v = known x

      mine : SeatKnows k r.calls r.controls r.seat r.next id (Cpu (known x))
      mine = knows_as k r.calls r.controls r.seat r.next id x is (r.each_seat id x at)

      its : SeatKnows k g.calls g.controls r.seat r.next id (Cpu w)
      its = (subst (λ m. m < r.next) (sym g.number_is) mine.0, ap r.seat g.number_is ∙ mine.1, same ∙ mine.2, g.mine, ap (has k.online) g.number_is ∙ mine.4)

      other : (j : ℕ) (u : CallSeatView) → j ≢ id → SeatKnows k r.calls r.controls r.seat r.next j u → SeatKnows k g.calls g.controls r.seat r.next j u
      other j (Maker m l) n h = h
      other j (New m l) n h = (h.0, h.1, h.2, g.others (fresh l m) (λ e. n (sym h.1 ∙ (ap r.seat e ∙ mine.1))) h.3, h.4)
      other j (Cpu u) n h = (h.0, h.1, h.2, g.others u (λ e. n (sym h.1 ∙ (ap r.seat e ∙ mine.1))) h.3, h.4)

      ruled : Ruled k (stepped s i n id carried (Cpu w) keeps)
      ruled = record {
        calls = g.calls;
        reached = g.reached r.reached;
        controls = g.controls;
        seat = r.seat;
        next = r.next;
        few = r.few;
        wide = length-set s.words i n ∙ r.wide;
        shown = g.shown;
        each_seat = λ j u e. ⊎_elim
            (λ (t : (j ≡ id) × (Cpu w ≡ u)). subst (SeatKnows k g.calls g.controls r.seat r.next j) t.1
            (subst (λ x. SeatKnows k g.calls g.controls r.seat r.next x (Cpu w)) (sym t.0) its))
            (λ (t : (j ≢ id) × (get_elem? s.views j ≡ some u)). other j u t.0 (r.each_seat j u t.1)) (at_set s.views id j (Cpu w) u e);
        absent = λ c l. g.others (fresh k c) (λ e. let a = mine.0 in let b = e in
            let far = l (ap (has k.online) e ∙ mine.4) in omega arith) (r.absent c l);
        unused = λ none. absurd (none id (Cpu w) (set_here s.views id (Cpu w) (at_below s.views id x at)) tt);
        quiet = quiet;
      }

  module _ (slots id : ℕ) (me : Me S CallSeatView) (is : IsCpuSeat me.0) where
    abbrev v : KnownCalls
    v = known me.0

    steps_with : (i : ℕ) (f : ℕ → ℕ) (then : ℕ → Me S CallSeatView → Type 0) →
        ((a : CallState) (control : ℕ → ControlValue) (words : List ℕ) → IsReached a (number_in words) → Shows a (number_in words) control
        → length words ≡ cells → Sees a control (known me.0) → (w : KnownCalls) × (w.setting ≡ (known me.0).setting)
        × GoesOn a (number_in words) control (known me.0).number (number_in (set words i (f (get_or words i 0)))) w × then (get_or words i 0) (Cpu w, me.1)) →
        ((words : List ℕ) → length words ≡ cells → (cpu : ℕ) → has k.online cpu ≡ false → has k.online (known me.0).number ≡ true
        → IsQuiet (number_in words) cpu → IsQuiet (number_in (set words i (f (get_or words i 0)))) cpu) →
        Allows (Ruled k) slots id me i f (λ n m. then n m × SitsWith (known m.0) i (f n))
    steps_with i f then go quiet s r sized at fits =
        let mine = knows_as k r.calls r.controls r.seat r.next id me.0 is (r.each_seat id me.0 at) in
        let t = go r.calls r.controls s.words r.reached r.shown r.wide mine.3 in
        let on = lifts s r id i (f (get_or s.words i 0)) me.0 t.0 me.1 at is t.1 t.2 (λ cpu off. quiet s.words r.wide cpu off mine.4 (r.quiet cpu off)) in (
          Cpu t.0,
          keeps,
          tt,
          on.0,
          (
            t.3,
            (
              on.1.0,
              λ w e. on.1.1 w ∙ (number_here (set s.words i (f (get_or s.words i 0))) w i e
                  ∙ get_or-set_same s.words i (f (get_or s.words i 0)) 0 (let low = cell_below w i e in let wide = r.wide in omega arith)),
            ),
          ),
        )

    steps : (i : ℕ) (f : ℕ → ℕ) (then : ℕ → Me S CallSeatView → Type 0) →
        ((a : CallState) (control : ℕ → ControlValue) (words : List ℕ) → IsReached a (number_in words) → Shows a (number_in words) control
        → length words ≡ cells → Sees a control (known me.0) → (w : KnownCalls) × (w.setting ≡ (known me.0).setting)
        × GoesOn a (number_in words) control (known me.0).number (number_in (set words i (f (get_or words i 0)))) w × then (get_or words i 0) (Cpu w, me.1)) →
        ((words : List ℕ) → length words ≡ cells → (cpu : ℕ) → has k.online cpu ≡ false → has k.online (known me.0).number ≡ true
        → IsQuiet (number_in words) cpu → IsQuiet (number_in (set words i (f (get_or words i 0)))) cpu) →
        Allows (Ruled k) slots id me i f (λ n m. SeatInvariant (known m.0) × then n m)
    steps i f then go quiet s r sized at fits =
        let a = steps_with i f then go quiet s r sized at fits in
        (a.0, a.1, a.2, a.3, (a.4.1.0, a.4.0))

    -- a load leaves all words
    unmoved : (i : ℕ) (words : List ℕ) → length words ≡ cells → (cpu : ℕ) → has k.online cpu ≡ false → has k.online (known me.0).number ≡ true
        → IsQuiet (number_in words) cpu → IsQuiet (number_in (set words i (get_or words i 0))) cpu
    unmoved i words wide cpu off on q = subst (λ (x : List ℕ). IsQuiet (number_in x) cpu) (sym (set-get_or words i 0)) q

    -- a store that reaches no CPU that is not online leaves their words
    stores_apart : (w : Word) (x cpu : ℕ) → Reaches k (known me.0) (Store w x) → has k.online cpu ≡ false → (at : Word → ℕ) → IsQuiet at cpu
        → IsQuiet (put_word at w x) cpu
    stores_apart w x cpu reach off at q = quiet_put at w x cpu (λ e. subst (λ (u : Word). Reaches k (known me.0) (Store u x)) e reach)
        (λ e. true≢false (sym (subst (λ (u : Word). Reaches k (known me.0) (Store u x)) e reach) ∙ off)) q

    exchanges_apart : (w : Word) (old x cpu : ℕ) → Reaches k (known me.0) (Exchange w old x) → has k.online cpu ≡ false → (at : Word → ℕ) (b : Bool)
        → IsQuiet at cpu → IsQuiet (put_if put_word at w (cond b (Some x) None)) cpu
    exchanges_apart w old x cpu reach off at true q = quiet_put at w x cpu
        (λ e. true≢false (sym (subst (λ (u : Word). Reaches k (known me.0) (Exchange u old x)) e reach) ∙ off))
        (λ e. subst (λ (u : Word). Reaches k (known me.0) (Exchange u old x)) e reach) q
    exchanges_apart w old x cpu reach off at false q = q

    swaps_apart : (w : Word) (x cpu : ℕ) → Reaches k (known me.0) (Swap w x) → has k.online cpu ≡ false → has k.online (known me.0).number ≡ true
        → (at : Word → ℕ) → IsQuiet at cpu → IsQuiet (put_word at w x) cpu
    swaps_apart w x cpu reach off on at q = quiet_put at w x cpu
        (λ e. true≢false (sym on ∙ (ap (has k.online) (sym (subst (λ (u : Word). Reaches k (known me.0) (Swap u x)) e reach)) ∙ off)))
        (λ e. true≢false (sym on ∙ (ap (has k.online) (sym (subst (λ (u : Word). Reaches k (known me.0) (Swap u x)) e reach)) ∙ off))) q

    pub load_allowed : (w : Word) (i : ℕ) → cell_of w ≡ Some i → MayAccess (known me.0) (Load w)
        → Allows (Ruled k) slots id me i (λ n. n) (loaded (step slots i 0 0 none) me)
    load_allowed w i e can = steps i (λ n. n) (AfterLoad (step slots i 0 0 none) me) (λ a control words reached shown wide sees.
        let here : number_in words w ≡ get_or words i 0 = number_here words w i e in (
          known_told v act.Load w (Some (get_or words i 0)) None,
          refl,
          subst (λ (x : List ℕ). GoesOn a (number_in words) control v.number (number_in x) (known_told v act.Load w (Some (get_or words i 0)) None))
              (sym (set-get_or words i 0))
              (subst (λ n. GoesOn a (number_in words) control v.number (number_in words) (known_told v act.Load w (Some n) None)) here
              (load_step a (number_in words) control v w can shown sees)),
          λ u f. (
            record {
              lives = record { calls = a; reached = reached; at = number_in words; controls = control; shown = shown; sees = sees };
              number_is = sym (number_here words u i f);
            },
            ap (λ (x : Word). Cpu (known_told v act.Load x (Some (get_or words i 0)) None)) (one_cell w u i e f),
          ),
        )) (unmoved i)

    -- a direct call is noted: the words stay, the calls, and the CPU's part of them
    pub note_stays : StaysRuled {S = S} (Ruled k) id me.0 (noted me.0)
    note_stays s r at =
        let mine = knows_as k r.calls r.controls r.seat r.next id me.0 is (r.each_seat id me.0 at) in
        let w = noted_known v in
        let still : set s.words 0 (get_or s.words 0 0) ≡ s.words = set-get_or s.words 0 0 in
        let on = lifts s r id 0 (get_or s.words 0 0) me.0 w me.1 at is refl
        (subst (λ (x : List ℕ). GoesOn r.calls (number_in s.words) r.controls v.number (number_in x) w) (sym still) record {
          seen = seen_of v.number (Load (Intr 0)) 0 None;
          calls = r.calls;
          told = refl;
          reached = λ reached. reached;
          controls = r.controls;
          shown = r.shown;
          mine = record { stage = mine.3.stage; drain = mine.3.drain; part = mine.3.part };
          number_is = refl;
          others = λ o other sees. sees;
        }) (λ cpu off. subst (λ (x : List ℕ). IsQuiet (number_in x) cpu) (sym still) (r.quiet cpu off)) in
        subst (λ (x : List ℕ). Ruled k record { words = x; homes = s.homes; views = set s.views id (noted me.0) }) still on.0

    pub store_allowed : (w : Word) (i x : ℕ) → cell_of w ≡ Some i → MayAccess (known me.0) (Store w x) → Reaches k (known me.0) (Store w x)
        → Allows (Ruled k) slots id me i (λ _. x) (λ _. stored (step slots i x 0 none) me x)
    store_allowed w i x e can reach s r sized at fits =
        let a = steps_with i (λ _. x) (λ _. AfterStore (step slots i x 0 none) me x) (λ a control words reached shown wide sees. (
          known_told v act.Store w None (Some x),
          refl,
          subst (λ (at : Word → ℕ). GoesOn a (number_in words) control v.number at (known_told v act.Store w None (Some x)))
              (sym (stored_here words w i x wide e))
              (store_step a (number_in words) control v w x can shown sees),
          λ u f. ap (λ (y : Word). Cpu (known_told v act.Store y None (Some x))) (one_cell w u i e f),
        )) (λ words wide cpu off on q. subst (λ (at : Word → ℕ). IsQuiet at cpu) (sym (stored_here words w i x wide e))
        (stores_apart w x cpu reach off (number_in words) q)) s r sized at fits in
        (a.0, a.1, a.2, a.3, ((a.4.1.0, a.4.0), a.4.1))

    exchanged_words : (words : List ℕ) (w : Word) (i n x : ℕ) (b : Bool) → length words ≡ cells → cell_of w ≡ Some i → n ≡ get_or words i 0
        → number_in (set words i (either b x n)) ≡ put_if put_word (number_in words) w (cond b (Some x) None)
    exchanged_words words w i n x true l e is = stored_here words w i x l e
    exchanged_words words w i n x false l e is = ap number_in (ap (set words i) is ∙ set-get_or words i 0)

    pub exchange_allowed : (w : Word) (i old new : ℕ) → cell_of w ≡ Some i → MayAccess (known me.0) (Exchange w old new)
        → Reaches k (known me.0) (Exchange w old new) →
        Allows (Ruled k) slots id me i (λ n. either (n == old) new n) (exchanged (step slots i old new none) me)
    exchange_allowed w i old new e can reach = steps i (λ n. either (n == old) new n) (AfterExchange (step slots i old new none) me)
        (λ a control words reached shown wide sees.
        let n = get_or words i 0 in
        let here : number_in words w ≡ n = number_here words w i e in
        let same : (put_if put_word (number_in words) w (cond (number_in words w == old) (Some new) None)) ≡ number_in (set words i (either (n == old) new n)) =
        ap (λ k. put_if put_word (number_in words) w (cond (k == old) (Some new) None)) here ∙ sym (exchanged_words words w i n new (n == old) wide e refl) in (
          known_told v act.Cas w (Some n) (cond (n == old) (Some new) None),
          refl,
          subst (λ (at : Word → ℕ). GoesOn a (number_in words) control v.number at (known_told v act.Cas w (Some n) (cond (n == old) (Some new) None))) same
              (subst (λ k. GoesOn a (number_in words) control v.number (put_if put_word (number_in words) w (cond (number_in words w == old) (Some new) None))
              (known_told v act.Cas w (Some k) (cond (k == old) (Some new) None))) here
              (exchange_step a (number_in words) control v w old new can shown sees)),
          λ u f. ap (λ (x : Word). Cpu (known_told v act.Cas x (Some n) (cond (n == old) (Some new) None))) (one_cell w u i e f),
        )) (λ words wide cpu off on q. let n = get_or words i 0 in
        subst (λ (at : Word → ℕ). IsQuiet at cpu) (sym (exchanged_words words w i n new (n == old) wide e refl))
        (exchanges_apart w old new cpu reach off (number_in words) (n == old) q))

    pub swap_allowed : (w : Word) (i x : ℕ) → cell_of w ≡ Some i → MayAccess (known me.0) (Swap w x) → Reaches k (known me.0) (Swap w x)
        → Allows (Ruled k) slots id me i (λ _. x) (swapped (step slots i x 0 none) me)
    swap_allowed w i x e can reach = steps i (λ _. x) (AfterSwap (step slots i x 0 none) me) (λ a control words reached shown wide sees.
        let here : number_in words w ≡ get_or words i 0 = number_here words w i e in
        let q = a.queue v.number in (
          known_taking q v act.Swap w (Some (get_or words i 0)) (Some x),
          refl,
          subst (λ (at : Word → ℕ). GoesOn a (number_in words) control v.number at (known_taking q v act.Swap w (Some (get_or words i 0)) (Some x)))
              (sym (stored_here words w i x wide e))
              (subst (λ n. GoesOn a (number_in words) control v.number (put_word (number_in words) w x) (known_taking q v act.Swap w (Some n) (Some x))) here
              (known_step shown sees can.stage can.aims (Swap w x) can.is_access)),
          λ u f. (
            record {
              lives = record { calls = a; reached = reached; at = number_in words; controls = control; shown = shown; sees = sees };
              number_is = sym (number_here words u i f);
            },
            ap (λ (y : Word). Cpu (known_taking q v act.Swap y (Some (get_or words i 0)) (Some x))) (one_cell w u i e f),
          ),
        )) (λ words wide cpu off on q. subst (λ (at : Word → ℕ). IsQuiet at cpu) (sym (stored_here words w i x wide e))
        (swaps_apart w x cpu reach off on (number_in words) q))

pub is_of : (m : CallSeatView) (w : KnownCalls) → m ≡ Cpu w → IsCpuSeat m
is_of m w e = subst (λ (x : CallSeatView). IsCpuSeat x) (sym e) tt

-- and it sits as before
pub note_sits : (m : CallSeatView) → SeatInvariant (known m) → SeatInvariant (known (noted m))
note_sits m s =
    let lives = s.lives in
    record {
      lives = record {
        calls = lives.calls;
        reached = lives.reached;
        at = lives.at;
        controls = lives.controls;
        shown = lives.shown;
        sees = record { stage = lives.sees.stage; drain = lives.sees.drain; part = lives.sees.part };
      };
      below = s.below;
      online = s.online;
      absent = s.absent;
      offline = s.offline;
      quiet = s.quiet;
    }

pub can_same : (v u : KnownCalls) (access : Access) → v ≡ u → MayAccess u access → MayAccess v access
can_same v u access e can = subst (λ (x : KnownCalls). MayAccess x access) (sym e) can

pub reach_same : (k : CallSetting) (v u : KnownCalls) (access : Access) → v ≡ u → Reaches k u access → Reaches k v access
reach_same k v u access e reach = subst (λ (x : KnownCalls). Reaches k x access) (sym e) reach

-- a CPU that has done nothing has its part of no calls
fresh_sits : (k : CallSetting) (n : ℕ) → n < k.nr → has k.online n ≡ true → SeatInvariant (fresh k n)
fresh_sits k n low online =
    record {
      lives = record {
        calls = no_calls;
        reached = nothing_reached (λ _. 0) (λ _. refl);
        at = λ _. 0;
        controls = λ _. outside;
        shown = zeros_shown (λ _. 0) (λ _. outside) (λ _. refl) (λ _. refl);
        sees = record { stage = refl; drain = refl; part = refl };
      };
      below = low;
      online = online;
      absent = λ _ _. record { stage = refl; drain = refl; part = refl };
      offline = λ _ _. record { stage = refl; drain = refl; part = refl };
      quiet = λ _ _. (refl, refl);
    }

pub fresh_seat_is : (m : CallSeatView) (k : CallSetting) (n : ℕ) → n < k.nr → has k.online n ≡ true → m ≡ New n k → IsCpuSeat m × SeatInvariant (known m)
fresh_seat_is m k n low online e = (
  subst (λ (x : CallSeatView). IsCpuSeat x) (sym e) tt,
  subst (λ (x : CallSeatView). SeatInvariant (known x)) (sym e)
      (fresh_sits k n low online),
)

-- of the numbers from n on, none below m in the mask, the next in it is m
pub next_is : (tries mask n m : ℕ) → n ≤ m → m < n + tries → has mask m ≡ true → ((cpu : ℕ) → n ≤ cpu → cpu < m → has mask cpu ≡ false)
    → next_from tries mask n ≡ m
unfolding next_from
next_is zero mask n m low near on off = absurd (omega arith)
next_is (suc tries) mask n m low near on off = elim (cases_eq n m) [
  | inl e ↦ rw (ap (has mask) e ∙ on) e
  | inr ne ↦ rw (off n (omega arith) (omega arith)) (next_is tries mask (n + 1) m (omega arith) (omega arith) on (λ cpu l. off cpu (omega arith)))
]
