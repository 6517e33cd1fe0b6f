-- Each access keeps the rule of the table, and tells what its play says.
use Rattle.std.proofs.Common.{◌≡◌, ◌≢◌, ℕ, zero, suc, ◌+◌, ◌-◌, ◌%◌, ◌^◌, ◌<◌, ◌⊎◌, Bool, true, false, ◌==◌, cond, List, [], ◌∷◌, ◌++◌, length, get_or, set}
use Rattle.std.proofs.Common.{sym, refl, ap, ◌∙◌, subst, inl, inr, ⊎_elim, arith, Option, Some, None, length-set, bit_and}
use mathlib.Core.Option.{none, some, some-injective, some-ne-none}
use lib.ListN.{get_elem?}
use lib.Seq.{set-get_or}
use prog.Atomic.{either}
use Rattle.atomic_table.specs.Table.{State, Me, step, keeps, stepped, Allows, Splits}
use Rattle.atomic_table.proofs.Lists.{at_set}
use Rattle.smp_words.specs.Access.{word_of, at_after, seen_of, one_less, put_if}
use Rattle.smp_words.specs.Put.{put, put_word}
use Rattle.smp_words.specs.Size.{cpus}
use Rattle.smp_words.proofs.Puts.{put_same, put_other}
use Rattle.smp_stop_steps.specs.Threads.Known.{Sees, GoesOn, carrying, fresh, setup_in}
use Rattle.smp_multi.specs.Lives.{Lives, StaysWithin}
use Rattle.smp_mask.specs.Mask.{has}
use Rattle.smp_stop_steps.specs.AnswerWords.{IsI32Word, AreI32Words}
use Rattle.smp_stop_steps.specs.Threads.KnownAfter.{known_told, known_entering}
use Rattle.smp_stop_steps.specs.Threads.Moves.{Can, entering}
use Rattle.smp_stop_steps.specs.Reached.{IsReached}
use Rattle.smp_stop_steps.specs.State.{StopState}
use Rattle.smp_stop_steps.specs.Shows.{StopShows}
use Rattle.smp_stop_steps.proofs.{Knows.KnownMoves.known_move, Promises.Reached.moves_reach}
use Rattle.smp_multi.specs.Names.{Word, Gate, Slot, Key, Entry, Site, Access, Load, Store, Exchange, Sub, And, Work, StopRole}
use Rattle.smp_multi.specs.Names.{Source, KnownStops, StopSetting, StopSeatView}
use Rattle.smp_multi.specs.Names.{Maker, Cpu}
use Rattle.smp_multi.specs.Names.field
use Rattle.smp_multi.specs.Names.act
use Rattle.smp_multi.specs.Cells.{cells, cell_of, number_in}
use Rattle.smp_multi.specs.Rule.{Ruled, SeatKnows, known, after, seat_made}
use Rattle.smp_multi.specs.Plays.{AfterLoad, AfterStore, AfterExchange, AfterSubtract, AfterAnswer, AfterMask}
use Rattle.smp_multi.specs.Plays.{loaded, stored, exchanged, subtracted, answered, masked}
use Rattle.smp_multi.specs.Seat.{Ends, FitsWord, IsCpuSeat, IsNoResult}
use Rattle.smp_multi.proofs.Carrying.{can_with, sees_with}
use Rattle.smp_multi.proofs.Cells.{one_cell, number_here, stored_here}

at_snoc : {A : Type 0} (l : List A) (a b : A) (j : ℕ) → get_elem? (l ++ a ∷ []) j ≡ some b → (get_elem? l j ≡ some b) ⊎ ((j ≡ length l) × (a ≡ b))
at_snoc [] a b zero e = inr (refl, some-injective a b e)
at_snoc [] a b (suc j) e = absurd (some-ne-none b (sym e))
at_snoc (x ∷ xs) a b zero e = inl e
at_snoc (x ∷ xs) a b (suc j) e = ⊎_elim (λ (t : get_elem? xs j ≡ some b). inl t) (λ (t : (j ≡ length xs) × (a ≡ b)). inr (ap suc t.0, t.1)) (at_snoc xs a b j e)

-- only a fetch_and enters

load_else : (x : Work) (v : KnownStops) (w : Word) (n : ℕ) → known_entering x v act.Load w (Some n) None ≡ known_told v act.Load w (Some n) None
load_else x v (Slot s field.Kind) n = refl
load_else x v (Slot s field.Mask) n = refl
load_else x v (Slot s field.Active) n = refl
load_else x v (Slot s field.Func) n = refl
load_else x v (Slot s field.Arg) n = refl
load_else x v (Slot s field.State) n = refl
load_else x v (Slot s field.Ack) n = refl
load_else x v (Slot s field.Roll) n = refl
load_else x v (Slot s field.Todo) n = refl
load_else x v (Slot s field.Result) n = refl
load_else x v (Slot s field.Done) n = refl
load_else x v Gate n = refl
load_else x v (Key k) n = refl
load_else x v (Entry i) n = refl
load_else x v (Site i) n = refl
load_else x v _ n = refl

store_else : (x : Work) (v : KnownStops) (w : Word) (n : ℕ) → known_entering x v act.Store w None (Some n) ≡ known_told v act.Store w None (Some n)
store_else x v (Slot s field.Kind) n = refl
store_else x v (Slot s field.Mask) n = refl
store_else x v (Slot s field.Active) n = refl
store_else x v (Slot s field.Func) n = refl
store_else x v (Slot s field.Arg) n = refl
store_else x v (Slot s field.State) n = refl
store_else x v (Slot s field.Ack) n = refl
store_else x v (Slot s field.Roll) n = refl
store_else x v (Slot s field.Todo) n = refl
store_else x v (Slot s field.Result) n = refl
store_else x v (Slot s field.Done) n = refl
store_else x v Gate n = refl
store_else x v (Key k) n = refl
store_else x v (Entry i) n = refl
store_else x v (Site i) n = refl
store_else x v _ n = refl

exchange_else : (x : Work) (v : KnownStops) (w : Word) (n : ℕ) (o : Option ℕ) → known_entering x v act.Cas w (Some n) o ≡ known_told v act.Cas w (Some n) o
exchange_else x v (Slot s field.Kind) n o = refl
exchange_else x v (Slot s field.Mask) n o = refl
exchange_else x v (Slot s field.Active) n o = refl
exchange_else x v (Slot s field.Func) n o = refl
exchange_else x v (Slot s field.Arg) n o = refl
exchange_else x v (Slot s field.State) n o = refl
exchange_else x v (Slot s field.Ack) n o = refl
exchange_else x v (Slot s field.Roll) n o = refl
exchange_else x v (Slot s field.Todo) n o = refl
exchange_else x v (Slot s field.Result) n o = refl
exchange_else x v (Slot s field.Done) n o = refl
exchange_else x v Gate n o = refl
exchange_else x v (Key k) n o = refl
exchange_else x v (Entry i) n o = refl
exchange_else x v (Site i) n o = refl
exchange_else x v _ n o = refl

sub_else : (x : Work) (v : KnownStops) (w : Word) (n m : ℕ) → known_entering x v act.Sub w (Some n) (Some m) ≡ known_told v act.Sub w (Some n) (Some m)
sub_else x v (Slot s field.Kind) n m = refl
sub_else x v (Slot s field.Mask) n m = refl
sub_else x v (Slot s field.Active) n m = refl
sub_else x v (Slot s field.Func) n m = refl
sub_else x v (Slot s field.Arg) n m = refl
sub_else x v (Slot s field.State) n m = refl
sub_else x v (Slot s field.Ack) n m = refl
sub_else x v (Slot s field.Roll) n m = refl
sub_else x v (Slot s field.Todo) n m = refl
sub_else x v (Slot s field.Result) n m = refl
sub_else x v (Slot s field.Done) n m = refl
sub_else x v Gate n m = refl
sub_else x v (Key k) n m = refl
sub_else x v (Entry i) n m = refl
sub_else x v (Site i) n m = refl
sub_else x v _ n m = refl

-- the stops go on by a step of this CPU, after which it knows w; from stops and words that are reached it leads to such
record Reaches (k : StopSetting) (p : StopState) (at : Word → ℕ) (seat : ℕ → StopRole) (source : ℕ → Source) (me : ℕ) (at' : Word → ℕ) (w : KnownStops)
    : Type 0 where
  goes : GoesOn k p seat source me at' w
  reached : IsReached (setup_in k) p at → IsReached (setup_in k) goes.stops at'

module _ (p : StopState) (at : Word → ℕ) (seat : ℕ → StopRole) (source : ℕ → Source) (v : KnownStops) (h : StopShows (setup_in v.setting) p at seat source)
    (sees : Sees p seat source v) (online : has v.setting.online v.number ≡ true) where
  abbrev Goes : (Word → ℕ) → KnownStops → Type 0
  Goes at' w = Reaches v.setting p at seat source v.number at' w

  moves : (a : Access) → Can v a → let seen = seen_of v.number a (at (word_of a)) None in
      Goes (at_after at a) (known_entering (entering p (word_of a)) v seen.act seen.word seen.found seen.put)
  moves a can =
      subst (λ (a : Access). let seen = seen_of v.number a (at (word_of a)) None in
      Goes (at_after at a) (known_entering (entering p (word_of a)) v seen.act seen.word seen.found seen.put)) can.is_access
      (let g = known_move p at seat source v h sees can.move can.may in
      record { goes = g.goes; reached = moves_reach p at seat source v h sees online can.move can.may g.goes.stops g.told })

  load_step : (w : Word) → Can v (Load w) → Goes at (known_told v act.Load w (Some (at w)) None)
  load_step w can = subst (Goes at) (load_else (entering p w) v w (at w)) (moves (Load w) can)

  store_step : (w : Word) (x : ℕ) → Can v (Store w x) → Goes (put_word at w x) (known_told v act.Store w None (Some x))
  store_step w x can = subst (Goes (put_word at w x)) (store_else (entering p w) v w x) (moves (Store w x) can)

  exchange_step : (w : Word) (old new : ℕ) → Can v (Exchange w old new)
      → Goes (put_if put_word at w (cond (at w == old) (Some new) None)) (known_told v act.Cas w (Some (at w)) (cond (at w == old) (Some new) None))
  exchange_step w old new can = subst (Goes (put_if put_word at w (cond (at w == old) (Some new) None)))
      (exchange_else (entering p w) v w (at w) (cond (at w == old) (Some new) None)) (moves (Exchange w old new) can)

  sub_step : (w : Word) → Can v (Sub w) → Goes (put_word at w (one_less (at w))) (known_told v act.Sub w (Some (at w)) (Some (one_less (at w))))
  sub_step w can = subst (Goes (put_word at w (one_less (at w)))) (sub_else (entering p w) v w (at w) (one_less (at w))) (moves (Sub w) can)

  and_step : (w : Word) (x : ℕ) → Can v (And w x)
      → Goes (put_word at w (bit_and (at w) x)) (known_entering (entering p w) v act.And w (Some (at w)) (Some (bit_and (at w) x)))
  and_step w x can = moves (And w x) can

-- result words after a store that fits
put_fits : (at : Word → ℕ) (w : Word) (x : ℕ) → AreI32Words at → FitsWord w x → AreI32Words (put_word at w x)
put_fits at (Slot t field.Kind) x h f s = h s
put_fits at (Slot t field.Mask) x h f s = h s
put_fits at (Slot t field.Active) x h f s = h s
put_fits at (Slot t field.Func) x h f s = h s
put_fits at (Slot t field.Arg) x h f s = h s
put_fits at (Slot t field.State) x h f s = h s
put_fits at (Slot t field.Ack) x h f s = h s
put_fits at (Slot t field.Roll) x h f s = h s
put_fits at (Slot t field.Todo) x h f s = h s
put_fits at (Slot t field.Result) x h f s = elim (s == t) as (λ b. IsI32Word (cond b x (at (Slot s field.Result)))) [ true ↦ f | false ↦ h s ]
put_fits at (Slot t field.Done) x h f s = h s
put_fits at Gate x h f s = h s
put_fits at (Key k) x h f s = h s
put_fits at (Entry i) x h f s = h s
put_fits at (Site i) x h f s = h s
put_fits at _ x h f s = h s

no_result : (w : Word) (x : ℕ) → IsNoResult w → FitsWord w x
no_result (Slot t field.Kind) x f = tt
no_result (Slot t field.Mask) x f = tt
no_result (Slot t field.Active) x f = tt
no_result (Slot t field.Func) x f = tt
no_result (Slot t field.Arg) x f = tt
no_result (Slot t field.State) x f = tt
no_result (Slot t field.Ack) x f = tt
no_result (Slot t field.Roll) x f = tt
no_result (Slot t field.Todo) x f = tt
no_result (Slot t field.Result) x f = absurd f
no_result (Slot t field.Done) x f = tt
no_result Gate x f = tt
no_result (Key k) x f = tt
no_result (Entry i) x f = tt
no_result (Site i) x f = tt
no_result _ x f = tt

put_if_fits : (at : Word → ℕ) (w : Word) (x : ℕ) (b : Bool) → AreI32Words at → IsNoResult w → AreI32Words (put_if put_word at w (cond b (Some x) None))
put_if_fits at w x true h f = put_fits at w x h (no_result w x f)
put_if_fits at w x false h f = h

-- what stays with a step of an online CPU
within_on : (k : StopSetting) (p : StopState) (at : Word → ℕ) (seat : ℕ → StopRole) (source : ℕ → Source) (me : ℕ) (at' : Word → ℕ) (w : KnownStops)
    → has k.online me ≡ true → me < cpus → StaysWithin k p at seat source → AreI32Words at' → (g : GoesOn k p seat source me at' w)
    → StaysWithin k g.stops at' g.seats g.sources
within_on k p at seat source me at' w on low h fits g = record {
  results = fits;
  offline = λ c l off. g.others (fresh k c) (λ (same : c ≡ me). let bad : true ≡ false = sym on ∙ (sym (ap (has k.online) same) ∙ off) in cc)
      (h.offline c l off);
  beyond = λ c l. let s = g.still c (λ (same : c ≡ me). let e = same in omega arith) in let b = h.beyond c l in (s.0 ∙ b.0, s.1 ∙ b.1);
}

lives_on : (k : StopSetting) (p : StopState) (at : Word → ℕ) (seat : ℕ → StopRole) (source : ℕ → Source) (me : ℕ) (at' : Word → ℕ) (w : KnownStops)
    → has k.online me ≡ true → me < cpus → StaysWithin k p at seat source → AreI32Words at' → (g : GoesOn k p seat source me at' w)
    → IsReached (setup_in k) g.stops at' → Lives w
lives_on k p at seat source me at' w on low h fits g reached = record {
  stops = g.stops;
  at = at';
  reached = subst (λ j. IsReached (setup_in j) g.stops at') (sym g.setting_is) reached;
  seat = g.seats;
  source = g.sources;
  shown = subst (λ j. StopShows (setup_in j) g.stops at' g.seats g.sources) (sym g.setting_is) g.shown;
  sees = g.mine;
  within = subst (λ j. StaysWithin j g.stops at' g.seats g.sources) (sym g.setting_is) (within_on k p at seat source me at' w on low h fits g);
  online = ap (λ (j : StopSetting). has j.online w.number) g.setting_is ∙ (ap (has k.online) g.number_is ∙ on);
}

module _ {S : Type 0} (k : StopSetting) where
  pub splits : (id n : ℕ) (v : StopSeatView) → v ≡ Maker n k → n < cpus → Splits {S = S} (Ruled k) id v (after v) (seat_made v)
  splits id n v is low s r at = subst (λ v. Ruled {S = S} k record { words = s.words; homes = s.homes; views = set s.views id (after v) ++ seat_made v ∷ [] })
      (sym is) made
    where
      mine : (n ≡ r.next) × (id ≡ 0) × (k ≡ k)
      mine = subst (SeatKnows k r.stops r.seat r.source r.place r.next id) is (r.each_seat id v at)

      last : ℕ
      last = length (set s.views id (Maker (n + 1) k))

      old : (j : ℕ) (u : StopSeatView) → j ≢ id → get_elem? s.views j ≡ some u → SeatKnows k r.stops r.seat r.source r.place r.next j u
          → SeatKnows k r.stops r.seat r.source (put r.place n (length (set s.views id (Maker (n + 1) k)))) (n + 1) j u
      old j (Maker m l) other e h = absurd (other (h.1 ∙ sym mine.1))
      old j (Cpu w) other e h = let a = h.0 in let b = mine.0 in
          (omega arith, put_other r.place n (length (set s.views id (Maker (n + 1) k))) w.number (λ same. let c = same in omega arith) ∙ h.1, h.2, h.3)

      made : Ruled {S = S} k record { words = s.words; homes = s.homes; views = set s.views id (Maker (n + 1) k) ++ Cpu (fresh k n) ∷ [] }
      made = record {
        stops = r.stops;
        reached = r.reached;
        seat = r.seat;
        source = r.source;
        place = put r.place n (length (set s.views id (Maker (n + 1) k)));
        next = n + 1;
        wide = r.wide;
        shown = r.shown;
        each_seat = λ j u e. ⊎_elim
            (λ (t : get_elem? (set s.views id (Maker (n + 1) k)) j ≡ some u). ⊎_elim
            (λ (t : (j ≡ id) × (Maker (n + 1) k ≡ u)).
            subst (SeatKnows k r.stops r.seat r.source (put r.place n (length (set s.views id (Maker (n + 1) k)))) (n + 1) j) t.1
            (refl, t.0 ∙ mine.1, refl))
            (λ (t : (j ≢ id) × (get_elem? s.views j ≡ some u)). old j u t.0 t.1 (r.each_seat j u t.1)) (at_set s.views id j (Maker (n + 1) k) u t))
            (λ (t : (j ≡ length (set s.views id (Maker (n + 1) k))) × (Cpu (fresh k n) ≡ u)).
            subst (SeatKnows k r.stops r.seat r.source (put r.place n (length (set s.views id (Maker (n + 1) k)))) (n + 1) j) t.1
            (omega arith, put_same r.place n (length (set s.views id (Maker (n + 1) k))) ∙ sym t.0, refl, r.absent n (let a = mine.0 in omega arith) low))
            (at_snoc (set s.views id (Maker (n + 1) k)) (Cpu (fresh k n)) u j e);
        absent = λ c l within. r.absent c (let a = mine.0 in omega arith) within;
        within = r.within;
      }

  -- a seat's CPU makes a step of the machine
  lifts : (s : State S StopSeatView) (r : Ruled k s) (id i n : ℕ) (v w : KnownStops) (carried : List (ℕ × S)) → get_elem? s.views id ≡ some (Cpu v)
      → (g : GoesOn k r.stops r.seat r.source v.number (number_in (set s.words i n)) w)
      → IsReached (setup_in k) g.stops (number_in (set s.words i n)) → StaysWithin k g.stops (number_in (set s.words i n)) g.seats g.sources
      → Ruled k (stepped s i n id carried (Cpu w) keeps)
  lifts s r id i n v w carried at g reached within' = record {
    stops = g.stops;
    reached = reached;
    seat = g.seats;
    source = g.sources;
    place = r.place;
    next = r.next;
    wide = length-set s.words i n ∙ r.wide;
    shown = g.shown;
    each_seat = λ j u e. ⊎_elim
        (λ (t : (j ≡ id) × (Cpu w ≡ u)). subst (SeatKnows k g.stops g.seats g.sources r.place r.next j) t.1
        (subst (λ m. m < r.next) (sym g.number_is) mine.0, ap r.place g.number_is ∙ (mine.1 ∙ sym t.0), g.setting_is, g.mine))
        (λ (t : (j ≢ id) × (get_elem? s.views j ≡ some u)). other j u t.0 (r.each_seat j u t.1)) (at_set s.views id j (Cpu w) u e);
    absent = λ c l within. g.others (fresh k c) (λ e. let a = mine.0 in let b = e in omega arith) (r.absent c l within);
    within = within';
  }
    where
      mine : SeatKnows k r.stops r.seat r.source r.place r.next id (Cpu v)
      mine = r.each_seat id (Cpu v) at

      other : (j : ℕ) (u : StopSeatView) → j ≢ id → SeatKnows k r.stops r.seat r.source r.place r.next j u
          → SeatKnows k g.stops g.seats g.sources r.place r.next j u
      other j (Maker m l) n h = h
      other j (Cpu u) n h = (h.0, h.1, h.2, g.others u (λ e. n (sym h.1 ∙ (ap r.place e ∙ mine.1))) h.3)

  module _ (slots id : ℕ) (me : Me S StopSeatView) (is : me.0 ≡ Cpu (known me.0)) (online : has (known me.0).setting.online (known me.0).number ≡ true) where
    abbrev v : KnownStops
    v = known me.0

    -- from these stops and this list of words a step of the seat's CPU goes on to these words
    abbrev LeadsOn : StopState → (ℕ → StopRole) → (ℕ → Source) → List ℕ → (Word → ℕ) → KnownStops → Type 0
    LeadsOn p seat source words at w = Reaches v.setting p (number_in words) seat source v.number at w

    steps : (i : ℕ) (f : ℕ → ℕ) (then : ℕ → Me S StopSeatView → Type 0) →
        ((p : StopState) (seat : ℕ → StopRole) (source : ℕ → Source) (words : List ℕ)
        → StopShows (setup_in (known me.0).setting) p (number_in words) seat source
        → length words ≡ cells → Sees p seat source (known me.0) → StaysWithin (known me.0).setting p (number_in words) seat source
        → IsReached (setup_in (known me.0).setting) p (number_in words) →
        (w : KnownStops) × LeadsOn p seat source words (number_in (set words i (f (get_or words i 0)))) w
        × AreI32Words (number_in (set words i (f (get_or words i 0)))) × then (get_or words i 0) (Cpu w, me.1)) →
        Allows (Ruled k) slots id me i f (λ n m. Lives (known m.0) × then n m)
    steps i f then go s r sized at fits =
        let at' : get_elem? s.views id ≡ some (Cpu v) = at ∙ ap some is in
        let mine : SeatKnows k r.stops r.seat r.source r.place r.next id (Cpu v) = r.each_seat id (Cpu v) at' in
        let set_k : v.setting ≡ k = mine.2 in
        let here = subst (λ j. StaysWithin j r.stops (number_in s.words) r.seat r.source) (sym set_k) r.within in
        let reached = subst (λ j. IsReached (setup_in j) r.stops (number_in s.words)) (sym set_k) r.reached in
        let t = go r.stops r.seat r.source s.words (subst (λ j. StopShows (setup_in j) r.stops (number_in s.words) r.seat r.source) (sym set_k) r.shown)
        r.wide mine.3 here reached in
        let next = number_in (set s.words i (f (get_or s.words i 0))) in
        let low = mine.3.below in
        let lives : Lives t.0 = lives_on v.setting r.stops (number_in s.words) r.seat r.source v.number next t.0 online low here t.2 t.1.goes
        (t.1.reached reached) in
        let g = subst (λ j. Reaches j r.stops (number_in s.words) r.seat r.source v.number next t.0) set_k t.1 in
        let on = subst (λ (j : StopSetting). has j.online v.number ≡ true) set_k online in
        let within' = within_on k r.stops (number_in s.words) r.seat r.source v.number next t.0 on low r.within t.2 g.goes in
        (Cpu t.0, keeps, tt, lifts s r id i (f (get_or s.words i 0)) v t.0 me.1 at' g.goes (g.reached r.reached) within', (lives, t.3))

    pub load_allowed : (w : Word) (i : ℕ) → cell_of w ≡ Some i → Can (known me.0) (Load w)
        → Allows (Ruled k) slots id me i (λ n. n) (loaded (step slots i 0 0 none) me)
    load_allowed w i e can = steps i (λ n. n) (AfterLoad (step slots i 0 0 none) me) (λ p seat source words shown wide sees within reached.
        let here : number_in words w ≡ get_or words i 0 = number_here words w i e in (
          known_told v act.Load w (Some (get_or words i 0)) None,
          subst (λ (x : List ℕ). LeadsOn p seat source words (number_in x) (known_told v act.Load w (Some (get_or words i 0)) None))
              (sym (set-get_or words i 0))
              (subst (λ n. LeadsOn p seat source words (number_in words) (known_told v act.Load w (Some n) None)) here
              (load_step p (number_in words) seat source v shown sees online w can)),
          subst (λ (x : List ℕ). AreI32Words (number_in x)) (sym (set-get_or words i 0)) within.results,
          λ u f. (
            record {
              stops = p;
              at = number_in words;
              reached = reached;
              seat = seat;
              source = source;
              shown = shown;
              sees = sees;
              within = within;
              online = online;
              number_is = sym (number_here words u i f);
            },
            ap (λ (x : Word). Cpu (known_told v act.Load x (Some (get_or words i 0)) None)) (one_cell w u i e f),
          ),
        ))

    pub store_allowed : (w : Word) (i x : ℕ) → cell_of w ≡ Some i → Can (known me.0) (Store w x) → FitsWord w x
        → Allows (Ruled k) slots id me i (λ _. x) (λ _. stored (step slots i x 0 none) me x)
    store_allowed w i x e can fits = steps i (λ _. x) (λ _. AfterStore (step slots i x 0 none) me x) (λ p seat source words shown wide sees within reached. (
      known_told v act.Store w None (Some x),
      subst (λ (at : Word → ℕ). LeadsOn p seat source words at (known_told v act.Store w None (Some x))) (sym (stored_here words w i x wide e))
          (store_step p (number_in words) seat source v shown sees online w x can),
      subst AreI32Words (sym (stored_here words w i x wide e)) (put_fits (number_in words) w x within.results fits),
      λ u f. ap (λ (y : Word). Cpu (known_told v act.Store y None (Some x))) (one_cell w u i e f),
    ))

    exchanged_words : (words : List ℕ) (w : Word) (i n x : ℕ) (b : Bool) → length words ≡ cells → cell_of w ≡ Some i → n ≡ get_or words i 0
        → number_in (set words i (either b x n)) ≡ put_if put_word (number_in words) w (cond b (Some x) None)
    exchanged_words words w i n x true l e is = stored_here words w i x l e
    exchanged_words words w i n x false l e is = ap number_in (ap (set words i) is ∙ set-get_or words i 0)

    pub exchange_allowed : (w : Word) (i old new : ℕ) → cell_of w ≡ Some i → Can (known me.0) (Exchange w old new) → IsNoResult w →
        Allows (Ruled k) slots id me i (λ n. either (n == old) new n) (exchanged (step slots i old new none) me)
    exchange_allowed w i old new e can none_of = steps i (λ n. either (n == old) new n) (AfterExchange (step slots i old new none) me)
        (λ p seat source words shown wide sees within reached.
        let n = get_or words i 0 in
        let here : number_in words w ≡ n = number_here words w i e in
        let same : (put_if put_word (number_in words) w (cond (number_in words w == old) (Some new) None)) ≡ number_in (set words i (either (n == old) new n)) =
        ap (λ k. put_if put_word (number_in words) w (cond (k == old) (Some new) None)) here ∙ sym (exchanged_words words w i n new (n == old) wide e refl) in (
          known_told v act.Cas w (Some n) (cond (n == old) (Some new) None),
          subst (λ (at : Word → ℕ). LeadsOn p seat source words at (known_told v act.Cas w (Some n) (cond (n == old) (Some new) None))) same
              (subst (λ k. LeadsOn p seat source words (put_if put_word (number_in words) w (cond (number_in words w == old) (Some new) None))
              (known_told v act.Cas w (Some k) (cond (k == old) (Some new) None))) here
              (exchange_step p (number_in words) seat source v shown sees online w old new can)),
          subst AreI32Words same (put_if_fits (number_in words) w new (number_in words w == old) within.results none_of),
          λ u f. (
            record {
              stops = p;
              at = number_in words;
              reached = reached;
              seat = seat;
              source = source;
              shown = shown;
              sees = sees;
              within = within;
              online = online;
              number_is = sym (number_here words u i f);
            },
            ap (λ (x : Word). Cpu (known_told v act.Cas x (Some n) (cond (n == old) (Some new) None))) (one_cell w u i e f),
          ),
        ))

    pub sub_allowed : (w : Word) (i : ℕ) → cell_of w ≡ Some i → Can (known me.0) (Sub w) → IsNoResult w
        → Allows (Ruled k) slots id me i (λ n. (n + (2 ^ 64 - 1)) % 2 ^ 64) (subtracted (step slots i 1 0 none) me)
    sub_allowed w i e can none_of = steps i (λ n. (n + (2 ^ 64 - 1)) % 2 ^ 64) (AfterSubtract (step slots i 1 0 none) me)
        (λ p seat source words shown wide sees within reached.
        let n = get_or words i 0 in
        let here : number_in words w ≡ n = number_here words w i e in (
          known_told v act.Sub w (Some n) (Some (one_less n)),
          subst (λ (at : Word → ℕ). LeadsOn p seat source words at (known_told v act.Sub w (Some n) (Some (one_less n))))
              (sym (stored_here words w i (one_less n) wide e))
              (subst (λ m. LeadsOn p seat source words (put_word (number_in words) w (one_less m))
              (known_told v act.Sub w (Some m) (Some (one_less m)))) here (sub_step p (number_in words) seat source v shown sees online w can)),
          subst AreI32Words (sym (stored_here words w i (one_less n) wide e))
              (put_fits (number_in words) w (one_less n) within.results (no_result w (one_less n) none_of)),
          λ u f. (
            record {
              stops = p;
              at = number_in words;
              reached = reached;
              seat = seat;
              source = source;
              shown = shown;
              sees = sees;
              within = within;
              online = online;
              number_is = sym (number_here words u i f);
            },
            ap (λ (y : Word). Cpu (known_told v act.Sub y (Some n) (Some (one_less n)))) (one_cell w u i e f),
          ),
        ))

    -- the same, where the CPU takes this answer with the step
    pub answered_allowed : (x : ℕ) (w : Word) (i : ℕ) → cell_of w ≡ Some i → ((c : Can (known me.0) (Sub w)) × Ends (known me.0) x c.move) → IsNoResult w
        → Allows (Ruled k) slots id me i (λ n. (n + (2 ^ 64 - 1)) % 2 ^ 64) (answered x (step slots i 1 0 none) me)
    answered_allowed x w i e ends none_of = steps i (λ n. (n + (2 ^ 64 - 1)) % 2 ^ 64) (AfterAnswer x (step slots i 1 0 none) me)
        (λ p seat source words shown wide sees within reached.
        let n = get_or words i 0 in
        let here : number_in words w ≡ n = number_here words w i e in
        let told : ℕ → KnownStops = λ m. known_told (carrying x v) act.Sub w (Some m) (Some (one_less m)) in (
          told n,
          subst (λ (at : Word → ℕ). LeadsOn p seat source words at (told n)) (sym (stored_here words w i (one_less n) wide e))
              (subst (λ m. LeadsOn p seat source words (put_word (number_in words) w (one_less m)) (told m)) here
              (sub_step p (number_in words) seat source (carrying x v) shown (sees_with x v p seat source sees) online w (can_with x v (Sub w) ends.0))),
          subst AreI32Words (sym (stored_here words w i (one_less n) wide e))
              (put_fits (number_in words) w (one_less n) within.results (no_result w (one_less n) none_of)),
          λ u f. (
            subst (λ (y : Word). (c : Can v (Sub y)) × Ends v x c.move) (one_cell w u i e f) ends,
            ap (λ (y : Word). Cpu (known_told (carrying x v) act.Sub y (Some n) (Some (one_less n)))) (one_cell w u i e f),
          ),
        ))

    pub and_allowed : (w : Word) (i x : ℕ) → cell_of w ≡ Some i → Can (known me.0) (And w x) → IsNoResult w
        → Allows (Ruled k) slots id me i (λ n. bit_and n x) (masked (step slots i x 0 none) me)
    and_allowed w i x e can none_of = steps i (λ n. bit_and n x) (AfterMask (step slots i x 0 none) me) (λ p seat source words shown wide sees within reached.
        let n = get_or words i 0 in
        let here : number_in words w ≡ n = number_here words w i e in (
          known_entering (entering p w) v act.And w (Some n) (Some (bit_and n x)),
          subst (λ (at : Word → ℕ). LeadsOn p seat source words at (known_entering (entering p w) v act.And w (Some n) (Some (bit_and n x))))
              (sym (stored_here words w i (bit_and n x) wide e))
              (subst (λ m. LeadsOn p seat source words (put_word (number_in words) w (bit_and m x))
              (known_entering (entering p w) v act.And w (Some m) (Some (bit_and m x)))) here
              (and_step p (number_in words) seat source v shown sees online w x can)),
          subst AreI32Words (sym (stored_here words w i (bit_and n x) wide e))
              (put_fits (number_in words) w (bit_and n x) within.results (no_result w (bit_and n x) none_of)),
          λ u f. (
            record {
              stops = p;
              at = number_in words;
              reached = reached;
              seat = seat;
              source = source;
              shown = shown;
              sees = sees;
              within = within;
              online = online;
              number_is = sym (number_here words u i f);
            },
            ap (λ (y : Word). Cpu (known_entering (entering p y) v act.And y (Some n) (Some (bit_and n x)))) (one_cell w u i e f),
          ),
        ))

pub can_same : (v u : KnownStops) (access : Access) → v ≡ u → Can u access → Can v access
can_same v u access e can = subst (λ (x : KnownStops). Can x access) (sym e) can

pub ends_same : (v u : KnownStops) (x : ℕ) (w : Word) → v ≡ u → ((c : Can u (Sub w)) × Ends u x c.move) → (c : Can v (Sub w)) × Ends v x c.move
ends_same v u x w e t = subst (λ (y : KnownStops). (c : Can y (Sub w)) × Ends y x c.move) (sym e) t

-- the seat of an online CPU after a step
pub seat_on : (s : StopSeatView) (w : KnownStops) (carried : ℕ) → s ≡ Cpu w → Lives (known s) → IsI32Word carried → w.carried ≡ carried → IsCpuSeat s carried
seat_on s w carried is lives fits carries = record {
  is = is ∙ sym (ap (λ (x : StopSeatView). Cpu (known x)) is);
  online = lives.online;
  fits = fits;
  carries = ap (λ (x : StopSeatView). (known x).carried) is ∙ carries;
}
