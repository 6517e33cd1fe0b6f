-- What a step of a CPU leaves to it and to all others.
use Rattle.std.proofs.Common.{◌≡◌, ◌≢◌, ℕ, ◌+◌, ◌<◌, Bool, true, false, cond, List, Option, None, get_or, set, replicate, inl, refl, ap, subst, ◌∙◌, sym, arith}
use Rattle.std.proofs.lemmas.List.{length-set, length-replicate, get_or-set_same, get_or-set_other}
use Rattle.smp_words.proofs.{Puts.at_test, Puts.put_same, Puts.put_other, Zeros.get_or-same}
use Rattle.smp_stop_steps.specs.{put, cpus, Word, StopPart, StopSetting, fresh, columns_of, AreFirst, AreTold, Columns, IsPart}
use Rattle.smp_stop_steps.specs.{Sees, GoesOnBy, IsBegun, Act, Seen}
use Rattle.smp_stop_steps.specs.{Setup, told, told_source, setup_in, StopRole, Free, StopShows, Source, Shut, StopState, no_stops}
use Rattle.smp_stop_steps.specs.Threads.Known.{Attempt, KnownStops, OwnMove, stepped}

-- the list of a function's first values, with one changed
pub first_put : {A : Type 0} (n : ℕ) (f : ℕ → A) (d : A) (list : List A) (i : ℕ) (x : A) → AreFirst n f d list → i < n → AreFirst n (put f i x) d (set list
    i x)
first_put {A} n f d list i x h l = search (length-set, at_test, get_or, get_or-set_same, h.each, get_or-set_other, arith)

first_same : {A : Type 0} (n : ℕ) (x : A) → AreFirst n (λ _. x) x (replicate n x)
first_same {A} n x = record { sized = length-replicate n x; each = λ i l. sym (get_or-same x n i) }

-- a CPU that has done nothing knows its part of the stops at first
pub fresh_sees : (k : StopSetting) (me : ℕ) → me < cpus → Sees no_stops (λ _. Free) (λ _. Shut) (fresh k me)
fresh_sees k me low = search (first_same, arith)

-- what a step leaves: this part to its CPU, and their columns to the others
pub record Leaves (me : ℕ) (p p' : StopState) (part : StopPart) : Type 0 where
  pub mine : IsPart (columns_of p' me) part
  pub others : (c : ℕ) → c ≢ me → columns_of p' c ≡ columns_of p c

-- a step of this CPU, as it is seen
abbrev pub seen_by : ℕ → Act → Word → Option ℕ → Option ℕ → Seen
seen_by me a w found new = record { cpu = me; act = a; word = w; found = found; put = new; note = None }

pub told_so : (u : Setup) (me : ℕ) (p p' : StopState) (a : Act) (w : Word) (found new : Option ℕ) → told u p me a w found new 0 ≡ p'
    → AreTold u me p p' (seen_by me a w found new)
told_so u me p p' a w found new e = record { before = p; alike = inl refl; told = sym e }

module _ (p : StopState) (seat : ℕ → StopRole) (source : ℕ → Source) (v : KnownStops) (sees : Sees p seat source v) where
  -- what a CPU is told to know by a step
  abbrev pub By : Seen → (Word → ℕ) → KnownStops → Type 0
  By seen at' w = GoesOnBy v.setting p seat source v.number at' w seen

  abbrev ToldStops : StopState → Seen → Type 0
  ToldStops p' seen = AreTold (setup_in v.setting) v.number p p' seen

  -- no other knows a CPU's own moves, its attempts to enter a stop, and how many steps it has made
  listed : {seen : Seen} (at' : Word → ℕ) (w : KnownStops) (moves : List OwnMove) (attempts : List Attempt) (steps : ℕ) → By seen at' w
      → By seen at' (record w { moves = moves; attempts = attempts; steps = steps })
  listed {seen} at' w moves attempts steps g = let s = g.goes.mine in
      record {
        goes = record {
          stops = g.goes.stops;
          seats = g.goes.seats;
          sources = g.goes.sources;
          shown = g.goes.shown;
          mine = record { below = s.below; seat_is = s.seat_is; source_is = s.source_is; is_begun = s.is_begun; part_is = s.part_is };
          number_is = g.goes.number_is;
          setting_is = g.goes.setting_is;
          others = g.goes.others;
          still = g.goes.still;
        };
        told = g.told;
      }

  pub noted : {seen : Seen} (at' : Word → ℕ) (w : KnownStops) (moves : List OwnMove) → By seen at' w → By seen at' (record w { moves = moves })
  noted at' w moves g = listed at' w moves w.attempts w.steps g

  pub attempted : {seen : Seen} (at' : Word → ℕ) (w : KnownStops) (attempts : List Attempt) → By seen at' w → By seen at' (record w { attempts = attempts })
  attempted at' w attempts g = listed at' w w.moves attempts w.steps g

  -- a step is counted, or is a store that is due
  pub counted_step : {seen : Seen} (at' : Word → ℕ) (w : KnownStops) (due : Bool) → By seen at' w → By seen at' (cond due w (stepped 1 w))
  counted_step at' w true g = g
  counted_step at' w false g = listed at' w w.moves w.attempts (w.steps + 1) g

  -- a step, after which this CPU is at this seat and source and has this part
  pub goes : {seen : Seen} (p' : StopState) (at' : Word → ℕ) (seat' : ℕ → StopRole) (source' : ℕ → Source) (x : StopRole) (y : Source) (part : StopPart) →
      ToldStops p' seen → StopShows (setup_in v.setting) p' at' seat' source' → Leaves v.number p p' part →
      seat' v.number ≡ x → told_source (source' v.number) ≡ y → IsBegun (source' v.number) →
      ((c : ℕ) → c ≢ v.number → seat' c ≡ seat c) → ((c : ℕ) → c ≢ v.number → source' c ≡ source c) →
      By seen at' (record v { seat = x; source = y; part = part })
  goes {seen} p' at' seat' source' x y part is shown leaves here there begun seats sources = record {
    goes = record {
      stops = p';
      seats = seat';
      sources = source';
      shown = shown;
      mine = record { below = sees.below; seat_is = here; source_is = there; is_begun = begun; part_is = leaves.mine };
      number_is = refl;
      setting_is = refl;
      others = λ o ne s. record {
        below = s.below;
        seat_is = seats o.number ne ∙ s.seat_is;
        source_is = ap told_source (sources o.number ne) ∙ s.source_is;
        is_begun = subst IsBegun (sym (sources o.number ne)) s.is_begun;
        part_is = subst (λ (c : Columns). IsPart c o.part) (sym (leaves.others o.number ne)) s.part_is;
      };
      still = λ c ne. (seats c ne, sources c ne);
    };
    told = is;
  }

  -- one that moves the CPU's seat alone
  pub goes_seat : {seen : Seen} (p' : StopState) (at' : Word → ℕ) (x : StopRole) (part : StopPart) → ToldStops p' seen →
      StopShows (setup_in v.setting) p' at' (put seat v.number x) source →
      Leaves v.number p p' part → By seen at' (record v { seat = x; part = part })
  goes_seat {seen} p' at' x part is shown leaves = search (goes, put_same, put_other, arith)

  -- one that moves its source alone
  pub goes_source : {seen : Seen} (p' : StopState) (at' : Word → ℕ) (y known : Source) (part : StopPart) → ToldStops p' seen →
      StopShows (setup_in v.setting) p' at' seat (put source v.number y) →
      Leaves v.number p p' part → told_source y ≡ known → IsBegun y →
      By seen at' (record v { source = known; part = part })
  goes_source {seen} p' at' y known part told shown leaves is begun = search (goes, put_same, put_other, arith)

  -- one that moves neither
  pub goes_still : {seen : Seen} (p' : StopState) (at' : Word → ℕ) (part : StopPart) → ToldStops p' seen →
      StopShows (setup_in v.setting) p' at' seat source → Leaves v.number p p' part →
      By seen at' (record v { part = part })
  goes_still {seen} p' at' part is shown leaves = search (goes, arith)
