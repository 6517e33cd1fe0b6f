-- When a CPU takes the gate and gives it up, move by move.
use Rattle.std.specs.List.{AllByRecursion}
use Rattle.std.proofs.Common.{◌≡◌, ◌⊎◌, inl, inr, ℕ, Bool, true, false, List, [], ◌∷◌, ◌++◌, append_assoc, refl, sym, ap, ◌∙◌}
use Rattle.std.proofs.lemmas.List.{append-nil, append_cancel_left}
use Rattle.std.proofs.lemmas.List.Elements.{filter-append}
use Rattle.smp_queue.specs.declared.handler.Heard.{Heard}
use Rattle.smp_multi.specs.Names.{Work, OwnMove}
use Rattle.smp_multi.specs.declared.func.Called.{Called}
use Rattle.smp_stop_steps.specs.declared.known.OwnMove.TheVariants.{Took, Gave, Began, Collected, Found}
use Rattle.smp_machine.specs.GateLaws.{HasDone, IsTryOf, EndAt, turning, last_one, HasLooked, HasLookedAgain, HasTurned, GateIsHeld}
use Rattle.smp_machine.specs.Moves.{told, tells, lost_tries, Looks, LooksUpTo, gave_if}
use Rattle.smp_machine.specs.Own.{Own}
use Rattle.smp_machine.specs.MachineCpu.{MachineCpuValue}
use Rattle.smp_machine.specs.Works.{Works}
use Rattle.smp_machine.proofs.Queued.{has_queued}

tries_are : (k : ℕ) (lost : List ℕ) → AllByRecursion (IsTryOf k) (lost_tries k lost)
tries_are k [] = tt
tries_are k (count ∷ more) = (refl, (refl, tries_are k more))

looks_end : (k : ℕ) (up : Bool) (count : ℕ) (moves : List OwnMove) → Looks k up count moves → EndAt k count moves
looks_end k up count moves l = record { before = lost_tries k l.lost; tries = tries_are k l.lost; are = l.are }

module _ {H F : Type 0} (hears : H → Heard → H → Type 0) (runs : F → Called → F → Type 0) where
  -- of a stretch that leaves these moves
  has_done : {old new : MachineCpuValue} {h h' : H} {f f' : F} {own : Own} (moves : List OwnMove) → Works hears runs old h f new h' f' own
      → own.moves ≡ told old.stops.moves ++ moves → HasDone moves old new
  has_done {old} {new} moves w is =
      let since : List OwnMove = w.later.moves.0 in
      let all : told new.stops.moves ≡ told old.stops.moves ++ told since = ap told w.later.moves.1 ∙ filter-append tells old.stops.moves since in
      record {
        since = since;
        moves_are = w.later.moves.1;
        told_are = append_cancel_left (told old.stops.moves) (told since) moves (sym all ∙ (ap (λ (o : Own). o.moves) w.own_is ∙ is));
      }

  done_as : {old new : MachineCpuValue} (moves other : List OwnMove) → moves ≡ other → HasDone moves old new → HasDone other old new
  done_as moves other e d = record { since = d.since; moves_are = d.moves_are; told_are = d.told_are ∙ e }

  has_looked : {old new : MachineCpuValue} (k : ℕ) (up : Bool) (count : ℕ) (gate : Bool) (moves : List OwnMove) → LooksUpTo k up count gate moves
      → HasDone (moves ++ gave_if gate) old new → HasLooked k count old new ⊎ HasLookedAgain k up count old new
  has_looked k up count false moves l d =
      inl (record { looks = moves; found = looks_end k up count moves l; done = done_as (moves ++ []) moves (append-nil moves) d })
  has_looked k up count true moves (first, again, a, b, e) d = inr (record {
    first = first;
    again = again;
    found = looks_end k up (turning up) first a;
    found_again = looks_end k up count again b;
    done = done_as (moves ++ Gave ∷ []) (first ++ Took ∷ (again ++ Gave ∷ [])) (ap (λ (x : List OwnMove). x ++ Gave ∷ []) e
        ∙ append_assoc first (Took ∷ again) (Gave ∷ [])) d;
  })

  has_turned : {old new : MachineCpuValue} (k : ℕ) (up : Bool) (work : Work) (word : ℕ) (moves : List OwnMove) → LooksUpTo k up (turning up) true moves
      → HasDone (moves ++ Began work ∷ Collected word ∷ Gave ∷ []) old new → HasTurned k up work word old new
  has_turned k up work word moves (first, again, a, b, e) d =
      let last : List OwnMove = Began work ∷ Collected word ∷ Gave ∷ [] in
      record {
        first = first;
        again = again;
        found = looks_end k up (turning up) first a;
        found_again = looks_end k up (turning up) again b;
        done = done_as (moves ++ last) (first ++ Took ∷ (again ++ last)) (ap (λ (x : List OwnMove). x ++ last) e ∙ append_assoc first (Took ∷ again) last) d;
      }

  pub gate_held : GateIsHeld hears runs
  gate_held = record {
    polls = λ old new h h' f f' w. has_done [] w (sym (append-nil (told old.stops.moves)));
    short = λ work old new h h' f f' answer s. has_done (Took ∷ Began work ∷ Gave ∷ Collected s.word ∷ []) s.works refl;
    long = λ work old new h h' f f' answer s. has_done (Took ∷ Began work ∷ Collected s.word ∷ Gave ∷ []) s.works refl;
    queued = has_queued hears runs;
    stands = λ k on old new h h' f f' s. (s.count, s.same, has_done (Took ∷ Found k s.count ∷ Gave ∷ []) s.works refl);
    turns = λ t k on old new h h' f f' s.
        let moves : List OwnMove = Took ∷ Found k s.count ∷ Began s.work ∷ Collected s.stopped.word ∷ Gave ∷ [] in
        (s.count, s.other, has_done moves s.stopped.works refl);
    nudged = λ k up old new h h' f f' s.
        (s.count, s.stays.1, s.stays.0, has_looked k up s.count s.gate s.moves s.looks (has_done (s.moves ++ gave_if s.gate) s.works refl));
    refused = λ k up old new h h' f f' s. has_looked k up (last_one up) s.gate s.moves s.looks (has_done (s.moves ++ gave_if s.gate) s.works refl);
    patched = λ t k up old new h h' f f' answer s.
        has_turned k up s.patches.work s.patches.stopped.word s.moves s.looks
        (has_done (s.moves ++ Began s.patches.work ∷ Collected s.patches.stopped.word ∷ Gave ∷ []) s.patches.stopped.works refl);
  }
