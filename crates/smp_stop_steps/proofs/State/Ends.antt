-- Opening, completing and collecting, and the function law.
use Rattle.std.proofs.Common.{◌≡◌, ◌≢◌, ℕ, ◌+◌, ◌-◌, ◌<◌, true, false, ◌==◌, ◌&&◌, cond, sym, refl, ap, ◌∙◌, ◌⊎◌, arith}
use Rattle.smp_words.proofs.Puts.{at_test, put_all, put_same, put_other}
use Rattle.smp_words.specs.declared.field.Field.TheVariants.{Done, Result, Roll, Todo}
use Rattle.smp_stop_steps.specs.{put, behind, count_unfinished, mask_weight, unfinished, FunctionLaw, IsAnswer, IsResult, IsThrough, DoneShows, HasGiven}
use Rattle.smp_stop_steps.specs.{IsStored, Keeps, ResultShows, SlotShows, put_field, Completed, Ending, Inside, Last, Outside, Standing, answer_of, closed}
use Rattle.smp_stop_steps.specs.{completed, ended, is_called, is_of, opened, Field, Work, has, Stop.Stop}
use Rattle.smp_stop_steps.proofs.{Basics.Counts.sum_put, Basics.Counts.sum_same, Basics.Counts.sum_zero, State.Phases.is_open_inside, State.Phases.keeps_inside}
use Rattle.smp_stop_steps.proofs.{State.Raises.in_machine, State.Raises.level_of, State.Works.ack_kept, State.Works.outside_is, State.Works.result_kept}
use Rattle.smp_stop_steps.specs.Names.{DISABLE_IRQ, RUN, EXIT}

-- what an answering CPU has: its parts, whichever way it answers
abbrev IsUnfinished : Standing → Type 0
IsUnfinished s = unfinished s ≡ 1

module _ (p a v : ℕ) where
  pub answer_unfinished : (s : Standing) → IsAnswer s a v → IsUnfinished s
  answer_unfinished s h = search arith

  pub answer_of_it : (s : Standing) → IsAnswer s a v → is_of s ≡ true
  answer_of_it s h = search arith

  answer_called : (s : Standing) → IsAnswer s a v → is_called s ≡ false
  answer_called s h = search arith

  answer_behind : (s : Standing) → IsAnswer s a v → behind p (Completed a v) ≡ behind p s
  answer_behind s h = search arith

  answer_back : (s : Standing) → IsAnswer s a v → (w : ℕ) → v ≡ w → HasGiven s w ⊎ (w ≡ 0)
  answer_back s h w e = search arith

  answer_on : (s : Standing) → IsAnswer s a v → (w : ℕ) → HasGiven s w → v ≡ w
  answer_on s h w e = search arith

  answer_keeps : (cpus c : ℕ) (s : Standing) → IsAnswer s a v → ((a ≡ EXIT) ⊎ (p ≡ 0)) → Keeps cpus p c s → Keeps cpus p c (Completed a v)
  answer_keeps cpus c s h t k = search arith

-- found 1: all others have completed
module _ (cpus : ℕ) (standing : ℕ → Standing) (me a v todo : ℕ) (small : me < cpus) (is : IsUnfinished (standing me)) (was : todo ≡ count_unfinished cpus
    standing) where
  one_less : count_unfinished cpus (put standing me (Completed a v)) + 1 ≡ todo
  one_less = let s = sum_put (λ c. unfinished (standing c)) (λ c. unfinished (put standing me (Completed a v) c)) me cpus small (search (put_other, arith)) in
      let now : unfinished (put standing me (Completed a v) me) ≡ 0 = ap unfinished (put_same standing me (Completed a v)) in
      omega arith

  some_left : count_unfinished cpus standing ≢ 0
  some_left z = let e : unfinished (standing me) ≡ 0 = sum_zero (λ c. unfinished (standing c)) cpus z me small in let f : unfinished (standing me) ≡ 1 =
      is in omega arith

  done_more : (e : Ending) (done : ℕ) → DoneShows cpus standing e done → DoneShows cpus (put standing me (Completed a v)) (cond (todo == 1) (Last me) e) done
  done_more e done h = search (at_test, one_less, some_left, arith)

module _ (cpus : ℕ) (stop : Stop) (word : Field → ℕ) (g : SlotShows cpus stop word) (me : ℕ) where
  -- fetch_sub of todo
  pub completes_slot : (a v : ℕ) → IsAnswer (stop.standing me) a v → IsThrough stop me a →
      SlotShows cpus (completed stop me a v (word Todo)) (put_field word Todo (word Todo - 1))
  completes_slot a v is through = let to = Completed a v in
      let of = answer_of_it stop.phase a v (stop.standing me) is in
      let o = g.shows (is_open_inside cpus stop word g me (stop.standing me) refl of) in
      let small = in_machine cpus stop.phase me (stop.standing me) of (g.keeps me) in
      let left = answer_unfinished stop.phase a v (stop.standing me) is in
      record {
        members = put_all (λ c s. is_of s ≡ (stop.is_open && has stop.work.mask c)) stop.standing me to (sym of ∙ g.members me) (λ c ne. g.members c);
        roll = search (put_all, g.roll, answer_called, arith);
        keeps = search (put_all, answer_keeps, g.keeps, arith);
        shows = λ _. record {
          written = record { kind = o.written.kind; mask = o.written.mask; active = o.written.active; func = o.written.func; arg = o.written.arg };
          state = o.state;
          bound = o.bound;
          ack = search (ack_kept, answer_behind, through.1, o.ack, arith);
          calm = o.calm;
          kinds = o.kinds;
          todo = let l = one_less cpus stop.standing me a v (word Todo) small left o.todo in omega arith;
          done = done_more cpus stop.standing me a v (word Todo) small left o.todo stop.ending (word Done) o.done;
          result = result_kept stop.standing me to (word Result) (answer_back stop.phase a v (stop.standing me) is) (answer_on stop.phase a v
              (stop.standing me) is) o.result;
        };
      }

  -- store of done by the last
  pub finishes_slot : stop.ending ≡ Last me → SlotShows cpus (ended stop) (put_field word Done 1)
  finishes_slot is = search (g.shows, arith)

  -- a CPU that looked at a new phase, 3: its function may run
  pub function_law : stop.standing me ≡ Inside DISABLE_IRQ RUN → FunctionLaw stop me
  function_law is = search (keeps_inside, is_open_inside, g.members, level_of, g.keeps, arith)

module _ (cpus : ℕ) (stop : Stop) (word : Field → ℕ) (g : SlotShows cpus stop word) where
  pub all_outside : stop.is_open ≡ false → (c : ℕ) → stop.standing c ≡ Outside
  all_outside shut c = outside_is (stop.standing c) (g.members c ∙ ap (λ b. b && has stop.work.mask c) shut)

  -- store of roll
  pub opens_slot : (work : Work) → ((c : ℕ) → has work.mask c ≡ true → c < cpus) → mask_weight cpus work.mask ≢ 0 → IsStored cpus word work 10 →
      SlotShows cpus (opened stop work) (put_field word Roll work.mask)
  opens_slot work below some b = search (work.mask, sum_same, work.kind, arith)

  -- done is 1: all have completed, and the result word is the result of their answers
  pub collects_slot : stop.is_open ≡ true → word Done ≡ 1 →
      IsResult stop.work.mask (λ c. answer_of (stop.standing c)) (word Result) × SlotShows cpus (closed stop) word
  collects_slot open_ found = search (answered, g.roll, not_called, each, arith)
    where
      each : count_unfinished cpus stop.standing ≡ 0 → (c : ℕ) → is_of (stop.standing c) ≡ true → unfinished (stop.standing c) ≡ 0
      each z c of = sum_zero (λ c. unfinished (stop.standing c)) cpus z c (in_machine cpus stop.phase c (stop.standing c) of (g.keeps c))

      not_called : (s : Standing) → (is_of s ≡ true → unfinished s ≡ 0) → is_called s ≡ false
      not_called s h = search arith

      given : (s : Standing) → is_of s ≡ true → (is_of s ≡ true → unfinished s ≡ 0) → HasGiven s (answer_of s)
      given s of h = search arith

      given_of : (s : Standing) (w : ℕ) → HasGiven s w → (is_of s ≡ true) × (answer_of s ≡ w)
      given_of s w h = search arith

      answered : count_unfinished cpus stop.standing ≡ 0 → ResultShows stop.standing (word Result) →
          IsResult stop.work.mask (λ c. answer_of (stop.standing c)) (word Result)
      answered z h = search (given, each, given_of, arith)
