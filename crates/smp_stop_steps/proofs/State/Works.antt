-- Opening, entering, looking, answering, completing and collecting keep what the words of a slot show.
use Rattle.std.proofs.Common.{◌≡◌, ◌≢◌, ℕ, true, false, sym, subst, refl, ap, ◌∙◌, ◌⊎◌, inr, arith}
use Rattle.smp_words.proofs.Puts.{put_all, put_same, put_other}
use Rattle.smp_words.specs.declared.field.Field.TheVariants.{Done, Result, Roll, State}
use Rattle.smp_stop_steps.specs.{put, behind, count_behind, count_unfinished, mask_weight, one, unfinished, weight, IsNot, IsThrough, AckShows, DoneShows}
use Rattle.smp_stop_steps.specs.{HasGiven, Keeps, ResultShows, SlotShows, put_field, Answering, Called, Ending, Inside, Outside, Raising, Standing, is_called}
use Rattle.smp_stop_steps.specs.{is_of, stands, Field, has, Stop.Stop}
use Rattle.smp_stop_steps.proofs.{Basics.Counts.sum_same, State.Phases.is_open_inside, State.Phases.keeps_inside}
use Rattle.smp_stop_steps.specs.Names.{EXIT}

-- a CPU whose standing changes to one that counts the same
module _ (cpus : ℕ) (standing : ℕ → Standing) (me p : ℕ) (to : Standing) (same : behind p to ≡ behind p (standing me)) (of : is_of to ≡ is_of (standing me))
  where
    pub behind_kept : count_behind cpus p (put standing me to) ≡ count_behind cpus p standing
    behind_kept = sum_same (λ c. behind p (standing c)) (λ c. behind p (put standing me to c)) cpus
        (λ j _. put_all (λ j s. behind p s ≡ behind p (standing j)) standing me to same (λ j ne. refl) j)

    weight_kept : weight cpus (put standing me to) ≡ weight cpus standing
    weight_kept = sum_same (λ c. one (standing c)) (λ c. one (put standing me to c)) cpus (search (put_all, arith))

    pub ack_kept : (r : Raising) (ack : ℕ) → IsNot me r → AckShows cpus p standing r ack → AckShows cpus p (put standing me to) r ack
    ack_kept r ack ne h = search (behind_kept, put_other, weight_kept, arith)

module _ (cpus : ℕ) (standing : ℕ → Standing) (me : ℕ) (to : Standing) (same : unfinished to ≡ unfinished (standing me)) where
  pub unfinished_kept : count_unfinished cpus (put standing me to) ≡ count_unfinished cpus standing
  unfinished_kept = sum_same (λ c. unfinished (standing c)) (λ c. unfinished (put standing me to c)) cpus
      (λ j _. put_all (λ j s. unfinished s ≡ unfinished (standing j)) standing me to same (λ j ne. refl) j)

  pub done_kept : (e : Ending) (n : ℕ) → DoneShows cpus standing e n → DoneShows cpus (put standing me to) e n
  done_kept e n h = search (unfinished_kept, arith)

-- what is known of the answers
pub result_kept : (standing : ℕ → Standing) (me : ℕ) (to : Standing) (n : ℕ) → ((w : ℕ) → HasGiven to w → (HasGiven (standing me) w) ⊎ (w ≡ 0)) →
    ((w : ℕ) → HasGiven (standing me) w → HasGiven to w) →
    ResultShows standing n → ResultShows (put standing me to) n
result_kept standing me to n back on h = search (put_all, arith)

pub called_is : (s : Standing) → is_called s ≡ true → s ≡ Called
called_is s e = search arith

pub outside_is : (s : Standing) → is_of s ≡ false → s ≡ Outside
outside_is s e = search arith

-- one that does not raise, by its standing
pub not_raising : (cpus p : ℕ) (standing : ℕ → Standing) (me ack : ℕ) (r : Raising) → standing me ≢ Inside p p → AckShows cpus p standing r ack → IsNot me r
not_raising cpus p standing me ack r ne h = search arith

module _ (cpus : ℕ) (stop : Stop) (word : Field → ℕ) (g : SlotShows cpus stop word) (me : ℕ) where
  -- its bit was found: fetch_and of the roll
  pub enters_slot : (n : ℕ) → has (word Roll) me ≡ true → has n me ≡ false → ((c : ℕ) → c ≢ me → has n c ≡ has (word Roll) c) →
      SlotShows cpus (stands stop me (Inside 0 0)) (put_field word Roll n)
  enters_slot n found here others =
      search (called_is, is_open_inside, keeps_inside, put_all, ack_kept, not_raising, unfinished_kept, done_kept, result_kept, arith)

  -- it looks at the state, which is the one that it acknowledged or the next
  pub looks_slot : (a l : ℕ) → stop.standing me ≡ Inside a l → a ≢ EXIT → IsNot me stop.raising → SlotShows cpus (stands stop me (Inside a (word State))) word
  looks_slot a l is more calm_ = search (is_open_inside, keeps_inside, put_all, ack_kept, unfinished_kept, done_kept, result_kept, arith)

  -- an answer that is not 0 goes into the result word
  pub answers_slot : (a l v : ℕ) → stop.standing me ≡ Inside a l → v ≢ 0 → IsThrough stop me a →
      SlotShows cpus (stands stop me (Answering a v)) (put_field word Result v)
  answers_slot a l v is some through = let to = Answering a v in
      let o = g.shows (is_open_inside cpus stop word g me (Inside a l) is refl) in
      let k = keeps_inside cpus stop word g me (Inside a l) is in
      record {
        members = search (put_all, g.members, arith);
        roll = put_all (λ c s. has (word Roll) c ≡ is_called s) stop.standing me to (g.roll me ∙ ap is_called is) (λ c ne. g.roll c);
        keeps = put_all (λ c s. Keeps cpus stop.phase c s) stop.standing me to (k.0, k.1, through.0, k.4) (λ c ne. g.keeps c);
        shows = λ _. record {
          written = record { kind = o.written.kind; mask = o.written.mask; active = o.written.active; func = o.written.func; arg = o.written.arg };
          state = o.state;
          bound = o.bound;
          ack = search (ack_kept, o.ack, arith);
          calm = o.calm;
          kinds = o.kinds;
          todo = o.todo ∙ sym (unfinished_kept cpus stop.standing me to (sym (ap unfinished is)));
          done = done_kept cpus stop.standing me to (sym (ap unfinished is)) stop.ending (word Done) o.done;
          result = inr (some, (me, subst (λ s. HasGiven s v) (sym (put_same stop.standing me to)) refl));
        };
      }

-- the weight that a CPU reads off the mask is the number of those of it
pub weight_of_mask : (cpus : ℕ) (stop : Stop) (word : Field → ℕ) → SlotShows cpus stop word → stop.is_open ≡ true → weight cpus stop.standing ≡ mask_weight
    cpus stop.work.mask
weight_of_mask cpus stop word g open_ = search (sum_same, g.members, arith)
