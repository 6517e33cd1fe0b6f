-- Acknowledging, refilling and raising keep what the words of a slot show.
use Rattle.std.proofs.Common.{◌≡◌, ◌≢◌, ℕ, ◌+◌, ◌-◌, ◌<◌, true, ◌==◌, cond, subst, refl, ap, ◌∙◌, arith, ne_eqb, eq-eqb}
use Rattle.smp_words.proofs.Puts.{at_test, put_all, put_same, put_other}
use Rattle.smp_words.specs.declared.field.Field.TheVariants.{Ack}
use Rattle.smp_stop_steps.specs.{put, behind, count_behind, count_unfinished, weight, AckShows, DoneShows, Keeps, ResultShows, SlotShows, put_field, Ending}
use Rattle.smp_stop_steps.specs.{Inside, Nobody, Raising, Refills, Standing, acked, acknowledged, is_of, refilled, Field, Stop.Stop}
use Rattle.smp_stop_steps.proofs.Basics.Counts.{sum_put, sum_same, sum_zero}

abbrev IsZero : ℕ → Type 0
IsZero n = n ≡ 0

-- who is behind counts 1, who is not counts 0
pub behind_none : (p a l : ℕ) → behind p (Inside a l) ≡ 0 → a ≡ p
behind_none p a l = at_test a p (λ b. IsZero (cond b 0 1) → a ≡ p) (λ e _. e) (λ ne h. absurd (let z : ⊥ = omega (arith, h) in z))

pub behind_one : (p a l : ℕ) → a ≢ p → behind p (Inside a l) ≡ 1
behind_one p a l ne = ap (λ b. cond b 0 1) (ne_eqb a p ne)

pub behind_zero : (p l : ℕ) → behind p (Inside p l) ≡ 0
behind_zero p l = ap (λ b. cond b 0 1) (eq-eqb p p refl)

-- a CPU of the mask that has not acknowledged the phase keeps anybody from raising
pub none_raises : (cpus p : ℕ) (standing : ℕ → Standing) (me a l : ℕ) → standing me ≡ Inside a l → me < cpus → a ≢ p → count_behind cpus p standing ≢ 0
none_raises cpus p standing me a l is small ne zero_ =
    ne (behind_none p a l (subst (λ s. behind p s ≡ 0) is (sum_zero (λ c. behind p (standing c)) cpus zero_ me small)))

-- one CPU goes from the phase before to the phase: one fewer is behind
pub one_fewer : (cpus p : ℕ) (standing : ℕ → Standing) (me a l : ℕ) → standing me ≡ Inside a l → me < cpus → a ≢ p →
    count_behind cpus p (put standing me (Inside p p)) + 1 ≡ count_behind cpus p standing
one_fewer cpus p standing me a l is small ne = let s = sum_put (λ c. behind p (standing c)) (λ c. behind p (put standing me (Inside p p) c)) me cpus small
    (λ j other. ap (behind p) (put_other standing me (Inside p p) j other)) in
    let was : behind p (standing me) ≡ 1 = ap (behind p) is ∙ behind_one p a l ne in
    let now : behind p (put standing me (Inside p p) me) ≡ 0 = ap (behind p) (put_same standing me (Inside p p)) ∙ behind_zero p p in
    omega arith

-- found 1: all others have acknowledged
ack_found : (cpus p : ℕ) (standing : ℕ → Standing) (me ack : ℕ) → count_behind cpus p (put standing me (Inside p p)) + 1 ≡ ack →
    AckShows cpus p (put standing me (Inside p p)) (cond (ack == 1) (Refills me) Nobody) (ack - 1)
ack_found cpus p standing me ack n = search (at_test, put_same, arith)

pub acked_more : (cpus p : ℕ) (standing : ℕ → Standing) (me a l ack : ℕ) (r : Raising) → standing me ≡ Inside a l → me < cpus → a ≢ p →
    AckShows cpus p standing r ack → AckShows cpus p (put standing me (Inside p p)) (cond (ack == 1) (Refills me) r) (ack - 1)
acked_more cpus p standing me a l ack r is small ne h = search (ack_found, one_fewer, none_raises, arith)

-- a CPU that moves inside the stop
module _ (cpus : ℕ) (standing : ℕ → Standing) (me : ℕ) (a l a' l' : ℕ) (is : standing me ≡ Inside a l) where
  unfinished_inside : count_unfinished cpus (put standing me (Inside a' l')) ≡ count_unfinished cpus standing
  unfinished_inside = search (sum_same, put_all, arith)

  result_inside : (n : ℕ) → ResultShows standing n → ResultShows (put standing me (Inside a' l')) n
  result_inside n h = search (put_all, arith)

  done_inside : (e : Ending) (n : ℕ) → DoneShows cpus standing e n → DoneShows cpus (put standing me (Inside a' l')) e n
  done_inside e n h = search (unfinished_inside, arith)

module _ (cpus : ℕ) (stop : Stop) (word : Field → ℕ) (g : SlotShows cpus stop word) (me : ℕ) where
  -- a CPU inside is of an open stop
  pub is_open_inside : (s : Standing) → stop.standing me ≡ s → is_of s ≡ true → stop.is_open ≡ true
  is_open_inside s is of = search (g.members, arith)

  pub keeps_inside : (s : Standing) → stop.standing me ≡ s → Keeps cpus stop.phase me s
  keeps_inside s is = subst (Keeps cpus stop.phase me) is (g.keeps me)

  -- it looked at a new state, which is then the phase, and it has not acknowledged that: fetch_sub of the count
  pub acknowledges_slot : (a : ℕ) → stop.standing me ≡ Inside a (a + 1) →
      SlotShows cpus (acknowledged stop me (a + 1) (word Ack)) (put_field word Ack (word Ack - 1))
  acknowledges_slot a is = search (keeps_inside, is_open_inside, put_all, acked_more, unfinished_inside, done_inside, result_inside, arith)

  -- whoever emptied the count fills it: store of the weight, which is that of the mask
  pub refills_slot : stop.raising ≡ Refills me → stop.is_open ≡ true → stop.phase ≢ 0 →
      SlotShows cpus (refilled stop me) (put_field word Ack (weight cpus stop.standing))
  refills_slot is open_ ne = search (g.shows, arith)

-- one that counts 0 among those of the mask has acknowledged the phase
pub has_acknowledged : (p : ℕ) (s : Standing) → is_of s ≡ true → behind p s ≡ 0 → acked s ≡ p
has_acknowledged p s of z = search (behind_none, arith)
