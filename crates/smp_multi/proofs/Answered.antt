-- Which steps leave the answer that a CPU carries, and which take one.
use Rattle.std.proofs.Common.{◌≡◌, ◌⊎◌, ℕ, ◌+◌, inl, inr, ap, ◌∙◌}
use Rattle.smp_stop_steps.specs.Threads.Known.{carrying}
use Rattle.smp_stop_steps.specs.Threads.Moves.{MayStep, Move, Acknowledge, AcknowledgePatch, Count, CountGiven}
use Rattle.smp_multi.specs.Names.{KnownStops, StopSeatView, In, Rests}
use Rattle.smp_multi.specs.AnswerLaws.{KeepsAnswers, TakesAnswers, IsActiveAtRun, HasPatched}
use Rattle.smp_multi.specs.Plays.{loaded, stored, exchanged, subtracted, answered, masked}
use Rattle.smp_multi.specs.Rule.{known}
use Rattle.smp_multi.specs.Seat.{Ends}
use Rattle.smp_multi.proofs.Carrying.{load_keeps, store_keeps, exchange_keeps, sub_keeps, and_keeps}

abbrev carried_in : StopSeatView → ℕ
carried_in s = (known s).carried

pub loads_keep : KeepsAnswers loaded
loads_keep st m m' n w e t = ap carried_in (t.1 w e).1 ∙ load_keeps (known m.0) w n

pub stores_keep : KeepsAnswers stored
stores_keep st m m' n w e t = ap carried_in (t.1 w e) ∙ store_keeps (known m.0) w st.first

pub exchanges_keep : KeepsAnswers exchanged
exchanges_keep st m m' n w e t = ap carried_in (t.1 w e).1 ∙ exchange_keeps (known m.0) w n _

pub subtracts_keep : KeepsAnswers subtracted
subtracts_keep st m m' n w e t = ap carried_in (t.1 w e).1 ∙ sub_keeps (known m.0) w n _

pub masks_keep : KeepsAnswers masked
masks_keep st m m' n w e t = ap carried_in (t.1 w e).1 ∙ and_keeps _ (known m.0) w n _

-- where a CPU is that makes such a step
ends_at : (v : KnownStops) (x : ℕ) (m : Move) → MayStep v m → Ends v x m → IsActiveAtRun v ⊎ (HasPatched v x ⊎ (x ≡ 0))
ends_at v x (Acknowledge s w a) may ends = inl (s, w, may.0 ∙ ap (λ b. In s w b (b + 1) Rests) ends.0, ends.1)
ends_at v x (AcknowledgePatch s w count made) may ends = inr (inl (s, w, count, made, may, ends))
ends_at v x (Count s w a l) may ends = inr (inr ends)
ends_at v x (CountGiven s w a y) may ends = inr (inr ends)
ends_at v x _ may ends = absurd ends

pub answers_taken : TakesAnswers answered
answers_taken x st m m' n w e t =
    let told = t.1 w e in
    (ap carried_in told.1 ∙ sub_keeps (carrying x (known m.0)) w n _, ends_at (known m.0) x told.0.0.move told.0.0.may told.0.1)
