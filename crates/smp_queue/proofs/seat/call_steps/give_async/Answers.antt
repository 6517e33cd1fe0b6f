use Rattle.std.proofs.Common.{◌∙◌, ◌∷◌, List, sym, ap}
use Rattle.smp_call_steps.specs.Threads.Handling.{rest_of}
use Rattle.smp_call_steps.proofs.State.Walks.{ends_async}
use Rattle.smp_call_steps.proofs.Knows.Handling.{lives_stands, lives_front}
use Rattle.smp_queue.specs.{Call, KnownCalls}
use Rattle.smp_queue.specs.handle
use Rattle.smp_queue.proofs.Handling.Passing.{begun_as_async, async_out}
use Rattle.smp_queue.proofs.seat.call_steps.give_async.Goals as goal

pub begin_async-requires-clause-class : goal.begin_async-requires-clause-class
begin_async-requires-clause-class g c =
    ends_async (lives_stands c.requires.at.lives (handle.BeginAsync c.args.place.call c.args.place.next) c.requires.at.stage_is).1

pub returns-clause-gives : goal.returns-clause-gives
returns-clause-gives g c =
    let at = c.requires.at in
    let stands = lives_stands at.lives (handle.BeginAsync c.args.place.call c.args.place.next) at.stage_is in
    let class = ends_async stands.1 in
    let batch = stands.1.batch in
    let known = c.begin_async.ensures.known in
    let unlocked = c.begin_async.ensures.unlocked in
    record {
      at = c.begin_async.ensures.at;
      known = known ∙ begun_as_async c.args.place.call c.args.place.next c.args.seat.now.known class;
      batch = batch ∙ ap (λ (calls : List Call). c.args.place.call ∷ calls) (sym (ap (λ (u : KnownCalls). u.part.batch) known ∙ ap rest_of batch));
      in_range = lives_front at.lives c.args.place.call _ batch;
      out = async_out c.begin_async.new.seat.known c.args.place.call unlocked.0 class unlocked.1;
    }
