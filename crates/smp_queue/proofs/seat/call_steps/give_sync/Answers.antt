use Rattle.std.proofs.Common.{◌∙◌, ◌∷◌, List, sym, ap}
use Rattle.smp_call_steps.specs.Threads.Handling.{rest_of}
use Rattle.smp_call_steps.proofs.State.Walks.{walks_sync}
use Rattle.smp_call_steps.proofs.Knows.Handling.{lives_stands, lives_front}
use Rattle.smp_queue.specs.{Call, KnownCalls}
use Rattle.smp_queue.specs.handle
use Rattle.smp_queue.proofs.Handling.Passing.{begun_as_sync, sync_out}
use Rattle.smp_queue.proofs.seat.call_steps.give_sync.Goals as goal

pub begin_sync-requires-clause-class : goal.begin_sync-requires-clause-class
begin_sync-requires-clause-class g c =
    walks_sync (lives_stands c.requires.at.lives (handle.BeginSync c.args.place.walk c.args.place.call c.args.place.next) c.requires.at.stage_is).1

pub returns-clause-gives : goal.returns-clause-gives
returns-clause-gives g c =
    let at = c.requires.at in
    let stands = lives_stands at.lives (handle.BeginSync c.args.place.walk c.args.place.call c.args.place.next) at.stage_is in
    let class = walks_sync stands.1 in
    let batch = stands.1.batch in
    let known = c.begin_sync.ensures.known in
    let named = c.begin_sync.ensures.named in
    record {
      at = c.begin_sync.ensures.at;
      known = known ∙ begun_as_sync c.args.place.walk c.args.place.call c.args.place.next c.args.seat.now.known class;
      batch = batch ∙ ap (λ (calls : List Call). c.args.place.call ∷ calls) (sym (ap (λ (u : KnownCalls). u.part.batch) known ∙ ap rest_of batch));
      in_range = lives_front at.lives c.args.place.call _ batch;
      out = sync_out c.begin_sync.new.seat.known c.args.place.call c.args.number named.0 class (ap (λ (u : KnownCalls). u.number) known ∙ c.requires.me)
          (ap (λ (u : KnownCalls). u.part.running) known) named.1;
    }
