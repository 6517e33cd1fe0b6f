-- What may cross threads, one fact after another.
use denote.Param.Send.{sendable}
use Rattle.smp_machine.proofs.threads.fn.run_scope.scope+FnOnce.call_once.Goals as goal

pub scope-requires : goal.scope-requires
scope-requires g c =
    let b = c.requires in (
      search (sendable, b) depth 30,
      (
        search (sendable, b) depth 30,
        (
          search (sendable, b) depth 30,
          (
            search (sendable, b) depth 30,
            (search (sendable, b) depth 30, (search (sendable, b) depth 30, search (sendable, b) depth 30)),
          ),
        ),
      ),
    )
