-- What may cross threads, one fact after another.
use denote.Param.Send.{sendable}
use Rattle.smp_machine.proofs.threads.run_scope.Goals as goal

pub scoped-requires : goal.scoped-requires
scoped-requires g c =
    let b = c.type_bounds in record {
      at = λ a. (
        (c.requires.machine, c.requires.members),
        (
          search (sendable, b) depth 30,
          search (sendable, b) depth 30,
          search (sendable, b) depth 30,
          search (sendable, b) depth 30,
          search (sendable, b) depth 30,
          search (sendable, b) depth 30,
          search (sendable, b) depth 30,
        ),
      );
    }
