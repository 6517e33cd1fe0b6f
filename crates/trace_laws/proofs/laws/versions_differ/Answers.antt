use Rattle.std.proofs.Common.{refl, arith}
use Rattle.trace_laws.proofs.laws.versions_differ.Goals as goal

pub returns-clause-unknown : goal.returns-clause-unknown
returns-clause-unknown c = record {
  read = λ u third order unlocks. rw (third, order, unlocks) refl;
  second = λ u third. rw third refl;
  ordered = λ u order. search arith;
  unlocked = λ u unlocks. search arith;
}

pub returns-clause-others : goal.returns-clause-others
returns-clause-others c = record {
  wake = λ u to d third is. rw (third, is) refl;
  irq_work = λ u to d third is. rw (third, is) refl;
  second = λ u to word third. rw third refl;
  wake_written = λ d. refl;
  irq_work_written = λ d. refl;
}

pub returns-clause-numbers : goal.returns-clause-numbers
returns-clause-numbers c = record {
  opened = λ cpu number task. refl;
  collected = λ cpu number answer. refl;
  told = λ cpu number task. refl;
  result = λ cpu number answer. refl;
}
