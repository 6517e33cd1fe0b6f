use Rattle.std.proofs.Common.{◌≡◌, length, Err, sym, ap, ◌∙◌, arith, refl}
use Rattle.smp_mask.specs.Reading.{mask_of_text, answered}
use Rattle.smp_mask.specs.declared.mask.TheConstants.{NR_CPUS}
use Rattle.smp_mask.proofs.Sets.{none_empty}
use Rattle.smp_mask.proofs.Readers.{read_on, read_stops, read_ends}
use Rattle.smp_mask.proofs.Walks.{means_ok, means_err}
use Rattle.smp_mask.proofs.parse.read.Goals as goal

pub loop-i-init : goal.loop-i-init
loop-i-init c = rw (none_empty _ c.empty.ensures) (refl, refl)

pub loop-i-preserved : goal.loop-i-preserved
loop-i-preserved c = (
  c.in-Some.ensures.live,
  sym (read_on NR_CPUS _ _ c.loop-i.i c.args.text.now 0 c.loop-i-test.true (sym c.step.ensures.reads ∙ c.in-Some.is))
      ∙ c.loop-i.invariant.1,
)

-- the reader stopped at a byte
stopped : (c : goal.In_default) → answered (Err c.loop-i.i) ≡ mask_of_text NR_CPUS c.args.text.now
stopped c = sym (read_stops NR_CPUS _ c.loop-i.i c.args.text.now 0 c.loop-i-test.true (sym c.step.ensures.reads ∙ c.in_default.is)) ∙ c.loop-i.invariant.1

pub returns-in_default-clause-refused : goal.returns-in_default-clause-refused
returns-in_default-clause-refused c = means_err NR_CPUS (omega arith) (omega arith) c.args.text.now (Err c.loop-i.i) (stopped c)

pub returns-in_default-clause-reads : goal.returns-in_default-clause-reads
returns-in_default-clause-reads c = stopped c

-- the reader came to the end
ended : (c : goal.After-ok_or) → answered c.ok_or.result ≡ mask_of_text NR_CPUS c.args.text.now
ended c =
    let all : length c.args.text.now ≡ c.loop-i.i = omega (arith, c.loop-i-test.false, c.loop-i.auto.i-end) in
    let end = read_ends NR_CPUS c.loop-i.reader c.loop-i.i c.args.text.now all in
    ap answered c.ok_or.ensures.value ∙ rw (c.finish.ensures, all) (sym end ∙ c.loop-i.invariant.1)

pub returns-clause-accepted : goal.returns-clause-accepted
returns-clause-accepted c = means_ok NR_CPUS (omega arith) c.args.text.now c.ok_or.result (ended c)

pub returns-clause-refused : goal.returns-clause-refused
returns-clause-refused c = means_err NR_CPUS (omega arith) (omega arith) c.args.text.now c.ok_or.result (ended c)

pub returns-clause-reads : goal.returns-clause-reads
returns-clause-reads c = ended c
