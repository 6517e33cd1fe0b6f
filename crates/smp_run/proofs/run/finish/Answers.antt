use Rattle.std.proofs.Common.{rules, ◌≡◌, true, refl, sym, ap, subst}
use Rattle.smp_labels.specs.Labels.{Labels}
use Rattle.smp_queue.specs.Cpu.{CpuValue as CallCpuValue}
use Rattle.smp_mask.specs.Mask.{has, IsLeast}
use Rattle.smp_multi.specs.Cpu.{CpuValue as StopCpuValue}
use Rattle.smp_run.specs.Answers.{Answered}
use Rattle.smp_run.proofs.Lines.{all_answered}
use Rattle.smp_run.proofs.Running.{has_asked, run_read}
use Rattle.smp_run.proofs.run.finish.Goals as goal

pub returns : goal.returns
returns g c =
    let m = c.args.machine in let t = m.calls in let lines = c.args.asked.lines.now in let answers = c.args.driven.answers.items in
    let joined = c.requires.joined in let first = c.args.driven.last in let last = c.read_labels.new.me in let read = c.in_ok-read.ensures.read in
    let answered : Answered t.online c.args.asked.labels.now.keys (λ n. has t.online n ≡ true) lines answers =
    subst (λ (x : Labels). Answered t.online x.keys (λ n. has t.online n ≡ true) lines answers) c.requires.labels joined.answered in
    let run = run_read m lines answers first last _ read joined.run in
    record {
      answers = answers;
      answered = all_answered t.online c.args.asked.labels.now.keys lines answers c.requires.lawful answered;
      keys = c.in_ok-read.read.keys.items;
      sites = c.in_ok-read.read.sites.items;
      kinds = c.in_ok-read.ensures.kinds;
      machine = m;
      last = last;
      ending = c.shutdown-audit.result;
      sizes = (refl, refl);
      lowest = subst (λ (x : CallCpuValue). IsLeast (λ n. has t.online n) x.number) (sym read.calls_are) joined.least;
      run = run;
      back = joined.back;
      before = first.stops.part.readings;
      read = ap (λ (x : StopCpuValue). x.part.readings) read.stops_are;
      audited = c.shutdown-audit.ensures.audited;
      equal = c.shutdown-audit.ensures.equal;
      asked = has_asked m lines answers last c.shutdown-audit.result run c.shutdown-audit.ensures.rows;
      left_is = c.is_left-left.ensures;
      text_is = search rules;
    }
