use Rattle.std.proofs.Common.{◌≡◌, ℕ, ◌<◌, Bool, true, false, Result, Ok, Err, IfOk, List, [], ◌∷◌, ◌++◌, length, slice_index_or, sym, ap, subst, ◌∙◌}
use Rattle.std.proofs.lemmas.List.{append_assoc}
use Rattle.smp_labels.specs.declared.entries.Entry.{Entry}
use Rattle.smp_labels.specs.declared.kinds.SiteKind.{SiteKind}
use Rattle.smp_mask.specs.declared.error.SmpError.{SmpError}
use Rattle.smp_queue.specs.declared.handler.Heard.{Heard}
use Rattle.smp_multi.specs.declared.func.Called.{Called}
use Rattle.smp_multi.specs.Cpu.{CpuValue, TableValue}
use Rattle.smp_multi.specs.Names.{Reading, ReadKey, ReadSite, StopSetting}
use Rattle.smp_multi.specs.Reads.{SiteAnswers, jumps}
use Rattle.smp_machine.specs.Keys.{Reads, Sets}
use Rattle.smp_machine.specs.MachineCpu.{MachineCpuValue}
use Rattle.smp_machine.specs.Seats.{SeatValue}
use Rattle.smp_machine.specs.ReadLaws.{KindsFollowKeys, is_jump}
use Rattle.smp_machine_tests.proofs.tests.users.turn_and_look.Goals as goal

-- a site's reading is last, and the key's is still there
answer_read : KindsFollowKeys → (setting : StopSetting) (mid new : CpuValue) (k i : ℕ) (on : Bool) (r : Result SiteKind SmpError) → mid.setting ≡ setting
    → Reads mid (ReadKey k on) → SiteAnswers i mid new r
    → IfOk r (λ kind. (e : Entry) → e ≡ slice_index_or setting.labels.entries i e → e.key ≡ k → jumps kind ≡ is_jump on e.branch)
answer_read law setting mid new k i on (Ok kind) same read a = λ e at key.
    let is = a.1 in let site = ReadSite i (jumps kind) in let key_on = ReadKey k on in
    let kept : new.setting ≡ setting = ap (λ (c : CpuValue). c.setting) is ∙ same in
    let all : new.part.readings ≡ (read.0 ++ key_on ∷ read.1) ++ site ∷ [] =
    ap (λ (c : CpuValue). c.part.readings) is ∙ ap (λ (rs : List Reading). rs ++ site ∷ []) read.2 in
    law new k i on (jumps kind) e a.2 (read.0, read.1 ++ site ∷ [], all ∙ append_assoc read.0 (key_on ∷ read.1) (site ∷ []))
    (read.0 ++ key_on ∷ read.1, [], all) (subst (λ (s : StopSetting). i < length s.labels.entries) (same ∙ sym kept) a.0.0)
    (subst (λ (s : StopSetting). e ≡ slice_index_or s.labels.entries i e) (sym kept) at) key
answer_read law setting mid new k i on (Err x) same read a = tt

-- the machine's labels are still the CPU's
setting_kept : {H F : Type 0} (hears : H → Heard → H → Type 0) (runs : F → Called → F → Type 0)
    (t : TableValue) (k : ℕ) (on : Bool) (p : MachineCpuValue) (h : H) (f : F)
    (new : MachineCpuValue) (h' : H) (f' : F) (turned : Bool) → Sets hears runs t k on p h f new h' f' turned → new.stops.setting ≡ p.stops.setting
setting_kept hears runs t k on p h f new h' f' false s = s.works.setting_is
setting_kept hears runs t k on p h f new h' f' true s = s.stopped.works.setting_is

pub returns-in-Ok : goal.returns-in-Ok
returns-in-Ok g c =
    let s = c.args.seat.now in let t = c.set_key.new.self in
    let at = subst (λ (x : SeatValue g.row.H.Denot g.row.F.Denot). x.cpu.stops.setting ≡ x.machine.stops.setting) c.seat.view_is
    c.seat.invariant.stops.setting in
    let kept = setting_kept g.H.Handler.leads g.F.StopFunc.leads s.machine.stops c.args.k c.args.on s.cpu s.handler s.functions
    t.cpu t.handler t.functions _ c.in-Ok.ensures.sets in
    answer_read c.kinds_follow_keys.ensures s.machine.stops.setting t.cpu.stops c.read_site.new.self.cpu.stops c.args.k c.args.i c.args.on
    c.read_site.result (kept ∙ at) c.in-Ok.ensures.read c.read_site.ensures.answers
