-- A key and one of its sites, read one after the other.
use Rattle.std.proofs.Common.{◌≡◌, ℕ, ◌<◌, Bool, Ok, [], ◌∷◌, ◌++◌, length, slice_index_or, sym, ap, subst, ◌∙◌}
use Rattle.std.proofs.lemmas.List.{append_assoc}
use Rattle.smp_labels.specs.declared.entries.Entry.{Entry}
use Rattle.smp_labels.specs.declared.kinds.SiteKind.{SiteKind}
use Rattle.smp_multi.specs.Cpu.{CpuValue}
use Rattle.smp_multi.specs.Names.{ReadKey, ReadSite, StopSetting}
use Rattle.smp_multi.specs.Reads.{KeyAnswers, SiteAnswers, jumps}
use Rattle.smp_machine.specs.ReadLaws.{KindsFollowKeys, is_jump}

pub look_is : KindsFollowKeys → (old mid new : CpuValue) (site : ℕ) (on : Bool) (kind : SiteKind) → KeyAnswers 0 old mid (Ok on)
    → SiteAnswers site mid new (Ok kind) → (e : Entry) → e ≡ slice_index_or old.setting.labels.entries site e → e.key ≡ 0 → jumps kind ≡ is_jump on e.branch
look_is law old mid new site on kind k s e at key =
    let key_on = ReadKey 0 on in let jump = ReadSite site (jumps kind) in let before = old.part.readings in
    let later : new.setting ≡ mid.setting = ap (λ (c : CpuValue). c.setting) s.1 in
    let same : new.setting ≡ old.setting = later ∙ ap (λ (c : CpuValue). c.setting) k.1.3 in
    let all : new.part.readings ≡ (before ++ key_on ∷ []) ++ jump ∷ [] =
    ap (λ (c : CpuValue). c.part.readings) s.1 ∙ ap (λ (c : CpuValue). c.part.readings ++ jump ∷ []) k.1.3
    ∙ ap (λ (b : Bool). (before ++ ReadKey 0 b ∷ []) ++ jump ∷ []) (sym k.1.2) in
    law new 0 site on (jumps kind) e s.2 (before, jump ∷ [], all ∙ append_assoc before (key_on ∷ []) (jump ∷ [])) (before ++ key_on ∷ [], [], all)
    (subst (λ (x : StopSetting). site < length x.labels.entries) (sym later) s.0.0)
    (subst (λ (x : StopSetting). e ≡ slice_index_or x.labels.entries site e) (sym same) at) key
