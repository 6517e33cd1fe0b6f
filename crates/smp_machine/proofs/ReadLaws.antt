-- One lawful table agrees with all readings of a CPU, so readings of a key and of its sites agree.
use Rattle.std.proofs.Common.{◌≡◌, ℕ, ◌<◌, ◌≤◌, Bool, true, false, Option, Some, List, [], ◌∷◌, ◌++◌, length, map, refl}
use Rattle.std.proofs.Common.{sym, ap, subst, ◌∙◌, arith}
use Rattle.std.proofs.lemmas.List.{get_or-map, length-map}
use Rattle.std.specs.List.{AllByRecursion}
use Rattle.smp_labels.specs.Entries.{entry_word, entry_at}
use Rattle.smp_labels.specs.Keys.{is_on}
use Rattle.smp_labels.specs.Kinds.{kind_of, kind_word}
use Rattle.smp_labels.specs.Law.{site_word}
use Rattle.smp_labels.specs.declared.entries.Entry.{Entry}
use Rattle.smp_labels.proofs.Lawful.{entry_at-word}
use Rattle.smp_multi.specs.Names.{ReadKey, ReadSite}
use Rattle.smp_stop_steps.specs.Labels.{Agrees}
use Rattle.smp_machine.specs.ReadLaws.{KindsFollowKeys, is_jump}

-- what holds of all of a list holds of one that is in it
all_at : {X : Type 0} (P : X → Type 0) (before after : List X) (x : X) → AllByRecursion P (before ++ x ∷ after) → P x
all_at P [] after x all = all.0
all_at P (y ∷ before) after x all = all_at P before after x all.1

-- the word of a site's kind says whether it jumps
word_jumps : (on branch : Bool) → is_on (kind_word (kind_of on branch)) ≡ is_jump on branch
word_jumps true true = refl
word_jumps true false = refl
word_jumps false true = refl
word_jumps false false = refl

pub kinds_follow : KindsFollowKeys
kinds_follow c k i on jump e one key_read site_read below at key =
    let t = one.labels in let entries = c.setting.labels.entries in
    let few : i < 16 = (let l : length (map entry_word entries) ≤ 16 = one.entries.few in omega (arith, length-map entries entry_word, l, below)) in
    let word : t.entry i ≡ entry_word e = one.entries.read i few ∙ get_or-map entry_word entries i e 0 below ∙ ap entry_word (sym at) in
    let found : entry_at (t.entry i) ≡ Some e = ap (λ (w : ℕ). entry_at w) word ∙ entry_at-word e in
    let site : t.site i ≡ kind_word (kind_of (is_on (t.key e.key)) e.branch) =
    one.lawful.sites i few ∙ ap (λ (x : Option Entry). site_word t.key x) found in
    let key_said : is_on (t.key k) ≡ on = all_at (Agrees t) key_read.0 key_read.1 (ReadKey k on)
    (subst (λ rs. AllByRecursion (Agrees t) rs) key_read.2 one.agrees) in
    let site_said : is_on (t.site i) ≡ jump =
    all_at (Agrees t) site_read.0 site_read.1 (ReadSite i jump) (subst (λ rs. AllByRecursion (Agrees t) rs) site_read.2 one.agrees) in
    let on_said : is_on (t.key e.key) ≡ on = ap (λ (n : ℕ). is_on (t.key n)) key ∙ key_said in
    sym site_said ∙ ap is_on site ∙ word_jumps (is_on (t.key e.key)) e.branch ∙ ap (λ (b : Bool). is_jump b e.branch) on_said
