-- What a CPU has read of the labels, one reading after the other, and why it is lawful.
use Rattle.std.proofs.Common.{◌≡◌, ℕ, zero, suc, ◌+◌, ◌<◌, ◌≤◌, Bool, true, Option, Some, List, [], ◌∷◌, ◌++◌, length, slice_index_or, map, refl, sym}
use Rattle.std.proofs.Common.{ap, subst, ◌∙◌}
use Rattle.std.proofs.Common.{Ok, append_assoc, append-nil, arith, length-append}
use Rattle.std.proofs.lemmas.List.{get_or-map, length-map}
use Rattle.std.proofs.lemmas.List.Elements.{All-get_or}
use Rattle.std.specs.List.{AllByRecursion}
use Rattle.smp_labels.specs.Entries.{entry_word, entry_at}
use Rattle.smp_labels.specs.Keys.{is_on}
use Rattle.smp_labels.specs.Kinds.{kind_of, kind_word}
use Rattle.smp_labels.specs.Labels.{Labels, AreLabels}
use Rattle.smp_labels.specs.Law.{site_word}
use Rattle.smp_labels.specs.declared.entries.Entry.{Entry}
use Rattle.smp_labels.specs.declared.kinds.SiteKind.{SiteKind}
use Rattle.smp_labels.specs.declared.kinds.SiteKind.TheVariants.{Nop, Jmp}
use Rattle.smp_labels.proofs.Lawful.{entry_at-word}
use Rattle.smp_mask.specs.Mask.{has}
use Rattle.smp_machine.specs.Passes.{PassesValue}
use Rattle.smp_machine.specs.MachineCpu.{MachineValue, MachineCpuValue}
use Rattle.smp_multi.specs.Cpu.{CpuValue}
use Rattle.smp_multi.specs.Names.{OwnMove, Reading, ReadKey, ReadSite}
use Rattle.smp_multi.specs.Reads.{KeyAnswers, SiteAnswers, ReadsOneTable, jumps, reads}
use Rattle.smp_queue.specs.Cpu.{CpuValue as CallCpuValue}
use Rattle.smp_stop_steps.specs.Labels.{Agrees}
use Rattle.smp_stop_steps.specs.declared.known.OwnMove.TheVariants.{Found}
use Rattle.smp_run.specs.Readings.{HasRead, HaveKinds, IsLook, ReadsMore, reads_by, key_reading, site_reading, keys_read, sites_read}
use Rattle.smp_run.specs.Seats.{IsSeated}
use Rattle.smp_run.specs.Text.{numbered}
use Rattle.smp_run.proofs.Numbering.{numbered_one}

-- ---- one reading after the other

looks_join : (xs ys : List OwnMove) → AllByRecursion IsLook xs → AllByRecursion IsLook ys → AllByRecursion IsLook (xs ++ ys)
looks_join [] ys a b = b
looks_join (x ∷ xs) ys a b = (a.0, looks_join xs ys a.1 b)

reads_none : (c : CpuValue) → c ≡ reads_by [] [] c
reads_none c =
    let none : c.steps ≡ c.steps + 0 = omega arith in
    λ i. record c { part = record (c.part) { readings = sym (append-nil c.part.readings) i }; moves = sym (append-nil c.moves) i; steps = none i }

reads_then : (xs ys : List OwnMove) (rs ss : List Reading) (c : CpuValue) → reads_by ys ss (reads_by xs rs c) ≡ reads_by (xs ++ ys) (rs ++ ss) c
reads_then xs ys rs ss c =
    let both = length-append rs ss in
    let made : c.steps + length rs + length ss ≡ c.steps + length (rs ++ ss) = omega arith in
    λ i. record c {
      part = record (c.part) { readings = append_assoc c.part.readings rs ss i };
      moves = append_assoc c.moves xs ys i;
      steps = made i;
    }

-- a reading leaves the CPU where it is
seated_reads : (m : MachineValue) (old new : MachineCpuValue) (looks : List OwnMove) (reading : Reading) → new.calls ≡ old.calls → new.passes ≡ old.passes
    → new.stops ≡ reads_by looks (reading ∷ []) old.stops → IsSeated m old → IsSeated m new
seated_reads m old new looks reading calls passes stops seated = record {
  at = record {
    calls = ap (λ (c : CallCpuValue). c.table) calls ∙ seated.at.calls;
    stops = record {
      table = ap (λ (c : CpuValue). c.table) stops ∙ seated.at.stops.table;
      setting = ap (λ (c : CpuValue). c.setting) stops ∙ seated.at.stops.setting;
    };
    queues = ap (λ (p : PassesValue). p.queues) passes ∙ seated.at.queues;
  };
  free = ap (λ (c : CpuValue). c.inside) stops ∙ seated.free;
  online = subst (λ (n : ℕ). has m.calls.online n ≡ true) (sym (ap (λ (c : CallCpuValue). c.number) calls)) seated.online;
}

-- a key was read, or a site
pub key_more : (m : MachineValue) (old new : MachineCpuValue) (k : ℕ) (on : Bool) → IsSeated m old → KeyAnswers k old.stops new.stops (Ok on)
    → new.calls ≡ old.calls → new.passes ≡ old.passes → ReadsMore m (ReadKey k on) old new
key_more m old new k on seated a calls passes =
    let count : ℕ = a.1.0 in
    let looks : List OwnMove = Found k count ∷ [] in
    let stops : new.stops ≡ reads_by looks (ReadKey k on ∷ []) old.stops =
    a.1.3 ∙ ap (λ (b : Bool). reads_by looks (ReadKey k b ∷ []) old.stops) (sym a.1.2) in
    record {
      seated = seated_reads m old new looks (ReadKey k on) calls passes stops seated;
      calls_are = calls;
      looks = looks;
      are_looks = (tt, tt);
      stops_are = stops;
      one_table = a.2;
    }

pub site_more : (m : MachineValue) (old new : MachineCpuValue) (i : ℕ) (kind : SiteKind) → IsSeated m old → SiteAnswers i old.stops new.stops (Ok kind)
    → new.calls ≡ old.calls → new.passes ≡ old.passes → ReadsMore m (ReadSite i (jumps kind)) old new
site_more m old new i kind seated a calls passes =
    let reading : Reading = ReadSite i (jumps kind) in
    let stops : new.stops ≡ reads_by [] (reading ∷ []) old.stops =
    a.1 ∙ (λ x. record (reads reading old.stops) { moves = sym (append-nil old.stops.moves) x }) in
    record {
      seated = seated_reads m old new [] reading calls passes stops seated;
      calls_are = calls;
      looks = [];
      are_looks = tt;
      stops_are = stops;
      one_table = a.2;
    }

-- nothing yet
pub none_read : {X : Type 0} (f : ℕ → X → List Reading) (m : MachineValue) (p : MachineCpuValue) → IsSeated m p → HasRead m p p (numbered f 0 [])
unfolding numbered
none_read f m p seated = record {
  seated = seated;
  calls_are = refl;
  looks = [];
  are_looks = tt;
  stops_are = reads_none p.stops;
}

-- one item more
pub more_read : {X : Type 0} (f : ℕ → X → List Reading) (m : MachineValue) (old mid new : MachineCpuValue) (xs : List X) (x : X) (n : ℕ) (reading : Reading)
    → length xs ≡ n → f n x ≡ reading ∷ [] → HasRead m old mid (numbered f 0 xs) → ReadsMore m reading mid new
    → HasRead m old new (numbered f 0 (xs ++ x ∷ []))
more_read f m old mid new xs x n reading long one was more =
    let here : f (0 + length xs) x ≡ reading ∷ [] = ap (λ (k : ℕ). f k x) (omega (arith, long)) ∙ one in
    let all : numbered f 0 (xs ++ x ∷ []) ≡ numbered f 0 xs ++ reading ∷ [] = numbered_one f 0 xs x ∙ ap (λ t. numbered f 0 xs ++ t) here in
    record {
      seated = more.seated;
      calls_are = more.calls_are ∙ was.calls_are;
      looks = was.looks ++ more.looks;
      are_looks = looks_join was.looks more.looks was.are_looks more.are_looks;
      stops_are = more.stops_are ∙ (ap (λ (c : CpuValue). reads_by more.looks (reading ∷ []) c) was.stops_are
          ∙ (reads_then was.looks more.looks (numbered f 0 xs) (reading ∷ []) old.stops
          ∙ ap (λ (rs : List Reading). reads_by (was.looks ++ more.looks) rs old.stops) (sym all)));
    }

-- the labels are still those of the machine
pub same_labels : (m : MachineValue) (old mid new : MachineCpuValue) (labels : Labels) → IsSeated m old → mid.stops.setting ≡ old.stops.setting
    → new.stops.setting ≡ mid.stops.setting → m.stops.setting.labels ≡ labels → new.stops.setting.labels ≡ labels
same_labels m old mid new labels seated e f same = rw (f, e, seated.at.stops.setting) same

all_first : {X : Type 0} (P : X → Type 0) (xs ys : List X) → AllByRecursion P (xs ++ ys) → AllByRecursion P xs
all_first P [] ys all = tt
all_first P (x ∷ xs) ys all = (all.0, all_first P xs ys all.1)

all_last : {X : Type 0} (P : X → Type 0) (xs ys : List X) → AllByRecursion P (xs ++ ys) → AllByRecursion P ys
all_last P [] ys all = all
all_last P (x ∷ xs) ys all = all_last P xs ys all.1

all_numbered : {X Y : Type 0} (P : Y → Type 0) (f : ℕ → X → List Y) (n : ℕ) (xs : List X) → AllByRecursion P (numbered f n xs) → (i : ℕ) (d : X) → i < length xs
    → AllByRecursion P (f (n + i) (slice_index_or xs i d))
unfolding numbered
all_numbered P f n [] all i d below = absurd (omega arith)
all_numbered P f n (x ∷ xs) all zero d below =
    subst (λ (k : ℕ). AllByRecursion P (f k x)) (omega arith) (all_first P (f n x) (numbered f (n + 1) xs) all)
all_numbered P f n (x ∷ xs) all (suc i) d below =
    subst (λ (k : ℕ). AllByRecursion P (f k (slice_index_or xs i d))) (omega arith)
    (all_numbered P f (n + 1) xs (all_last P (f n x) (numbered f (n + 1) xs) all) i d (omega arith))

all_from_zero : {X Y : Type 0} (P : Y → Type 0) (f : ℕ → X → List Y) (xs : List X) → AllByRecursion P (numbered f 0 xs) → (i : ℕ) (d : X) → i < length xs
    → AllByRecursion P (f i (slice_index_or xs i d))
all_from_zero P f xs all i d below = subst (λ (k : ℕ). AllByRecursion P (f k (slice_index_or xs i d))) (omega arith) (all_numbered P f 0 xs all i d below)

-- whether a site jumps tells its kind
word_jumps : (kind : SiteKind) → is_on (kind_word kind) ≡ jumps kind
word_jumps Nop = refl
word_jumps Jmp = refl

same_kind : (a b : SiteKind) → jumps a ≡ jumps b → a ≡ b
same_kind Nop Nop e = refl
same_kind Jmp Jmp e = refl
same_kind Nop Jmp e = absurd (cc e)
same_kind Jmp Nop e = absurd (cc e)

-- the word of a site, by its entry
site_is : (c : CpuValue) (one : ReadsOneTable c) (i : ℕ) (e : Entry) → i < length c.setting.labels.entries
    → one.labels.site i ≡ kind_word (kind_of (is_on (one.labels.key (slice_index_or c.setting.labels.entries i e).key))
    (slice_index_or c.setting.labels.entries i e).branch)
site_is c one i e below =
    let t = one.labels in let entries = c.setting.labels.entries in let entry = slice_index_or entries i e in
    let few : i < 16 = (let l : length (map entry_word entries) ≤ 16 = one.entries.few in omega (arith, length-map entries entry_word, l, below)) in
    let word : t.entry i ≡ entry_word entry = one.entries.read i few ∙ get_or-map entry_word entries i e 0 below in
    let found : entry_at (t.entry i) ≡ Some entry = ap (λ (w : ℕ). entry_at w) word ∙ entry_at-word entry in
    one.lawful.sites i few ∙ ap (λ (x : Option Entry). site_word t.key x) found

-- the kinds of all sites, by what was read of all keys and all sites in one table
pub kinds_read : (labels : Labels) (keys : List Bool) (sites : List SiteKind) (c : CpuValue) (front : List Reading) → AreLabels labels.keys labels.entries
    → c.setting.labels ≡ labels → length keys ≡ labels.keys → length sites ≡ length labels.entries
    → c.part.readings ≡ (front ++ keys_read keys) ++ sites_read sites → (0 < length labels.entries → ReadsOneTable c) → HaveKinds labels keys sites
kinds_read labels keys sites c front known same keys_sized sites_sized readings one_if = record {
  keys_sized = keys_sized;
  sites_sized = sites_sized;
  kinds = λ i e s b below.
      let one = one_if (omega (arith, below)) in let t = one.labels in
      let entry = slice_index_or labels.entries i e in
      let all : AllByRecursion (Agrees t) ((front ++ keys_read keys) ++ sites_read sites) =
      subst (λ (rs : List Reading). AllByRecursion (Agrees t) rs) readings one.agrees in
      let key_below : entry.key < labels.keys = All-get_or (λ (x : Entry). x.key < labels.keys) labels.entries i e below known.known in
      let key_in : entry.key < length keys = omega (arith, key_below, keys_sized) in
      let site_in : i < length sites = omega (arith, below, sites_sized) in
      let key_said : is_on (t.key entry.key) ≡ slice_index_or keys entry.key b =
      (all_from_zero (Agrees t) key_reading keys (all_last (Agrees t) front (keys_read keys)
      (all_first (Agrees t) (front ++ keys_read keys) (sites_read sites) all)) entry.key b key_in).0 in
      let site_said : is_on (t.site i) ≡ jumps (slice_index_or sites i s) =
      (all_from_zero (Agrees t) site_reading sites (all_last (Agrees t) (front ++ keys_read keys) (sites_read sites) all) i s site_in).0 in
      let word : t.site i ≡ kind_word (kind_of (is_on (t.key entry.key)) entry.branch) =
      subst (λ (x : Labels). (i < length x.entries) → t.site i ≡ kind_word
      (kind_of (is_on (t.key (slice_index_or x.entries i e).key)) (slice_index_or x.entries i e).branch)) same
      (λ low. site_is c one i e low) below in
      let kind = kind_of (slice_index_or keys entry.key b) entry.branch in
      let told : t.site i ≡ kind_word kind = word ∙ ap (λ (x : Bool). kind_word (kind_of x entry.branch)) key_said in
      same_kind (slice_index_or sites i s) kind (sym site_said ∙ ap (λ (w : ℕ). is_on w) told ∙ word_jumps kind);
}

-- the keys, and then the sites
pub both_read : (m : MachineValue) (old mid new : MachineCpuValue) (xs ys : List Reading) → HasRead m old mid xs → HasRead m mid new ys →
    HasRead m old new (xs ++ ys)
both_read m old mid new xs ys f l = record {
  seated = l.seated;
  calls_are = l.calls_are ∙ f.calls_are;
  looks = f.looks ++ l.looks;
  are_looks = looks_join f.looks l.looks f.are_looks l.are_looks;
  stops_are = l.stops_are ∙ (ap (λ (c : CpuValue). reads_by l.looks ys c) f.stops_are ∙ reads_then f.looks l.looks xs ys old.stops);
}
