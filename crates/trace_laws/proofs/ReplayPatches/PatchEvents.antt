-- What the events of a patch make of a state that leaves nothing out, and what is left of the patch after each.
use Rattle.trace_laws.proofs.Names.{APatch, Key, LabelWords, List, None, Ok, Option, Patch, Place, Site, Some, StateValue, Stop, [], ack_by, acked_by}
use Rattle.trace_laws.proofs.Names.{acknowledged, answer_wanted, ap, arith, change_of, count_after, count_at, cpu_at, eq-eqb, false, false≢true, get_or, has}
use Rattle.trace_laws.proofs.Names.{key_number, length, lt-leb, lt-ltb, next_store, patch_by, patch_left, patch_to, popped, pos, refl}
use Rattle.trace_laws.proofs.Names.{stop_at, stored, true, with_patch, with_stop, with_word, ℕ, ◌++◌, ◌<◌, ◌∙◌, ◌∷◌, ◌≡◌, ◌≤◌}
use Rattle.trace_laws.proofs.ReplayNames.{Calling, Change, HasLeft, LabelsShow, Leads, MadeIs, PartIs, Patches, Patching, Setup, Without, Word, Work, as_i32}
use Rattle.trace_laws.proofs.ReplayNames.{count_or, labels_in, nothing_left_out, patch_answer, patch_now, plan_at, plan_of}
use Rattle.smp_labels.specs.Law.{Table}
use Rattle.smp_words.specs.declared.word.Word.TheVariants.{Key as KeyWord}
use Rattle.smp_stop_steps.specs.Labels.{answer_for}
use Rattle.trace_model.specs.Stop.{answer_by}
use Rattle.trace_laws.proofs.ReplayPatches.PlannedStores.{plan_leads}
use Rattle.smp_words.specs.declared.phase.TheConstants.{RUN}

-- the active CPU of a patch, at RUN, which it has not acknowledged
module _ (s : StateValue) (me : ℕ) (whole : s.setting.without ≡ nothing_left_out) (source : ℕ) (below : source < 64)
    (inside : (cpu_at s me).inside ≡ Some source) (kind : (stop_at s source).task.kind ≡ APatch) (active : has (stop_at s source).task.active me ≡ true)
    (low : acked_by (stop_at s source) me < RUN) (at : (stop_at s source).phase ≡ RUN) where
  -- it makes the store that is next
  pub makes_key : (key word : ℕ) → next_store source s ≡ Some (Key key, word)
      → patch_by me (Key key) word s ≡ Ok (with_patch source (popped (patch_left source s) (Key key)) (with_word (Key key) word s))
  unfolding patch_by
  makes_key key word next =
      rw (
        inside,
        lt-ltb source 64 below,
        kind,
        active,
        lt-leb RUN (acked_by (stop_at s source) me) low,
        eq-eqb (stop_at s source).phase RUN at,
        next,
        eq-eqb key key refl,
        eq-eqb word word refl,
      ) refl

  pub makes_site : (site word : ℕ) → next_store source s ≡ Some (Site site, word)
      → patch_by me (Site site) word s ≡ Ok (with_patch source (popped (patch_left source s) (Site site)) (with_word (Site site) word s))
  unfolding patch_by
  makes_site site word next =
      rw (
        inside,
        lt-ltb source 64 below,
        kind,
        active,
        lt-leb RUN (acked_by (stop_at s source) me) low,
        eq-eqb (stop_at s source).phase RUN at,
        next,
        eq-eqb site site refl,
        eq-eqb word word refl,
      ) refl

  -- it acknowledges the phase once its patch is over
  pub acks_patch : next_store source s ≡ None
      → ack_by me RUN s
      ≡ Ok (with_stop source (with_patch source (patch_left source s) s) (acknowledged me RUN true (stop_at
      (with_patch source (patch_left source s) s) source)))
  unfolding ack_by
  acks_patch over =
      rw (
        inside,
        lt-ltb source 64 below,
        kind,
        lt-leb RUN (acked_by (stop_at s source) me) low,
        eq-eqb (stop_at s source).phase RUN at,
        active,
        kind,
        over,
        ap (λ (w : Without). w.switches) whole,
        ap (λ (w : Without). w.raises) whole,
      ) refl

-- stores change no entry, so that what is left of a patch is the same
pub leads_stored : (place : Place) (word : ℕ) (words : LabelWords) (key : ℕ) (patch : Patch) (rest : List Change) → Leads words key patch rest
    → Leads (stored place word words) key patch rest
leads_stored (Key k) word words key patch [] l = l
leads_stored (Key k) word words key patch (next ∷ rest) l = (l.0, leads_stored (Key k) word words key (popped patch next.0) rest l.1)
leads_stored (Site i) word words key patch [] l = l
leads_stored (Site i) word words key patch (next ∷ rest) l = (l.0, leads_stored (Site i) word words key (popped patch next.0) rest l.1)

-- nor what is told of the CPU that makes it
pub made_stored : (place : Place) (word : ℕ) (words : LabelWords) (patching : Patching) (calling : Calling) (told : Option Patch)
    → MadeIs words patching calling told → MadeIs (stored place word words) patching calling told
made_stored place word words patching calling told h1 = search (leads_stored, arith)

-- the model's entries are the machine's
abbrev pub AreEntries : Setup → LabelWords → Type 0
AreEntries u words = (j : ℕ) → j < 16 → get_or words.entries j 0 ≡ get_or u.entries j 0

module _ (u : Setup) (words : LabelWords) (work : Work) (count : ℕ) (few : length u.entries ≤ 16) (entries : AreEntries u words) (small : work.func < 4) where
  -- and at any time to what the machine has left
  pub part_leads : (stop : Stop) (made rest : List Change) → stop.task.func ≡ work.func → stop.task.arg ≡ work.arg → PartIs words work.func made rest stop.patch
      → (made ≡ [] → (count_at words work.func ≡ count) × (plan_at u work count ≡ rest)) → Leads words work.func (patch_now words stop) rest
  part_leads stop made rest h1 h2 h3 h4 = search (plan_leads, arith)

-- once the next store is made, the rest is left, and it is told
pub part_stored : (words : LabelWords) (key : ℕ) (stop : Stop) (made rest : List Change) (change : Change) → PartIs words key made (change ∷ rest) stop.patch
    → Leads words key (patch_now words stop) (change ∷ rest)
    → HasLeft (stored change.0 change.1 words) key rest (Some (popped (patch_now words stop) change.0))
part_stored words key stop made rest change h1 h2 = search (false≢true, leads_stored, arith)

-- A patch that has made a store answers 0.
answer_made : (key count : ℕ) (new : Option ℕ) (entries : List ℕ) (change : Change) (more : List Change)
    → plan_of key count (count_or count new) entries ≡ change ∷ more → answer_for new ≡ 0
answer_made key count new entries change more h1 = search (eq-eqb, arith)

answer_to : (old : ℕ) (new : Option ℕ) → answer_by (Some (patch_to old new)) true ≡ as_i32 (answer_for new)
answer_to old new = search arith

-- what the model wants of the CPU that has patched is what the machine answers
pub answers_patch : (u : Setup) (words : LabelWords) (work : Work) (count : ℕ) (stop : Stop) (made rest : List Change) → work.func < 4
    → stop.task.func ≡ work.func → stop.task.arg ≡ work.arg → PartIs words work.func made rest stop.patch
    → (made ≡ [] → count_at words work.func ≡ count) → ((change : Change) (more : List Change) → made ≡ change ∷ more → plan_at u work count ≡ change ∷
    (more ++ rest))
    → answer_by (Some (patch_now words stop)) true ≡ as_i32 (patch_answer work count)
answers_patch u words work count stop [] rest small func arg part first later =
    let k : key_number work.func ≡ work.func = omega (arith, small) in
    rw (part, func, arg, k, first refl) (answer_to count (count_after (change_of work.arg) count))
answers_patch u words work count stop (change ∷ made) rest small func arg part first later =
    rw (
      part.told_is,
      part.edge,
      answer_made work.func count (count_after (change_of work.arg) count) u.entries change (made ++ rest) (later change made refl),
    ) refl

-- While a patch has made no store, its key has the count that the machine has found.
pub count_found : (at : Word → ℕ) (cpu count : ℕ) (work : Work) (rest : List Change) → LabelsShow (Patches cpu work count [] rest) (labels_in at)
    → at (KeyWord work.func) ≡ count
count_found at cpu count work rest k = ap (λ (t : Table). t.key work.func) k.2 ∙ k.3

-- a CPU of a patch that does not patch is to answer 0
pub others_answer : (stop : Stop) (me : ℕ) → has stop.task.active me ≡ false → answer_wanted stop me ≡ pos 0
others_answer stop me h1 = search (pos, arith)
