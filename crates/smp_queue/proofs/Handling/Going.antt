-- A step of a CPU inside handle that tells nothing of the calls: where it is then, and what it knows.
use Rattle.std.proofs.Common.{arith, ◌≡◌, ℕ, ◌%◌, Option, Some, refl, ap, ◌∙◌, sym, subst}
use Rattle.atomic_table.specs.Seated.{TableId}
use Rattle.smp_words.specs.Access.{word_of}
use Rattle.smp_call_steps.specs.Drains.{record_at, unlink_after, handle_outcome, by_class, FitsFound, reverse_on, first_on}
use Rattle.smp_words.specs.Flags.{class_of}
use Rattle.smp_queue.specs.{Sync, Word, Flags, Func, Info, Next, KnownCalls, Walk, HandleStage, Stage, Handle, SeatValue, Loads, InHandle}
use Rattle.smp_call_steps.specs.Threads.Known.{known_access, CallMoment}
use Rattle.smp_call_steps.specs.Threads.Handling.{goes_known}
use Rattle.smp_call_steps.proofs.Knows.Handling.{lives_fits, next_found_is, func_found_is, info_found_is, flags_found_is, lives_locked}
use Rattle.smp_queue.proofs.Handling.Handles.{in_handle_then}
use Rattle.smp_queue.specs.handle

-- a CPU in its first pass that has come to a record
pub first_at : {t : TableId} {d : SeatValue} {here : Option ℕ} {id : ℕ} (walk : Walk) → here ≡ Some id → InHandle t d (first_on walk here)
    → InHandle t d (handle.LoadNext walk id)
first_at {t} {d} walk e h = subst (λ (x : Option ℕ). InHandle t d (first_on walk x)) e h

module _ {t : TableId} {d : SeatValue} (d' : SeatValue) {h : HandleStage} (at : InHandle t d h) (id n : ℕ) where
  pub next_known : Loads t d d' (Next id) n → d'.known ≡ goes_known h n d.known
  next_known l = l.known ∙ next_found_is d.known h id n at.stage_is

  pub next_goes : (h' : HandleStage) → Loads t d d' (Next id) n → (handle_outcome d.known.drain h n).next ≡ Some (Handle h') → InHandle t d' h'
  next_goes h' l e = in_handle_then t d' h' (goes_known h n d.known) at.sized l.table l.lives (next_known l) e

-- what is found fits
pub found_fits : (t : TableId) (d d' : SeatValue) (h : HandleStage) → InHandle t d h → (w : Word) (n : ℕ) → Loads t d d' w n
    → word_of (known_access d.known (Handle h)) ≡ w → FitsFound h n
found_fits t d d' h at w n l e = search (lives_fits, arith)

-- a CPU that reverses its chain, between two records
pub record Reversing (t : TableId) (before d : SeatValue) (here next : Option ℕ) (calls : ℕ) : Type 0 where
  pub at : InHandle t d (reverse_on here next)
  pub calls_are : calls ≡ d.known.drain.calls
  pub known_is : d.known ≡ record (before.known) { stage = d.known.stage; drain = d.known.drain }

-- what is found at some time fits
pub moment_fits : (t : TableId) (d : SeatValue) (h : HandleStage) → InHandle t d h → (w : Word) (n : ℕ) → CallMoment d.known w n
    → word_of (known_access d.known (Handle h)) ≡ w → FitsFound h n
moment_fits t d h at w n m e = search (lives_fits, arith)

-- three loads after one another, of a record of the second pass
module _ {t : TableId} {d d1 : SeatValue} (d2 d3 : SeatValue) (id : ℕ) {n : ℕ} (func info : ℕ) (at : InHandle t d (handle.AsyncNext id))
    (l1 : Loads t d d1 (Next id) n) where
  pub async_func_at : InHandle t d1 (handle.AsyncFunc id (record_at n))
  async_func_at = next_goes d1 at id n (handle.AsyncFunc id (record_at n)) l1 refl

  module _ (l2 : Loads t d1 d2 (Func id) func) where
    pub async_info_at : InHandle t d2 (handle.AsyncInfo id (record_at n) func)
    async_info_at = search (in_handle_then, func_found_is, arith)

    module _ (l3 : Loads t d2 d3 (Info id) info) where
      pub async_known : d3.known ≡ record (d.known) { stage = d3.known.stage }
      async_known = search (next_known, func_found_is, info_found_is, arith)

-- two loads after one another, of a SYNC record of the first pass
module _ {t : TableId} {d d1 : SeatValue} (d2 : SeatValue) (walk : Walk) (id : ℕ) (next : Option ℕ) {func : ℕ} (info : ℕ)
    (at : InHandle t d (handle.LoadFunc walk id next)) (l1 : Loads t d d1 (Func id) func) where
  pub sync_info_at : InHandle t d1 (handle.LoadInfo walk id next func)
  sync_info_at = search (in_handle_then, func_found_is, arith)

  module _ (l2 : Loads t d1 d2 (Info id) info) where
    pub sync_goes : (h : HandleStage) → unlink_after walk.last walk (record { id = id; class = Sync; func = func; info = info }) next ≡ h → InHandle t d2 h
    sync_goes h e = search (in_handle_then, arith)

-- steps that change what a CPU knows by its stage alone, after others that did
pub kept_on : (v v1 v2 : KnownCalls) → v1 ≡ record v { stage = v1.stage } → v2 ≡ record v1 { stage = v2.stage } → v2 ≡ record v { stage = v2.stage }
kept_on v v1 v2 k1 k2 = k2 ∙ ap (λ (u : KnownCalls). record u { stage = v2.stage }) k1

-- two loads after one another, by which a CPU in its first pass learns the class of a record
module _ {t : TableId} {d d1 : SeatValue} (d2 : SeatValue) (walk : Walk) (id : ℕ) {n : ℕ} (flags : ℕ) (at : InHandle t d (handle.LoadNext walk id))
    (l1 : Loads t d d1 (Next id) n) where
  pub sync_flags_at : InHandle t d1 (handle.LoadFlags walk id (record_at n))
  sync_flags_at = next_goes d1 at id n (handle.LoadFlags walk id (record_at n)) l1 refl

  module _ (l2 : Loads t d1 d2 (Flags id) flags) where
    found_lock : flags % 2 ≡ 1
    found_lock = ap (λ (k : ℕ). k % 2) l2.moment.number_is ∙ lives_locked l2.moment.lives walk id (record_at n) sync_flags_at.stage_is

    class_known : d2.known ≡ goes_known (handle.LoadFlags walk id (record_at n)) flags (goes_known (handle.LoadNext walk id) n d.known)
    class_known =
        l2.known ∙ (flags_found_is d1.known (handle.LoadFlags walk id (record_at n)) id flags sync_flags_at.stage_is found_lock
        ∙ ap (goes_known (handle.LoadFlags walk id (record_at n)) flags) (next_known d1 at id n l1))

    pub class_goes : (h : HandleStage) → by_class (class_of flags) walk id (record_at n) ≡ h → InHandle t d2 h
    class_goes h e = search (in_handle_then, arith)

    pub class_kept : d2.known ≡ record (d.known) { stage = d2.known.stage }
    class_kept = class_known ∙ ap (λ (x : Option Stage). record (d.known) { stage = x }) (sym (ap (λ (u : KnownCalls). u.stage) class_known))
