-- Seats that are made one after the other, and handles that get them one after the other.
use Rattle.std.proofs.Common.{◌≡◌, ℕ, ◌+◌, ◌<◌, ◌≤◌, Bool, true, false, Option, None, Some, List, [], ◌∷◌, ◌++◌, length, length-append, get_or, set}
use Rattle.std.proofs.Common.{inl, inr, ◌⊎◌, sym, ap, subst, ◌∙◌, arith}
use Rattle.std.proofs.lemmas.Bool.{cases_lt}
use Rattle.std.proofs.lemmas.List.{length-set, get_or_push, get_or_append_left, get_or-set_same, get_or-set_other}
use Rattle.std.specs.Global.{Global}
use Rattle.std.specs.declared.boxed.Box.{Box}
use Rattle.smp_mask.specs.Mask.{has}
use Rattle.smp_labels.specs.Labels.{Labels}
use Rattle.smp_queue.specs.Cpu.{BootValue, TableValue, given, is_left}
use Rattle.smp_multi.specs.Cpu.{BootValue as StopBootValue, TableValue as StopTableValue, given as given_stop, is_left as is_left_stop}
use Rattle.smp_tables_c.specs.Opens.{AreLeft, CanOpen, HasSeats, IsFilled, IsSeatOf, Opened, OpenedAt, PutIn, fresh_seat}
use Rattle.smp_tables_c.specs.SeatValue.{SeatValue}
use Rattle.smp_tables_c.specs.declared.handle.SmpCpu.{SmpCpu}

abbrev pub Maybe : Type 0
Maybe = Option (Box SeatValue Global)

-- one seat more
at_push : (calls : TableValue) (stops : StopTableValue) (n online : ℕ) (seats : List Maybe) (x : Maybe) → HasSeats calls stops n online seats
    → IsSeatOf calls stops n (has online n) x → (cpu : ℕ) → cpu < n + 1 → (cpu < n) ⊎ (n ≤ cpu)
    → IsSeatOf calls stops cpu (has online cpu) (get_or (seats ++ x ∷ []) cpu None)
at_push calls stops n online seats x h is cpu low (inl below) =
    let count = h.0 in
    subst (λ (o : Maybe). IsSeatOf calls stops cpu (has online cpu) o) (sym (get_or_append_left seats (x ∷ []) None cpu (omega arith))) (h.1 cpu below)
at_push calls stops n online seats x h is cpu low (inr up) =
    let same : cpu ≡ n = omega arith in
    subst (λ (k : ℕ). IsSeatOf calls stops k (has online k) (get_or (seats ++ x ∷ []) k None)) (sym same)
    (subst (λ (o : Maybe). IsSeatOf calls stops n (has online n) o) (sym (get_or_push seats x None n h.0)) is)

pub seats_more : (calls : TableValue) (stops : StopTableValue) (n online : ℕ) (seats seats' : List Maybe) (x : Maybe) → HasSeats calls stops n online seats
    → IsSeatOf calls stops n (has online n) x → seats' ≡ seats ++ x ∷ [] → HasSeats calls stops (n + 1) online seats'
seats_more calls stops n online seats seats' x h is pushed =
    subst (λ (l : List Maybe). HasSeats calls stops (n + 1) online l) (sym pushed)
    (length-append seats (x ∷ []) ∙ ap (λ (k : ℕ). k + 1) h.0, λ cpu low. at_push calls stops n online seats x h is cpu low (cases_lt cpu n))

-- what a CPU has got is its seat
pub seat_there : (calls calls' : TableValue) (stops stops' : StopTableValue) (n online : ℕ) (b : Box SeatValue Global) (x : Maybe) → true ≡ has online n
    → x ≡ Some b → b.value ≡ fresh_seat calls' stops' n → calls' ≡ calls → stops' ≡ stops → IsSeatOf calls stops n (has online n) x
seat_there calls calls' stops stops' n online b x on there is call_is stop_is =
    subst (λ (o : Bool). IsSeatOf calls stops n o x) on (subst (λ (y : Maybe). IsSeatOf calls stops n true y) (sym there)
    (is ∙ (ap (λ (t : TableValue). fresh_seat t stops' n) call_is ∙ ap (λ (t : StopTableValue). fresh_seat calls t n) stop_is)))

pub no_seat_there : (calls : TableValue) (stops : StopTableValue) (n online : ℕ) (x : Maybe) → false ≡ has online n → x ≡ None
    → IsSeatOf calls stops n (has online n) x
no_seat_there calls stops n online x off none =
    subst (λ (o : Bool). IsSeatOf calls stops n o x) off (subst (λ (y : Maybe). IsSeatOf calls stops n false y) (sym none) tt)

-- the CPUs behind one that was given out, or is not online, are left
pub left_behind : (n online : ℕ) (calls calls' : BootValue) (stops stops' : StopBootValue) → AreLeft n online calls stops → calls' ≡ given n calls
    → stops' ≡ given_stop n stops → AreLeft (n + 1) online calls' stops'
left_behind n online calls calls' stops stops' left call_is stop_is = λ cpu up on. (
  ap (λ (b : BootValue). is_left b cpu) call_is
      ∙ (get_or-set_other calls.left n cpu false false (λ e. omega arith) ∙ (left cpu (omega arith) on).0),
  ap (λ (b : StopBootValue). is_left_stop b cpu) stop_is
      ∙ (get_or-set_other stops.left n cpu false false (λ e. omega arith) ∙ (left cpu (omega arith) on).1),
)

pub left_on : (n online : ℕ) (calls : BootValue) (stops : StopBootValue) → AreLeft n online calls stops → AreLeft (n + 1) online calls stops
left_on n online calls stops left = λ cpu up on. left cpu (omega arith) on

-- the handles below i have got what was there for them
pub record Filling (i : ℕ) (given left : List Maybe) (old new : List SmpCpu) : Type 0 where
  pub left_sized : length left ≡ length given
  pub sized : length new ≡ length old
  pub left_are : (c : ℕ) → i ≤ c → get_or left c None ≡ get_or given c None
  pub put : (c : ℕ) (d : SmpCpu) → c < i → PutIn (get_or given c None) (get_or old c d) (get_or new c d)
  pub rest : (c : ℕ) (d : SmpCpu) → i ≤ c → get_or new c d ≡ get_or old c d

set_at : (i : ℕ) (given left : List Maybe) (old new : List SmpCpu) (after : SmpCpu) → Filling i given left old new → i < length old
    → ((d : SmpCpu) → PutIn (get_or given i None) (get_or old i d) after) → (c : ℕ) (d : SmpCpu) → c < i + 1 → (c < i) ⊎ (i ≤ c)
    → PutIn (get_or given c None) (get_or old c d) (get_or (set new i after) c d)
set_at i given left old new after f low put c d near (inl below) =
    subst (λ (x : SmpCpu). PutIn (get_or given c None) (get_or old c d) x) (sym (get_or-set_other new i c after d (omega arith))) (f.put c d below)
set_at i given left old new after f low put c d near (inr up) =
    let same : c ≡ i = omega arith in
    let size = f.sized in
    subst (λ (k : ℕ). PutIn (get_or given k None) (get_or old k d) (get_or (set new i after) k d)) (sym same)
    (subst (λ (x : SmpCpu). PutIn (get_or given i None) (get_or old i d) x) (sym (get_or-set_same new i after d (omega arith))) (put d))

-- one handle more has got its seat
pub put_more : (i : ℕ) (given left : List Maybe) (old new : List SmpCpu) (b : Box SeatValue Global) (after : SmpCpu) → Filling i given left old new
    → i < length given → length given ≤ length old → get_or left i None ≡ Some b → after.held.seat ≡ Some b.value
    → Filling (i + 1) given (set left i None) old (set new i after)
put_more i given left old new b after f low room there got = record {
  left_sized = length-set left i None ∙ f.left_sized;
  sized = length-set new i after ∙ f.sized;
  left_are = λ c up. get_or-set_other left i c None None (omega arith) ∙ f.left_are c (omega arith);
  put = λ c d near. set_at i given left old new after f (omega arith)
      (λ e. subst (λ (x : Maybe). PutIn x (get_or old i e) after) (sym there ∙ f.left_are i (omega arith)) got) c d near (cases_lt c i);
  rest = λ c d up. get_or-set_other new i c after d (omega arith) ∙ f.rest c d (omega arith);
}

still_at : (i : ℕ) (given left : List Maybe) (old new : List SmpCpu) → Filling i given left old new → get_or given i None ≡ None
    → (c : ℕ) (d : SmpCpu) → c < i + 1 → (c < i) ⊎ (i ≤ c) → PutIn (get_or given c None) (get_or old c d) (get_or new c d)
still_at i given left old new f none c d near (inl below) = f.put c d below
still_at i given left old new f none c d near (inr up) =
    let same : c ≡ i = omega arith in
    subst (λ (k : ℕ). PutIn (get_or given k None) (get_or old k d) (get_or new k d)) (sym same)
    (subst (λ (x : Maybe). PutIn x (get_or old i d) (get_or new i d)) (sym none) (f.rest i d (omega arith)))

-- one that has none stays
pub put_none : (i : ℕ) (given left : List Maybe) (old new : List SmpCpu) → Filling i given left old new → get_or left i None ≡ None
    → Filling (i + 1) given (set left i None) old new
put_none i given left old new f none = record {
  left_sized = length-set left i None ∙ f.left_sized;
  sized = f.sized;
  left_are = λ c up. get_or-set_other left i c None None (omega arith) ∙ f.left_are c (omega arith);
  put = λ c d near. still_at i given left old new f (sym (f.left_are i (omega arith)) ∙ none) c d near (cases_lt c i);
  rest = λ c d up. f.rest c d (omega arith);
}

-- all have got theirs
pub filled : (i : ℕ) (given left : List Maybe) (old new : List SmpCpu) → Filling i given left old new → i ≡ length given → IsFilled given old new
filled i given left old new f all = (f.sized, (λ c d low. f.put c d (omega arith)), λ c d up. f.rest c d (omega arith))

opened_at : (calls : TableValue) (stops : StopTableValue) (cpu : ℕ) (online : Bool) (x : Maybe) (old new : SmpCpu) → IsSeatOf calls stops cpu online x
    → PutIn x old new → OpenedAt calls stops cpu online old new
opened_at calls stops cpu true (Some b) old new is put = put ∙ ap Some is
opened_at calls stops cpu true None old new is put = absurd is
opened_at calls stops cpu false (Some b) old new is put = absurd is
opened_at calls stops cpu false None old new is put = put

-- all CPUs that are online have got their seats
pub all_opened : (calls : TableValue) (stops : StopTableValue) (nr online : ℕ) (labels : Labels) (seats given : List Maybe) (old new : List SmpCpu)
    → given ≡ seats → HasSeats calls stops nr online seats → IsFilled given old new → CanOpen nr online labels old → calls.nr ≡ nr → calls.online ≡ online
    → stops.nr ≡ nr → stops.setting ≡ record { online = online; labels = labels } → Opened nr online labels old new
all_opened calls stops nr online labels seats given old new same h f can call_nr call_online stop_nr setting =
    let size = h.0 in
    let room = can.room in
    let g = subst (λ (l : List Maybe). IsFilled l old new) same f in
    record {
      can = can;
      sized = g.0;
      calls = calls;
      stops = stops;
      calls_are = (call_nr, call_online);
      stops_are = (stop_nr, setting);
      opened = λ c d low. opened_at calls stops c (has online c) (get_or seats c None) (get_or old c d) (get_or new c d) (h.1 c low)
          (g.1 c d (omega arith));
      others = λ c d up. g.2 c d (omega arith);
    }
