-- What calls of a CPU make of its stops.
use Rattle.std.proofs.Common.{◌≡◌, ◌≢◌, ℕ, ℤ, pos, ◌+◌, ◌<◌, Bool, true, false, inl, inr, Result, Ok, Err, IfOk, IfErr, List, [], ◌∷◌, ◌++◌}
use Rattle.std.proofs.Common.{length, map, slice_index_or, slice_set, append_assoc, refl, sym, ap, subst, ◌∙◌, arith}
use Rattle.std.specs.List.{AllByRecursion, flat_map}
use Rattle.std.proofs.lemmas.Bool.{cases_eq}
use Rattle.std.proofs.lemmas.List.{append-nil, map-append, flat_map_more, get_or-set_same, get_or-set_other, get_or_default, get_or_push}
use Rattle.std.proofs.lemmas.List.{get_or_append_left, length_push}
use Rattle.smp_mask.specs.declared.error.SmpError.{SmpError}
use Rattle.smp_mask.specs.declared.error.SmpError.TheVariants as error
use Rattle.smp_queue.specs.declared.handler.Heard.{Heard}
use Rattle.smp_multi.specs.Cpu.{TableValue, CpuValue as StopCpuValue}
use Rattle.smp_multi.specs.Names.{Work}
use Rattle.smp_multi.specs.declared.func.Called.{Called}
use Rattle.smp_machine.specs.Calls.{KeepsStops}
use Rattle.smp_machine.specs.Counts.{PatchesByOne, step_of}
use Rattle.smp_machine.specs.Keys.{IsPatchOf}
use Rattle.smp_multi.specs.Names.{OwnMove}
use Rattle.smp_stop_steps.specs.declared.known.OwnMove.TheVariants.{Took, Found}
use Rattle.smp_machine.specs.Moves.{patch_after}
use Rattle.smp_machine.specs.Own.{Own, own_of}
use Rattle.smp_machine.specs.MachineCpu.{MachineValue, MachineCpuValue}
use Rattle.smp_machine.specs.Seats.{SeatCounts, SeatSets, SeatStopped, SeatValue}
use Rattle.smp_machine.specs.Stops.{HasStopped}
use Rattle.smp_machine.specs.Works.{Works}
use Rattle.smp_script.specs.declared.directive.Directive.{Directive}
use Rattle.smp_script.specs.declared.directive.Directive.TheVariants.{Do}
use Rattle.smp_script.specs.declared.request.Request.{Request}
use Rattle.smp_script.specs.declared.request.Request.TheVariants.{Set}
use Rattle.smp_run.specs.Answers.{IsAnswer, answer_of}
use Rattle.smp_run.specs.Made.{Stop, Making, HasMade, IsOneStop, IsStopOf, IsStopOfCount, Makes, IsMaking, IsLineMade, AreLinesMade, stops_of}
use Rattle.smp_run.specs.Seats.{keys_at}
use Rattle.smp_run.specs.declared.answer.Answer.{Answer}
use Rattle.smp_run.specs.declared.answer.Answer.TheVariants.{Number, Turned}

-- no stop was begun, and none collected
made_none : (old new : MachineCpuValue) → new.stops.part.begun ≡ old.stops.part.begun → new.stops.part.collected ≡ old.stops.part.collected → HasMade [] old new
made_none old new b c = record { begun = b ∙ sym (append-nil old.stops.part.begun); collected = c ∙ sym (append-nil old.stops.part.collected) }

pub made_same : (old new : MachineCpuValue) → new ≡ old → HasMade [] old new
made_same old new e =
    made_none old new (ap (λ (p : MachineCpuValue). p.stops.part.begun) e) (ap (λ (p : MachineCpuValue). p.stops.part.collected) e)

-- by a call of a family
pub made_called : (old new : MachineCpuValue) → KeepsStops old new → HasMade [] old new
made_called old new k =
    made_none old new (ap (λ (c : StopCpuValue). c.part.begun) k.stops_are) (ap (λ (c : StopCpuValue). c.part.collected) k.stops_are)

-- these stops, and then those
pub made_then : (xs ys : List Stop) (old mid new : MachineCpuValue) → HasMade xs old mid → HasMade ys mid new → HasMade (xs ++ ys) old new
made_then xs ys old mid new f l = record {
  begun = l.begun ∙ (ap (λ (zs : List Work). zs ++ map (λ (s : Stop). s.work) ys) f.begun
      ∙ (append_assoc old.stops.part.begun (map (λ (s : Stop). s.work) xs) (map (λ (s : Stop). s.work) ys)
      ∙ ap (λ (zs : List Work). old.stops.part.begun ++ zs) (sym (map-append (λ (s : Stop). s.work) xs ys))));
  collected = l.collected ∙ (ap (λ (zs : List ℕ). zs ++ map (λ (s : Stop). s.word) ys) f.collected
      ∙ (append_assoc old.stops.part.collected (map (λ (s : Stop). s.word) xs) (map (λ (s : Stop). s.word) ys)
      ∙ ap (λ (zs : List ℕ). old.stops.part.collected ++ zs) (sym (map-append (λ (s : Stop). s.word) xs ys))));
}

pub made_as : (xs ys : List Stop) (old new : MachineCpuValue) → xs ≡ ys → HasMade xs old new → HasMade ys old new
made_as xs ys old new e s = subst (λ (l : List Stop). HasMade l old new) e s

module _ {H F : Type 0} (hears : H → Heard → H → Type 0) (runs : F → Called → F → Type 0) where
  -- a stretch of work that begins and collects no stop
  made_worked : (old new : MachineCpuValue) (h h' : H) (f f' : F) (own : Own) → Works hears runs old h f new h' f' own
      → own.begun ≡ old.stops.part.begun → own.collected ≡ old.stops.part.collected → HasMade [] old new
  made_worked old new h h' f f' own w b c =
      made_none old new (ap (λ (o : Own). o.begun) w.own_is ∙ b) (ap (λ (o : Own). o.collected) w.own_is ∙ c)

  pub made_polled : (old new : MachineCpuValue) (h h' : H) (f f' : F) → Works hears runs old h f new h' f' (own_of old) → HasMade [] old new
  made_polled old new h h' f f' w = made_worked old new h h' f f' (own_of old) w refl refl

  -- a stop
  made_stop : (moves : Work → ℕ → List OwnMove) (work : Work) (old new : MachineCpuValue) (h h' : H) (f f' : F) (answer : ℤ)
      → (s : HasStopped hears runs moves work old h f new h' f' answer) → HasMade (record { work = work; word = s.word } ∷ []) old new
  made_stop moves work old new h h' f f' answer s = record {
    begun = ap (λ (o : Own). o.begun) s.works.own_is;
    collected = ap (λ (o : Own). o.collected) s.works.own_is;
  }

  pub makes_stop : (moves : Work → ℕ → List OwnMove) (P : Work → Type 0) (old new : SeatValue H F) (made : Result ℤ SmpError)
      → IfOk made (λ v. (work : Work) × P work × SeatStopped hears runs moves work old new v) → IfErr made (λ _. new ≡ old)
      → (stops : List Stop) × IsStopOf P (answer_of Number made) stops × HasMade stops old.cpu new.cpu
  makes_stop moves P old new (Ok v) ok kept =
      let s = ok.2 in let stop : Stop = record { work = ok.0; word = s.word } in (
        stop ∷ [],
        record { stop = stop; fits = ok.1; says = s.answer_is; stops_are = refl },
        made_stop moves ok.0 old.cpu new.cpu old.handler new.handler old.functions new.functions v s,
      )
  makes_stop moves P old new (Err e) ok kept = ([], refl, made_same old.cpu new.cpu (ap (λ (s : SeatValue H F). s.cpu) kept))

  -- a key that is set
  pub makes_set : (k : ℕ) (on : Bool) (old new : SeatValue H F) (made : Result Bool SmpError)
      → IfOk made (λ turned. SeatSets hears runs k on old new turned) → IfErr made (λ _. new ≡ old)
      → Makes old.machine.stops (Set k on) (answer_of Turned made) old.cpu new.cpu
  makes_set k on old new (Ok false) sets kept =
      ([], refl, made_worked old.cpu new.cpu old.handler new.handler old.functions new.functions _ sets.works refl refl)
  makes_set k on old new (Ok true) sets kept =
      let s = sets.stopped in let stop : Stop = record { work = sets.work; word = s.word } in (
        stop ∷ [],
        record { stop = stop; fits = sets.patch; says = tt; stops_are = refl },
        made_stop (patch_after (Took ∷ Found k sets.count ∷ [])) sets.work old.cpu new.cpu old.handler new.handler old.functions new.functions sets.answer s,
      )
  makes_set k on old new (Err e) sets kept = ([], refl, made_same old.cpu new.cpu (ap (λ (s : SeatValue H F). s.cpu) kept))

  -- a patch by one
  patch_made : (t : TableValue) (k : ℕ) (up : Bool) (Says : ℤ → Type 0) (first : List OwnMove) (old new : MachineCpuValue) (h h' : H) (f f' : F) (answer : ℤ)
      → Says answer → PatchesByOne hears runs t k up first old h f new h' f' answer
      → (stops : List Stop) × IsOneStop (IsPatchOf t k (step_of up)) Says stops × HasMade stops old new
  patch_made t k up Says first old new h h' f f' answer says p =
      let s = p.stopped in let stop : Stop = record { work = p.work; word = s.word } in (
        stop ∷ [],
        record { stop = stop; fits = p.patch; says = subst Says s.answer_is says; stops_are = refl },
        made_stop (patch_after first) p.work old new h h' f f' answer s,
      )

  -- a key that is counted
  pub makes_count : (k : ℕ) (up : Bool) (old new : SeatValue H F) (made : Result Bool SmpError) → SeatCounts hears runs k up old new made
      → (stops : List Stop) × IsStopOfCount (IsPatchOf old.machine.stops k (step_of up)) (answer_of Turned made) stops × HasMade stops old.cpu new.cpu
  makes_count k up old new (Ok false) c =
      ([], refl, made_worked old.cpu new.cpu old.handler new.handler old.functions new.functions _ c.1.works refl refl)
  makes_count k up old new (Ok true) c =
      patch_made old.machine.stops k up (λ x. x ≡ pos 0) c.1.moves old.cpu new.cpu old.handler new.handler old.functions new.functions (pos 0) refl c.1.patches
  makes_count k up old new (Err (error.KeyRange e)) (may, (is, inl edge)) =
      ([], inl refl, made_worked old.cpu new.cpu old.handler new.handler old.functions new.functions _ edge.works refl refl)
  makes_count k up old new (Err (error.KeyRange e)) (may, (is, inr patched)) =
      let p = patch_made old.machine.stops k up (λ x. x ≢ pos 0) patched.2.moves old.cpu new.cpu old.handler new.handler old.functions new.functions
      patched.0 patched.1 patched.2.patches in
      (p.0, inr p.1, p.2)
  makes_count k up old new (Err error.BadArgument) c = ([], refl, made_same old.cpu new.cpu c.1.kept)
  makes_count k up old new (Err error.NoStopper) c = absurd c.1
  makes_count k up old new (Err error.NoCpu) c = absurd c.1
  makes_count k up old new (Err error.Busy) c = absurd c.1
  makes_count k up old new (Err error.Contended) c = absurd c.1
  makes_count k up old new (Err error.NoMemory) c = absurd c.1
  makes_count k up old new (Err error.Stale) c = absurd c.1
  makes_count k up old new (Err error.SlotBusy) c = absurd c.1
  makes_count k up old new (Err (error.BadScript n cause)) c = absurd c.1
  makes_count k up old new (Err error.IdleStep) c = absurd c.1
  makes_count k up old new (Err (error.BadMask n)) c = absurd c.1
  makes_count k up old new (Err (error.StreamFailed n)) c = absurd c.1

-- a list with one element more
pub all_more : {X : Type 0} (P : X → Type 0) (xs : List X) (x : X) → AllByRecursion P xs → P x → AllByRecursion P (xs ++ x ∷ [])
all_more P [] x all one = (one, tt)
all_more P (y ∷ ys) x all one = (all.0, all_more P ys x all.1 one)

-- a request made once more
pub record MadeMore (m : MachineValue) (this : ℕ) (request : Request) (answer : Answer) (makings : List Making) (old new : MachineCpuValue) : Type 0 where
  pub last : Making
  pub answer_is : answer ≡ last.answer
  pub each : AllByRecursion (IsMaking m this request) (makings ++ last ∷ [])
  pub stops : HasMade (stops_of (makings ++ last ∷ [])) old new

pub made_more : (m now : MachineValue) (old mid new : MachineCpuValue) (request : Request) (answer : Answer) (makings : List Making) → now ≡ m
    → mid.calls.number ≡ old.calls.number → AllByRecursion (IsMaking m old.calls.number request) makings → HasMade (stops_of makings) old mid
    → IsAnswer now.calls.online (keys_at now) mid.calls.number request answer → Makes now.stops request answer mid new
    → MadeMore m old.calls.number request answer makings old new
made_more m now old mid new request answer makings same number all s told makes =
    let last : Making = record { stops = makes.0; answer = answer } in
    let making : IsMaking now mid.calls.number request last = (told, makes.1) in
    let here : IsMaking m old.calls.number request last =
    subst (λ (n : ℕ). IsMaking m n request last) number (subst (λ (x : MachineValue). IsMaking x mid.calls.number request last) same making) in
    record {
      last = last;
      answer_is = refl;
      each = all_more (IsMaking m old.calls.number request) makings last all here;
      stops = made_as _ _ old new (flat_map_more (λ (x : Making). x.stops) [] makings last)
          (made_then (stops_of makings) makes.0 old mid new s makes.2);
    }

-- one line more
pub lines_more : (m : MachineValue) (this : ℕ) (lines : List Directive) (answers : List Answer) (n : ℕ) (line : Directive) (answer : Answer)
    (made : List (List Making)) (here : List Making) → n < length lines → length answers ≡ length lines → line ≡ slice_index_or lines n line
    → IsLineMade m this line answer here → AreLinesMade m this lines answers n made
    → AreLinesMade m this lines (slice_set answers n answer) (n + 1) (made ++ here ∷ [])
lines_more m this lines answers n line answer made here low sized is told was = record {
  sized = let e = was.sized in search (length_push, arith);
  each = λ i l a x below. elim (cases_eq i n) [
    | inl e ↦ subst (λ (j : ℕ). IsLineMade m this (slice_index_or lines j l) (slice_index_or (slice_set answers n answer) j a)
        (slice_index_or (made ++ here ∷ []) j x)) (sym e)
        (subst (λ (d : Directive). IsLineMade m this d (slice_index_or (slice_set answers n answer) n a) (slice_index_or (made ++ here ∷ []) n x))
        (is ∙ get_or_default lines n line l low)
        (subst (λ (b : Answer). IsLineMade m this line b (slice_index_or (made ++ here ∷ []) n x))
        (sym (get_or-set_same answers n answer a (omega (arith, low, sized))))
        (subst (λ (y : List Making). IsLineMade m this line answer y) (sym (get_or_push made here x n was.sized)) told)))
    | inr other ↦
        let less : i < length made = omega (arith, below, other, was.sized) in
        subst (λ (b : Answer). IsLineMade m this (slice_index_or lines i l) b (slice_index_or (made ++ here ∷ []) i x))
        (sym (get_or-set_other answers n i answer a other))
        (subst (λ (y : List Making). IsLineMade m this (slice_index_or lines i l) (slice_index_or answers i a) y)
        (sym (get_or_append_left made (here ∷ []) x i less)) (was.each i l a x (omega (arith, below, other))))
  ];
}

pub lines_none : (m : MachineValue) (this : ℕ) (lines : List Directive) (answers : List Answer) → AreLinesMade m this lines answers 0 []
lines_none m this lines answers = record { sized = refl; each = λ i l a x below. absurd (omega (arith, below)) }

-- the stops of one line more
pub lines_then : (made : List (List Making)) (here : List Making) (old mid new : MachineCpuValue) → HasMade (flat_map stops_of made) old mid
    → HasMade (stops_of here) mid new → HasMade (flat_map stops_of (made ++ here ∷ [])) old new
lines_then made here old mid new s more =
    made_as _ _ old new (flat_map_more stops_of [] made here) (made_then (flat_map stops_of made) (stops_of here) old mid new s more)

-- a line of another CPU
pub line_of_other : (m : MachineValue) (this cpu count : ℕ) (request : Request) (line : Directive) (answer : Answer) → line ≡ Do cpu count request
    → cpu ≢ this → IsLineMade m this line answer []
line_of_other m this cpu count request line answer is other =
    subst (λ (l : Directive). IsLineMade m this l answer []) (sym is) ((λ own. absurd (other own)), (λ e. refl))
