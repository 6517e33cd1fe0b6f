-- Threads of CPUs, one after another.
use Rattle.std.proofs.Common.{◌≡◌, ℕ, suc, ◌+◌, Bool, true, false, if◌then◌else◌, Option, Some, None}
use Rattle.std.proofs.Common.{MatchOption, List, [], ◌∷◌, ◌++◌, append_assoc, refl, sym, ap, ◌∙◌, subst, arith}
use Rattle.std.proofs.lemmas.List.{append-nil}
use Rattle.smp_mask.specs.Mask.{has, members_below}
use Rattle.smp_machine.specs.MachineCpu.{MachineValue, MachineCpuValue, BootValue, IsAt, fresh_place}
use Rattle.smp_queue.specs.declared.handler.Heard.{Heard}
use Rattle.smp_multi.specs.declared.func.Called.{Called}
use Rattle.smp_machine.specs.Crews.{HasEnded, IsPlayed, BothAreShown, seat_of}
use Rattle.smp_machine.specs.Members.{AreFor, AreMembers, IsMember, IsNext}
use Rattle.smp_machine.specs.Own.{own_of}
use Rattle.smp_machine.specs.Seats.{SeatValue, SeatWorks, IsSameSeat}
use Rattle.smp_machine.specs.declared.crew.Played.{Played}
use Rattle.smp_machine.specs.declared.member.Member.{Member}

-- one more at the end
are_for-push : {X : Type 0} (P : ℕ → X → Type 0) (ns : List ℕ) (xs : List X) (n : ℕ) (x : X) → AreFor P ns xs → P n x
    → AreFor P (ns ++ n ∷ []) (xs ++ x ∷ [])
are_for-push P [] [] n x all here = (here, tt)
are_for-push P (m ∷ ns) (y ∷ xs) n x all here = (all.0, are_for-push P ns xs n x all.1 here)
are_for-push P [] (y ∷ xs) n x all here = absurd all
are_for-push P (m ∷ ns) [] n x all here = absurd all

-- the first ones are done, with what they have become, and these are left
pub record Moved {X Y : Type 0} (P : ℕ → Y → Type 0) (Q : ℕ → X → Type 0) (numbers : List ℕ) (done : List Y) (rest : List X) : Type 0 where
  pub first : List ℕ
  pub later : List ℕ
  pub numbers_are : numbers ≡ first ++ later
  pub done_are : AreFor P first done
  pub rest_are : AreFor Q later rest

-- none is done yet
pub moved_none : {X Y : Type 0} (P : ℕ → Y → Type 0) (Q : ℕ → X → Type 0) (numbers : List ℕ) (done : List Y) (rest : List X) → done ≡ []
    → AreFor Q numbers rest → Moved P Q numbers done rest
moved_none P Q numbers done rest none all = record {
  first = [];
  later = numbers;
  numbers_are = refl;
  done_are = subst (λ (ys : List _). AreFor P [] ys) (sym none) tt;
  rest_are = all;
}

moved_on : {X Y : Type 0} (P : ℕ → Y → Type 0) (Q : ℕ → X → Type 0) (numbers first later : List ℕ) (done : List Y) (x : X) (rest : List X) (y : Y)
    → numbers ≡ first ++ later → AreFor P first done → AreFor Q later (x ∷ rest) → ((n : ℕ) → Q n x → P n y) → Moved P Q numbers (done ++ y ∷ []) rest
moved_on P Q numbers first [] done x rest y is all left becomes = absurd left
moved_on P Q numbers first (n ∷ later) done x rest y is all left becomes = record {
  first = first ++ n ∷ [];
  later = later;
  numbers_are = is ∙ sym (append_assoc first (n ∷ []) later);
  done_are = are_for-push P first done n y all (becomes n left.0);
  rest_are = left.1;
}

-- one more is done
pub moved_more : {X Y : Type 0} (P : ℕ → Y → Type 0) (Q : ℕ → X → Type 0) (numbers : List ℕ) (done next : List Y) (x : X) (xs rest : List X) (y : Y)
    → xs ≡ x ∷ rest → next ≡ done ++ y ∷ [] → ((n : ℕ) → Q n x → P n y) → Moved P Q numbers done xs → Moved P Q numbers next rest
moved_more P Q numbers done next x xs rest y is grown becomes m =
    subst (λ (ys : List _). Moved P Q numbers ys rest) (sym grown)
    (moved_on P Q numbers m.first m.later done x rest y m.numbers_are m.done_are (subst (λ (zs : List _). AreFor Q m.later zs) is m.rest_are) becomes)

done_all : {X Y : Type 0} (P : ℕ → Y → Type 0) (Q : ℕ → X → Type 0) (numbers first later : List ℕ) (done : List Y) → numbers ≡ first ++ later
    → AreFor P first done → AreFor Q later [] → AreFor P numbers done
done_all P Q numbers first [] done is all left = subst (λ (ns : List ℕ). AreFor P ns done) (sym (is ∙ append-nil first)) all
done_all P Q numbers first (n ∷ later) done is all left = absurd left

-- all are done
pub moved_all : {X Y : Type 0} (P : ℕ → Y → Type 0) (Q : ℕ → X → Type 0) (numbers : List ℕ) (done : List Y) (rest : List X) → rest ≡ []
    → Moved P Q numbers done rest → AreFor P numbers done
moved_all P Q numbers done rest none m =
    done_all P Q numbers m.first m.later done m.numbers_are m.done_are (subst (λ (zs : List _). AreFor Q m.later zs) none m.rest_are)

next_of : {X : Type 0} (Q : ℕ → X → Type 0) (later : List ℕ) (x : X) (rest : List X) → AreFor Q later (x ∷ rest) → (n : ℕ) × Q n x
next_of Q [] x rest left = absurd left
next_of Q (n ∷ later) x rest left = (n, left.0)

-- the next one is for some number
pub moved_next : {X Y : Type 0} (P : ℕ → Y → Type 0) (Q : ℕ → X → Type 0) (numbers : List ℕ) (done : List Y) (x : X) (xs rest : List X)
    → xs ≡ x ∷ rest → Moved P Q numbers done xs → (n : ℕ) × Q n x
moved_next P Q numbers done x xs rest is m = next_of Q m.later x rest (subst (λ (zs : List _). AreFor Q m.later zs) is m.rest_are)

-- a CPU that was given out, with what was made for it
pub is_member : {H F A : Type 0} (begins : ℕ → H → F → Type 0) (b : BootValue) (m : MachineValue) (n : ℕ) (p : MachineCpuValue) (h : H) (f : F) → b.machine ≡ m
    → p ≡ fresh_place b.machine n → has b.machine.calls.online n ≡ true → begins n h f
    → IsMember {H = H} {F = F} {A = A} begins m n (record { cpu = p; handler = h; functions = f })
is_member begins b m n p h f same is on made = record {
  online = subst (λ (x : MachineValue). has x.calls.online n ≡ true) same on;
  fresh = is ∙ ap (λ (x : MachineValue). fresh_place x n) same;
  made = made;
}

-- it is the CPU of its own number
pub member_own : {H F A : Type 0} (begins : ℕ → H → F → Type 0) (m : MachineValue) (n : ℕ) (x : Member H F A) → IsMember begins m n x
    → IsMember begins m x.cpu.calls.number x
member_own begins m n x is =
    subst (λ (k : ℕ). IsMember begins m k x) (sym (ap (λ (p : MachineCpuValue). p.calls.number) is.fresh)) is

-- no CPU is below 0; one CPU more is online, or not
pub below_none : {X : Type 0} (P : ℕ → X → Type 0) (mask : ℕ) (xs : List X) → xs ≡ [] → AreFor P (members_below mask 0) xs
unfolding members_below
below_none P mask xs e = subst (λ (ys : List _). AreFor P [] ys) (sym e) tt

next : (n : ℕ) → suc n ≡ n + 1
next n = omega arith

in_suc : {X : Type 0} (P : ℕ → X → Type 0) (mask n : ℕ) (xs : List X) (x : X) → has mask n ≡ true → AreFor P (members_below mask n) xs → P n x
    → AreFor P (members_below mask (suc n)) (xs ++ x ∷ [])
unfolding members_below
in_suc P mask n xs x there all here =
    subst (λ (b : Bool). AreFor P (members_below mask n ++ (if b then n ∷ [] else [])) (xs ++ x ∷ [])) (sym there)
    (are_for-push P (members_below mask n) xs n x all here)

out_suc : {X : Type 0} (P : ℕ → X → Type 0) (mask n : ℕ) (xs : List X) → has mask n ≡ false → AreFor P (members_below mask n) xs
    → AreFor P (members_below mask (suc n)) xs
unfolding members_below
out_suc P mask n xs other all =
    subst (λ (b : Bool). AreFor P (members_below mask n ++ (if b then n ∷ [] else [])) xs) (sym other)
    (subst (λ (ns : List ℕ). AreFor P ns xs) (sym (append-nil (members_below mask n))) all)

pub below_next : {H F A : Type 0} (begins : ℕ → H → F → Type 0) (m : MachineValue) (n : ℕ) (xs ys : List (Member H F A)) (r : Option (Member H F A))
    → IsNext begins m n r → MatchOption r (ys ≡ xs) (λ x. ys ≡ xs ++ x ∷ []) → AreMembers begins m (members_below m.calls.online n) xs
    → AreMembers begins m (members_below m.calls.online (n + 1)) ys
below_next {H} {F} {A} begins m n xs ys None off same all =
    subst (λ (k : ℕ). AreMembers begins m (members_below m.calls.online k) ys) (next n)
    (subst (λ (zs : List (Member H F A)). AreMembers begins m (members_below m.calls.online (suc n)) zs) (sym same)
    (out_suc (λ k x. IsMember begins m k x) m.calls.online n xs off all))
below_next {H} {F} {A} begins m n xs ys (Some x) here pushed all =
    subst (λ (k : ℕ). AreMembers begins m (members_below m.calls.online k) ys) (next n)
    (subst (λ (zs : List (Member H F A)). AreMembers begins m (members_below m.calls.online (suc n)) zs) (sym pushed)
    (in_suc (λ k x. IsMember begins m k x) m.calls.online n xs x here.online all here))

-- a CPU that has played its part, and has ended
pub played_is : {H F A : Type 0} (hears : H → Heard → H → Type 0) (runs : F → Called → F → Type 0) (begins : ℕ → H → F → Type 0)
    (plays : SeatValue H F → SeatValue H F → Type 0) (leaves : ℕ → Type 0) (m : MachineValue) (x : Member H F A) (start played ended : SeatValue H F)
    (back : Played H F A) → IsMember begins m x.cpu.calls.number x
    → start ≡ record { machine = m; cpu = x.cpu; handler = x.handler; functions = x.functions } → plays start played → IsSameSeat start played
    → SeatWorks hears runs played ended (own_of played.cpu) → IsSameSeat played ended → HasEnded (leaves played.cpu.calls.number) played ended
    → (back.cpu ≡ ended.cpu) × (back.handler ≡ ended.handler) × (back.functions ≡ ended.functions) → IsAt ended.machine back.cpu → BothAreShown back.cpu
    → IsPlayed hears runs begins plays leaves m x.cpu.calls.number back
played_is {H} {F} {A} hears runs begins plays leaves m x start played ended back member is part same polled still left parts at shown =
    let machine_is : ended.machine ≡ m = still.machine_is ∙ (same.machine_is ∙ ap (λ (s : SeatValue H F). s.machine) is) in
    let number_is : played.cpu.calls.number ≡ x.cpu.calls.number = same.number_is ∙ ap (λ (s : SeatValue H F). s.cpu.calls.number) is in
    let back_is : ended ≡ seat_of m back =
    λ i. record { machine = machine_is i; cpu = sym parts.0 i; handler = sym parts.1 i; functions = sym parts.2 i } in
    record {
      at = subst (λ (t : MachineValue). IsAt t back.cpu) machine_is at;
      number_is = ap (λ (p : MachineCpuValue). p.calls.number) parts.0 ∙ (still.number_is ∙ number_is);
      shown = shown;
      handler = x.handler;
      functions = x.functions;
      made = member.made;
      played = played;
      part = subst (λ (p : MachineCpuValue). plays (record { machine = m; cpu = p; handler = x.handler; functions = x.functions }) played) member.fresh
          (subst (λ (s : SeatValue H F). plays s played) is part);
      polled = subst (λ (s : SeatValue H F). SeatWorks hears runs played s (own_of played.cpu)) back_is polled;
      ended = subst (λ (n : ℕ). HasEnded (leaves n) played (seat_of m back)) number_is
          (subst (λ (s : SeatValue H F). HasEnded (leaves played.cpu.calls.number) played s) back_is left);
    }
