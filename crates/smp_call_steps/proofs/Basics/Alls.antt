-- Facts of all elements of a list.
use Rattle.smp_words.specs.Flags.{class_of, flags_of}
use Rattle.std.proofs.Common.{◌≡◌, List, [], ◌∷◌, ◌++◌, arith}
use Rattle.std.specs.List.{AllByRecursion}
use Rattle.smp_call_steps.specs.{if_sync, if_async, sync_calls, async_calls, Call, Class}

pub every : {A : Type 0} (P Q : A → Type 0) → ((x : A) → P x → Q x) → (xs : List A) → AllByRecursion P xs → AllByRecursion Q xs
every P Q f [] h = tt
every P Q f (x ∷ xs) h = (f x h.0, every P Q f xs h.1)

-- with two facts of each
pub every_both : {A : Type 0} (P Q R : A → Type 0) → ((x : A) → P x → Q x → R x) → (xs : List A) → AllByRecursion P xs → AllByRecursion Q xs
    → AllByRecursion R xs
every_both P Q R f [] h k = tt
every_both P Q R f (x ∷ xs) h k = (f x h.0 k.0, every_both P Q R f xs h.1 k.1)

pub every_append : {A : Type 0} (P : A → Type 0) (xs ys : List A) → AllByRecursion P xs → AllByRecursion P ys → AllByRecursion P (xs ++ ys)
every_append P [] ys h k = k
every_append P (x ∷ xs) ys h k = (h.0, every_append P xs ys h.1 k)

pub every_push : {A : Type 0} (P : A → Type 0) (xs : List A) (y : A) → AllByRecursion P xs → P y → AllByRecursion P (xs ++ y ∷ [])
every_push P xs y h p = every_append P xs (y ∷ []) h (p, tt)

pub every_left : {A : Type 0} (P : A → Type 0) (xs ys : List A) → AllByRecursion P (xs ++ ys) → AllByRecursion P xs
every_left P [] ys h = tt
every_left P (x ∷ xs) ys h = (h.0, every_left P xs ys h.1)

pub every_right : {A : Type 0} (P : A → Type 0) (xs ys : List A) → AllByRecursion P (xs ++ ys) → AllByRecursion P ys
every_right P [] ys h = h
every_right P (x ∷ xs) ys h = every_right P xs ys h.1

-- the last of a list
pub every_last : {A : Type 0} (P : A → Type 0) (xs : List A) (y : A) → AllByRecursion P (xs ++ y ∷ []) → P y
every_last P xs y h = let k = every_right P xs (y ∷ []) h in k.0

one_class : (P : Call → Type 0) (class : Class) (call : Call) → AllByRecursion P (if_sync class call) → AllByRecursion P (if_async class call) → P call
one_class x y call h k = search arith

-- the calls of both classes are all calls
pub every_class : (P : Call → Type 0) (calls : List Call) → AllByRecursion P (sync_calls calls) → AllByRecursion P (async_calls calls) → AllByRecursion P calls
every_class P [] h k = tt
every_class P (call ∷ rest) h k = (
  one_class P call.class call (every_left P (if_sync call.class call) (sync_calls rest) h) (every_left P (if_async call.class call) (async_calls rest) k),
  every_class P rest (every_right P (if_sync call.class call) (sync_calls rest) h) (every_right P (if_async call.class call) (async_calls rest) k),
)

one_sync : (P : Call → Type 0) (class : Class) (call : Call) → P call → AllByRecursion P (if_sync class call)
one_sync x y call p = search arith

one_async : (P : Call → Type 0) (class : Class) (call : Call) → P call → AllByRecursion P (if_async class call)
one_async x y call p = search arith

pub every_sync : (P : Call → Type 0) (calls : List Call) → AllByRecursion P calls → AllByRecursion P (sync_calls calls)
every_sync P [] h = tt
every_sync P (call ∷ rest) h = every_append P (if_sync call.class call) (sync_calls rest) (one_sync P call.class call h.0) (every_sync P rest h.1)

pub every_async : (P : Call → Type 0) (calls : List Call) → AllByRecursion P calls → AllByRecursion P (async_calls calls)
every_async P [] h = tt
every_async P (call ∷ rest) h = every_append P (if_async call.class call) (async_calls rest) (one_async P call.class call h.0) (every_async P rest h.1)

-- the class of a record is in its flags
pub class_of-flags_of : (class : Class) → class_of (flags_of class) ≡ class
class_of-flags_of x = search arith
