-- What a `do` line asks for: which spellings are read as which call. A wrong word is seen first, then the fields are read
-- from left to right. So reading an operation tells twice what is wrong: outside a wrong word or number of fields, inside
-- what is wrong with its other fields.
use Rattle.std.specs.Prelude.{ℕ, Bool, true, false, if◌then◌else◌, List, [], ◌∷◌, Option, Some, None, Result, Ok, Err, codes}
use Rattle.std.specs.Str.{bytes_eq}
use Rattle.smp_mask.specs.Mask.{has}
use Rattle.smp_mask.specs.declared.error.Cause.{Cause}
use Rattle.smp_mask.specs.declared.error.Cause.TheVariants.{Word, Range}
use Rattle.smp_script.specs.declared.directive.Directive.{Directive}
use Rattle.smp_script.specs.declared.directive.Directive.TheVariants.{Do}
use Rattle.smp_script.specs.declared.request.Request.{Request}
use Rattle.smp_script.specs.declared.request.Request.TheVariants as request
use Rattle.smp_script.specs.declared.request.Which.{Which}
use Rattle.smp_script.specs.declared.request.Which.TheVariants.{All, Even, Odd}
use Rattle.smp_script.specs.Numbers.{number_in}
use Rattle.smp_words.specs.FirstFault.{◌>>=◌}
use Rattle.smp_script.specs.Fields.{word16, word32, word64, mask_of}

-- `wait` or `nowait`: whether it is `wait`
abbrev pub wait_of : List ℕ → Result Bool Cause
wait_of text = if bytes_eq text (codes "wait") then Ok true else (if bytes_eq text (codes "nowait") then Ok false else Err Word)

-- `all`, `even` or `odd`
abbrev pub which_of : List ℕ → Result Which Cause
which_of text =
    if bytes_eq text (codes "all") then Ok All
    else (if bytes_eq text (codes "even") then Ok Even else (if bytes_eq text (codes "odd") then Ok Odd else Err Word))

-- `on` or `off`: whether it is `on`
abbrev pub switch_of : List ℕ → Result Bool Cause
switch_of text = if bytes_eq text (codes "on") then Ok true else (if bytes_eq text (codes "off") then Ok false else Err Word)

-- the number of one of these CPUs
abbrev pub member_of : ℕ → List ℕ → Result ℕ Cause
member_of online text = word32 text >>= λ cpu. if has online cpu then Ok cpu else Err Range

-- a mask, or `none`
abbrev pub active_of : ℕ → List ℕ → Result (Option ℕ) Cause
active_of limit text = if bytes_eq text (codes "none") then Ok None else (mask_of limit text >>= λ mask. Ok (Some mask))

-- FUNC INFO, with the request that they make
abbrev pub func_info : (ℕ → ℕ → Request) → List ℕ → List ℕ → Result Request Cause
func_info make func info = word16 func >>= λ f. word64 info >>= λ i. Ok (make f i)

-- FUNC ARG, with the request that they make
abbrev pub func_arg : (ℕ → ℕ → Request) → List ℕ → List ℕ → Result Request Cause
func_arg make func arg = word16 func >>= λ f. number_in 0 2147483647 arg >>= λ a. Ok (make f a)

-- DST FUNC INFO
abbrev pub single : Bool → List ℕ → List ℕ → List ℕ → Result Request Cause
single wait dst func info = word32 dst >>= λ d. func_info (request.Single wait d) func info

-- U DST FUNC INFO
abbrev pub user : List ℕ → List ℕ → List ℕ → List ℕ → Result Request Cause
user number dst func info = number_in 0 1 number >>= λ u. word32 dst >>= λ d. func_info (request.User u d) func info

-- MASK FUNC INFO, with the request that they make
abbrev pub among : (ℕ → ℕ → ℕ → Request) → ℕ → List ℕ → List ℕ → List ℕ → Result Request Cause
among make limit mask func info = mask_of limit mask >>= λ m. func_info (make m) func info

-- DST FUNC ARG
abbrev pub one : List ℕ → List ℕ → List ℕ → Result Request Cause
one dst func arg = word32 dst >>= λ d. func_arg (request.One d) func arg

-- A B FUNC ARG
abbrev pub two : List ℕ → List ℕ → List ℕ → List ℕ → Result Request Cause
two a b func arg = word32 a >>= λ x. word32 b >>= λ y. func_arg (request.Two x y) func arg

-- ACTIVE FUNC ARG
abbrev pub machine : ℕ → List ℕ → List ℕ → List ℕ → Result Request Cause
machine limit active func arg = active_of limit active >>= λ a. func_arg (request.Machine a) func arg

-- K, with the request that it makes
abbrev pub keyed : (ℕ → Request) → List ℕ → Result Request Cause
keyed make key = word32 key >>= λ k. Ok (make k)

-- `sync` or `async`, and then DST FUNC INFO
abbrev pub single_of : Bool → List (List ℕ) → Result (Result Request Cause) Cause
single_of wait (dst ∷ func ∷ info ∷ []) = Ok (single wait dst func info)
single_of wait _ = Err Word

-- `user`, and then U DST FUNC INFO
abbrev pub user_of : List (List ℕ) → Result (Result Request Cause) Cause
user_of (number ∷ dst ∷ func ∷ info ∷ []) = Ok (user number dst func info)
user_of _ = Err Word

-- `any` or `many`, and then W MASK FUNC INFO, with the request that they make
abbrev pub among_of : (Bool → ℕ → ℕ → ℕ → Request) → ℕ → List (List ℕ) → Result (Result Request Cause) Cause
among_of make limit (wait ∷ mask ∷ func ∷ info ∷ []) = wait_of wait >>= λ w. Ok (among (make w) limit mask func info)
among_of make limit _ = Err Word

-- `cond`, and then C W MASK FUNC INFO
abbrev pub cond_of : ℕ → List (List ℕ) → Result (Result Request Cause) Cause
cond_of limit (which ∷ wait ∷ mask ∷ func ∷ info ∷ []) =
    which_of which >>= λ c. wait_of wait >>= λ w. Ok (among (request.Cond c w) limit mask func info)
cond_of limit _ = Err Word

-- `one`, and then DST FUNC ARG
abbrev pub one_of : List (List ℕ) → Result (Result Request Cause) Cause
one_of (dst ∷ func ∷ arg ∷ []) = Ok (one dst func arg)
one_of _ = Err Word

-- `two`, and then A B FUNC ARG
abbrev pub two_of : List (List ℕ) → Result (Result Request Cause) Cause
two_of (a ∷ b ∷ func ∷ arg ∷ []) = Ok (two a b func arg)
two_of _ = Err Word

-- `machine`, and then ACTIVE FUNC ARG
abbrev pub machine_of : ℕ → List (List ℕ) → Result (Result Request Cause) Cause
machine_of limit (active ∷ func ∷ arg ∷ []) = Ok (machine limit active func arg)
machine_of limit _ = Err Word

-- `set`, and then K and `on` or `off`
abbrev pub set_of : List (List ℕ) → Result (Result Request Cause) Cause
set_of (key ∷ switch ∷ []) = switch_of switch >>= λ on. Ok (keyed (λ k. request.Set k on) key)
set_of _ = Err Word

-- `inc` or `dec`, and then K, with the request that it makes
abbrev pub counted_of : (ℕ → Request) → List (List ℕ) → Result (Result Request Cause) Cause
counted_of make (key ∷ []) = Ok (keyed make key)
counted_of make _ = Err Word

-- a stop or a change of a key, by its name
abbrev pub stop_of : ℕ → List ℕ → List (List ℕ) → Result (Result Request Cause) Cause
stop_of limit name arguments =
    if bytes_eq name (codes "one") then one_of arguments
    else (if bytes_eq name (codes "two") then two_of arguments
    else (if bytes_eq name (codes "machine") then machine_of limit arguments
    else (if bytes_eq name (codes "set") then set_of arguments
    else (if bytes_eq name (codes "inc") then counted_of request.Inc arguments
    else (if bytes_eq name (codes "dec") then counted_of request.Dec arguments else Err Word)))))

-- an operation, by its name
abbrev pub operation_of : ℕ → List ℕ → List (List ℕ) → Result (Result Request Cause) Cause
operation_of limit name arguments =
    if bytes_eq name (codes "sync") then single_of true arguments
    else (if bytes_eq name (codes "async") then single_of false arguments
    else (if bytes_eq name (codes "user") then user_of arguments
    else (if bytes_eq name (codes "any") then among_of request.Any limit arguments
    else (if bytes_eq name (codes "many") then among_of request.Many limit arguments
    else (if bytes_eq name (codes "cond") then cond_of limit arguments else stop_of limit name arguments)))))

-- CPU N, and the request that was read
unfoldable pub repeated : ℕ → List ℕ → List ℕ → Result Request Cause → Result Directive Cause
repeated online cpu count read = do
  c ← member_of online cpu
  n ← number_in 1 10000 count
  asked ← read
  Ok (Do c n asked)

-- what comes after `do`
abbrev pub do_of : ℕ → ℕ → List (List ℕ) → Result Directive Cause
do_of limit online (cpu ∷ count ∷ name ∷ arguments) = operation_of limit name arguments >>= repeated online cpu count
do_of limit online _ = Err Word
