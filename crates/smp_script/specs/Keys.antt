-- Keys that lines of two CPUs would change. They are compared by number, whether there are such keys or not.
use Rattle.std.specs.Prelude.{◌≡◌, ℕ, Bool, false, not, ◌&&◌, ◌==◌, List, [], ◌∷◌, Option, Some, None}
use Rattle.std.specs.List.{AllByRecursion, list_any}
use Rattle.smp_script.specs.declared.directive.Directive.{Directive}
use Rattle.smp_script.specs.declared.directive.Directive.TheVariants.{Do}
use Rattle.smp_script.specs.declared.request.Request.{Request}
use Rattle.smp_script.specs.declared.request.Request.TheVariants.{Set, Inc, Dec}

-- a CPU and the key that it sets, raises or lowers
abbrev pub KeyUse : Type 0
KeyUse = ℕ × ℕ

-- the key of a request that has one
abbrev pub requested_key : Request → Option ℕ
requested_key (Set key on) = Some key
requested_key (Inc key) = Some key
requested_key (Dec key) = Some key
requested_key _ = None

abbrev pub used_by : ℕ → Option ℕ → Option KeyUse
used_by cpu None = None
used_by cpu (Some key) = Some (cpu, key)

-- of a line
abbrev pub key_of : Directive → Option KeyUse
key_of (Do cpu count request) = used_by cpu (requested_key request)
key_of _ = None

-- both are of one key, and of two CPUs
abbrev pub is_shared : Option KeyUse → Option KeyUse → Bool
is_shared (Some one) (Some other) = (one.1 == other.1) && not (one.0 == other.0)
is_shared _ _ = false

-- the line is for a key that an earlier line is for too, on another CPU
abbrev pub shares : List Directive → Directive → Bool
shares earlier d = list_any (λ e. is_shared (key_of d) (key_of e)) earlier

-- no line is for a key that a later line is for too, on another CPU
abbrev pub AreApart : List Directive → Type 0
AreApart [] = Unit {0}
AreApart (d ∷ ds) = AllByRecursion (λ later. is_shared (key_of later) (key_of d) ≡ false) ds × AreApart ds
