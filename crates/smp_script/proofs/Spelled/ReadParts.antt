-- What was read, part by part.
use Rattle.smp_script.proofs.Names.{◌≡◌, ℕ, ◌<◌, ◌^◌, Bool, true, false, List, Result, Ok, Err, cond, refl, arith, decimal, bytes_eq, bytes_eq-Decides, Cause}
use Rattle.smp_script.proofs.Names.{◌>>=◌, at_line, word32}
use Rattle.smp_script.proofs.Texts.Decimals.{number_in-ok}

-- what was read before something was read after it
pub record Both {A B E : Type 0} (r : Result A E) (f : A → Result B E) (y : B) : Type 0 where
  pub value : A
  pub first : r ≡ Ok value
  pub then : f value ≡ Ok y

pub both : {A B E : Type 0} (r : Result A E) (f : A → Result B E) (y : B) → (r >>= f) ≡ Ok y → Both r f y
both (Ok x) f y h = record { value = x; first = refl; then = h }
both (Err e) f y h = cc

pub guarded : {A E : Type 0} (b : Bool) (r : Result A E) (e : E) (y : A) → cond b r (Err e) ≡ Ok y → (b ≡ true) × (r ≡ Ok y)
guarded true r e y h = (refl, h)
guarded false r e y h = cc

pub placed_ok : {A : Type 0} (n : ℕ) (r : Result A Cause) (y : A) → at_line n r ≡ Ok y → r ≡ Ok y
placed_ok n (Ok x) y h = cc
placed_ok n (Err e) y h = cc

pub same_word : (a b : List ℕ) → bytes_eq a b ≡ true → a ≡ b
same_word a b h = (bytes_eq-Decides a b).0 h

pub read32 : (text : List ℕ) (n : ℕ) → word32 text ≡ Ok n → (text ≡ decimal n) × (n < 2 ^ 32)
read32 text n h = let r = number_in-ok 0 4294967295 text n (omega arith) h in (r.0, omega (arith, r.2))
