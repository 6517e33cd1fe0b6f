-- How far two texts are the same, byte by byte.
use Rattle.std.proofs.Common.{◌≡◌, ℕ, ◌+◌, ◌-◌, ◌<◌, ◌==◌, List, length, get_or, min, Fits, w8, inl, inr, arith, eq-eqb, false}
use Rattle.std.proofs.lemmas.Bool.{cases_lt}
use Rattle.std.proofs.lemmas.Bool.Decides.{nat_tests}
use Rattle.std.proofs.lemmas.List.{get_or_past, get_or_default}
use Rattle.std.proofs.lemmas.List.Sums.{count_by_more_yes, count_by_more_no}
use Rattle.smp_replay.specs.Difference.{StartsLine, line_at}

-- behind a line feed, the next line starts
pub starts_next : (text : List ℕ) (at : ℕ) → get_or text at 0 ≡ 10 → StartsLine text (at + 1) (at + 1)
starts_next text at feed = record {
  before = omega arith;
  first = let same : at + 1 - 1 ≡ at = omega arith in inr (rw same feed);
  none = λ k low high. absurd (omega arith);
}

-- behind another byte, the line goes on
pub starts_on : (text : List ℕ) (start at : ℕ) → StartsLine text start at → (get_or text at 0 ≡ 10 → ⊥) → StartsLine text start (at + 1)
starts_on text start at s other = record {
  before = omega (arith, s.before);
  first = s.first;
  none = λ k low high e. elim (cases_lt k at) [
    | inl below ↦ s.none k low below e
    | inr above ↦ let same : at ≡ k = omega arith in other (rw same e)
  ];
}

pub line_next : (text : List ℕ) (at line : ℕ) → at < length text → get_or text at 0 ≡ 10 → line ≡ line_at text at → line + 1 ≡ line_at text (at + 1)
line_next text at line within feed e = omega (arith, e, count_by_more_yes (λ b. b == 10) text at 0 within (eq-eqb _ _ feed))

pub line_on : (text : List ℕ) (at line : ℕ) → at < length text → (get_or text at 0 ≡ 10 → ⊥) → line ≡ line_at text at → line ≡ line_at text (at + 1)
line_on text at line within not_feed e =
    let other : (get_or text at 0 == 10) ≡ false = grind (arith, nat_tests, not_feed) in
    omega (arith, e, count_by_more_no (λ b. b == 10) text at 0 within other)

-- at the end of the shorter text, only the other has a byte
pub ends_apart : (one two : List ℕ) (at : ℕ) → at ≡ min (length one) (length two) → (length one ≡ length two → ⊥) → ((k : ℕ) → Fits w8 (get_or one k 0))
    → ((k : ℕ) → Fits w8 (get_or two k 0)) → get_or one at 256 ≡ get_or two at 256 → ⊥
ends_apart one two at here other ones twos same = elim (cases_lt (length one) (length two)) [
  | inl shorter ↦
      let past : get_or one at 256 ≡ 256 = get_or_past one at 256 (omega (arith, here)) in
      let byte : get_or two at 256 ≡ get_or two at 0 = get_or_default two at 256 0 (omega (arith, here)) in
      omega (arith, past, byte, same, twos at)
  | inr longer ↦
      let past : get_or two at 256 ≡ 256 = get_or_past two at 256 (omega (arith, here)) in
      let byte : get_or one at 256 ≡ get_or one at 0 = get_or_default one at 256 0 (omega (arith, here, other)) in
      omega (arith, past, byte, same, ones at)
]
