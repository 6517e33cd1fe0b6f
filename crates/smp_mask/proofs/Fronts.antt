-- What the reader has read is the front of a CPU list, and where it stops none goes on.
use Rattle.std.proofs.Common.{◌≡◌, ℕ, zero, suc, ◌+◌, ◌-◌, ◌*◌, ◌/◌, ◌%◌, ◌^◌, ◌<◌, ◌≤◌, ◌⊎◌, true, cond, nat_le, ◌==◌, ◌&&◌, List, [], ◌∷◌, ◌++◌, length}
use Rattle.std.proofs.Common.{subst, length-append, append_assoc, append-nil, refl, sym, ap, ◌∙◌, Option, Some, None, inl, inr, arith}
use Rattle.std.proofs.Math.Nat.{pow-suc, one-le-pow, div-eq_of_lt-le, div-div-eq-div-mul, div-le_self}
use Rattle.std.proofs.lemmas.Bool.{cases_Bool, cases_lt}
use Rattle.std.proofs.lemmas.Bool.Decides.{nat_tests}
use Rattle.std.proofs.lemmas.Fmt.{decimal_digit, decimal_step}
use Rattle.std.proofs.lemmas.List.Concat.{flat_map-append}
use Rattle.std.specs.Fmt.{decimal}
use Rattle.std.specs.List.{flat_map}
use Rattle.std.specs.Option.{option_map, option_and_then}
use Rattle.smp_mask.specs.CpuList.{item_text, IsItem, AreItems, joined, IsListOf, IsFront}
use Rattle.smp_mask.specs.Reading.{digit, longer, after, is_live, live_after, whole, with_item, step, finished}
use Rattle.smp_mask.specs.declared.item.Item.{Item}
use Rattle.smp_mask.specs.declared.item.Item.TheVariants.{One, Run}
use Rattle.smp_mask.specs.declared.parse.Place.{Place}
use Rattle.smp_mask.specs.declared.parse.Place.TheVariants.{Start, Item as AtItem, Low, Dash, High}
use Rattle.smp_mask.specs.declared.parse.Reader.{Reader}
use Rattle.smp_mask.proofs.Reach.{live_high, reach_sound}

-- the bytes of the item that a place is in
abbrev pub pending : Place → List ℕ
pending Start = []
pending AtItem = []
pending (Low low) = decimal low
pending (Dash low) = decimal low ++ (45 ∷ [])
pending (High low high) = decimal low ++ (45 ∷ decimal high)

-- the text of the items before it, each with its comma
abbrev pub closed : List Item → List ℕ
closed items = flat_map (λ i. item_text i ++ (44 ∷ [])) items

-- before the first byte there is no item
abbrev pub Begins : Place → List Item → Type 0
Begins Start items = items ≡ []
Begins _ items = Unit {0}

-- the text is read up to that place
pub record At (w : ℕ) (p : Place) (text : List ℕ) : Type 0 where
  pub items : List Item
  pub items_are : AreItems w items
  pub live : is_live w p ≡ true
  pub begins : Begins p items
  pub text_is : text ≡ closed items ++ pending p

-- ---- one byte

digit_is : (b d : ℕ) → digit b ≡ Some d → (d < 10) × (b ≡ 48 + d)
digit_is b d h = elim (cases_Bool (nat_le 48 b && nat_le b 57)) [
  | inl is_digit ↦
      let e : Some (b - 48) ≡ Some d = sym (rw is_digit refl) ∙ h in
      let same : b - 48 ≡ d = cc in
      (grind (arith, nat_tests, is_digit), grind (arith, nat_tests, is_digit))
  | inr other ↦ let none : None ≡ Some d = sym (rw other refl) ∙ h in cc
]

map_some : {X Y : Type 0} (f : X → Y) (o : Option X) (y : Y) → option_map f o ≡ Some y → (x : X) × (o ≡ Some x) × (f x ≡ y)
map_some f None y h = cc
map_some f (Some x) y h = (x, refl, cc)

longer_is : (n b m : ℕ) → longer n b ≡ Some m → (0 < n) × (d : ℕ) × (d < 10) × (b ≡ 48 + d) × (n * 10 + d ≡ m)
longer_is n b m h = elim (cases_Bool (n == 0)) [
  | inl zero_ ↦ let none : None ≡ Some m = sym (rw zero_ refl) ∙ h in cc
  | inr some ↦
      let e : option_map (λ d. n * 10 + d) (digit b) ≡ Some m = sym (rw some refl) ∙ h in
      let x = map_some (λ d. n * 10 + d) (digit b) m e in
      let d = digit_is b x.0 x.1 in
      (grind (arith, nat_tests, some), x.0, d.0, d.1, x.2)
]

-- a digit more
digits_more : (n d : ℕ) → 0 < n → d < 10 → n * 10 + d < 2 ^ 64 → decimal (n * 10 + d) ≡ decimal n ++ ((48 + d) ∷ [])
digits_more n d some small wide =
    let front : (n * 10 + d) / 10 ≡ n = omega arith in
    let last : (n * 10 + d) % 10 ≡ d = omega arith in
    decimal_step (n * 10 + d) (omega arith) wide ∙ rw (front, last) refl

live_below : (w low : ℕ) → is_live w (Low low) ≡ true → low < w
live_below w low h = grind (arith, nat_tests, h)

live_low : (w low high : ℕ) → is_live w (High low high) ≡ true → low < w
live_low w low high h = grind (arith, nat_tests, h)

pending_opening : (w : ℕ) (q : Place) (b : ℕ) → option_map Low (digit b) ≡ Some q → pending q ≡ b ∷ []
pending_opening w q b goes =
    let x = map_some Low (digit b) q goes in
    let d = digit_is b x.0 x.1 in
    ap pending (sym x.2) ∙ (decimal_digit x.0 d.0 ∙ ap (λ z. z ∷ []) (sym d.1))

pending_low : (w low b : ℕ) (q : Place) → w < 2 ^ 64 → option_map Low (longer low b) ≡ Some q → is_live w q ≡ true → pending q ≡ decimal low ++ (b ∷ [])
pending_low w low b q wide goes live =
    let x = map_some Low (longer low b) q goes in
    let d = longer_is low b x.0 x.1 in
    let below : x.0 < w = live_below w x.0 (subst (λ z. is_live w z ≡ true) (sym x.2) live) in
    let wider : low * 10 + d.1 < 2 ^ 64 = omega (arith, d.4, below, wide) in
    ap pending (sym x.2) ∙ (ap decimal (sym d.4) ∙ (digits_more low d.1 d.0 d.2 wider ∙ ap (λ z. decimal low ++ (z ∷ [])) (sym d.3)))

-- a byte that goes on is the next of the item
pending_after : (w : ℕ) (p q : Place) (b : ℕ) → w < 2 ^ 64 → after p b ≡ Some q → is_live w q ≡ true → pending q ≡ pending p ++ (b ∷ [])
pending_after w Start q b wide goes live = pending_opening w q b goes
pending_after w AtItem q b wide goes live = pending_opening w q b goes
pending_after w (Low low) q b wide goes live = elim (cases_Bool (b == 45)) [
  | inl hyphen ↦
      let e : Some (Dash low) ≡ Some q = sym (rw hyphen refl) ∙ goes in
      let same : Dash low ≡ q = cc in
      let byte : b ≡ 45 = grind (arith, nat_tests, hyphen) in
      ap pending (sym same) ∙ ap (λ z. decimal low ++ (z ∷ [])) (sym byte)
  | inr other ↦ pending_low w low b q wide (sym (rw other refl) ∙ goes) live
]
pending_after w (Dash low) q b wide goes live =
    let x = map_some (High low) (digit b) q goes in
    let d = digit_is b x.0 x.1 in
    let last : decimal x.0 ≡ b ∷ [] = decimal_digit x.0 d.0 ∙ ap (λ z. z ∷ []) (sym d.1) in
    ap pending (sym x.2) ∙ (ap (λ z. decimal low ++ (45 ∷ z)) last ∙ sym (append_assoc (decimal low) (45 ∷ []) (b ∷ [])))
pending_after w (High low high) q b wide goes live =
    let x = map_some (High low) (longer high b) q goes in
    let d = longer_is high b x.0 x.1 in
    let below : x.0 < w = live_high w low x.0 (subst (λ z. is_live w z ≡ true) (sym x.2) live) in
    let wider : high * 10 + d.1 < 2 ^ 64 = omega (arith, d.4, below, wide) in
    let last : decimal x.0 ≡ decimal high ++ (b ∷ []) = ap decimal (sym d.4)
    ∙ (digits_more high d.1 d.0 d.2 wider ∙ ap (λ z. decimal high ++ (z ∷ [])) (sym d.3)) in
    ap pending (sym x.2) ∙ (ap (λ z. decimal low ++ (45 ∷ z)) last ∙ sym (append_assoc (decimal low) (45 ∷ decimal high) (b ∷ [])))

-- no byte leads back to the beginning
never_start : (p : Place) (b : ℕ) → after p b ≡ Some Start → ⊥
never_start Start b goes = let x = (map_some Low (digit b) Start goes).2 in cc
never_start AtItem b goes = let x = (map_some Low (digit b) Start goes).2 in cc
never_start (Low low) b goes = elim (cases_Bool (b == 45)) [
  | inl hyphen ↦ let e : Some (Dash low) ≡ Some Start = sym (rw hyphen refl) ∙ goes in cc
  | inr other ↦
      let e : option_map Low (longer low b) ≡ Some Start = sym (rw other refl) ∙ goes in
      let x = (map_some Low (longer low b) Start e).2 in cc
]
never_start (Dash low) b goes = let x = (map_some (High low) (digit b) Start goes).2 in cc
never_start (High low high) b goes = let x = (map_some (High low) (longer high b) Start goes).2 in cc

after_begins : (p q : Place) (b : ℕ) (items : List Item) → after p b ≡ Some q → Begins q items
after_begins p Start b items goes = absurd (never_start p b goes)
after_begins p AtItem b items goes = tt
after_begins p (Low low) b items goes = tt
after_begins p (Dash low) b items goes = tt
after_begins p (High low high) b items goes = tt

-- ---- an item more

whole_is : (w : ℕ) (p : Place) (i : Item) → is_live w p ≡ true → whole p ≡ Some i → (pending p ≡ item_text i) × IsItem w i
whole_is w Start i live h = cc
whole_is w AtItem i live h = cc
whole_is w (Low low) i live h =
    let same : One low ≡ i = cc in
    (ap item_text same, subst (λ z. IsItem w z) same (omega arith, live_below w low live))
whole_is w (Dash low) i live h = cc
whole_is w (High low high) i live h = elim (cases_Bool (nat_le low high)) [
  | inl up ↦
      let e : Some (Run low high) ≡ Some i = sym (rw up refl) ∙ h in
      let same : Run low high ≡ i = cc in
      (ap item_text same, subst (λ z. IsItem w z) same (grind (arith, nat_tests, up), live_high w low high live))
  | inr down ↦ let e : None ≡ Some i = sym (rw down refl) ∙ h in cc
]

are_items_push : (w : ℕ) (items : List Item) (i : Item) → AreItems w items → IsItem w i → AreItems w (items ++ i ∷ [])
are_items_push w [] i h new = (new, tt)
are_items_push w (j ∷ js) i h new = (h.0, are_items_push w js i h.1 new)

joined_cons : (j : Item) (is : List Item) → 0 < length is → joined (j ∷ is) ≡ item_text j ++ (44 ∷ joined is)
joined_cons j [] h = absurd (omega arith)
joined_cons j (i ∷ is) h = refl

joined_push : (items : List Item) (i : Item) → joined (items ++ i ∷ []) ≡ closed items ++ item_text i
joined_push [] i = refl
joined_push (j ∷ js) i =
    let more : 0 < length (js ++ i ∷ []) = omega (arith, length-append js (i ∷ [])) in
    let first : joined (j ∷ (js ++ i ∷ [])) ≡ item_text j ++ (44 ∷ joined (js ++ i ∷ [])) = joined_cons j (js ++ i ∷ []) more in
    let rest : item_text j ++ (44 ∷ joined (js ++ i ∷ [])) ≡ item_text j ++ (44 ∷ (closed js ++ item_text i)) =
    ap (λ z. item_text j ++ (44 ∷ z)) (joined_push js i) in
    first ∙ (rest ∙ (sym (append_assoc (item_text j) (44 ∷ []) (closed js ++ item_text i))
    ∙ sym (append_assoc (item_text j ++ 44 ∷ []) (closed js) (item_text i))))

-- ---- every place can be completed

record Completion (w : ℕ) (p : Place) : Type 0 where
  pub item : Item
  pub is_item : IsItem w item
  pub more : List ℕ
  pub text_is : pending p ++ more ≡ item_text item

-- the digits of a number begin with those of its quotient
decimal_front : (j m : ℕ) → m < 2 ^ 64 → ((j ≡ 0) ⊎ (0 < m / 10 ^ j)) → (ds : List ℕ) × (decimal m ≡ decimal (m / 10 ^ j) ++ ds)
decimal_front zero m wide some = let e : m / 1 ≡ m = omega arith in ([], rw e (sym (append-nil (decimal m))))
decimal_front (suc j) m wide some =
    let q = m / 10 ^ j in
    let next : m / 10 ^ suc j ≡ q / 10 = ap (λ z. m / z) (pow-suc 10 j) ∙ sym (div-div-eq-div-mul m (10 ^ j) 10) in
    let left : 0 < m / 10 ^ suc j = grind (arith, some) in
    let long : 10 ≤ q = omega (arith, next, left) in
    let wider : q < 2 ^ 64 = omega (arith, wide, div-le_self m (10 ^ j)) in
    let front = decimal_front j m wide (inr (omega (arith, long))) in
    let last = 48 + q % 10 in (
      last ∷ front.0,
      front.1 ∙ (ap (λ z. z ++ front.0) (decimal_step q long wider)
          ∙ (append_assoc (decimal (q / 10)) (last ∷ []) front.0 ∙ ap (λ z. decimal z ++ (last ∷ front.0)) (sym next))),
    )

pow_ten : (j : ℕ) → 0 < 10 ^ j
pow_ten j = one-le-pow j 10 (omega arith)

completes_at : (w low high j m : ℕ) → w < 2 ^ 64 → ((j ≡ 0) ⊎ (0 < high)) → high * 10 ^ j ≤ m → m < (high + 1) * 10 ^ j → low ≤ m → m < w
    → Completion w (High low high)
completes_at w low high j m wide digits from to up below =
    let quotient : m / 10 ^ j ≡ high = div-eq_of_lt-le (10 ^ j) from to in
    let front = decimal_front j m (omega (arith, below, wide)) (rw quotient digits) in
    let text : decimal m ≡ decimal high ++ front.0 = front.1 ∙ ap (λ z. decimal z ++ front.0) quotient in
    record {
      item = Run low m;
      is_item = (up, below);
      more = front.0;
      text_is = append_assoc (decimal low) (45 ∷ decimal high) front.0
          ∙ ap (λ z. decimal low ++ (45 ∷ z)) (sym text);
    }

completes_high : (w low high : ℕ) → w < 2 ^ 64 → is_live w (High low high) ≡ true → Completion w (High low high)
completes_high w low high wide live =
    let s = reach_sound low w low high (high + 1) (grind (arith, live)) in
    let below : low < w = live_low w low high live in
    elim (cases_lt low (high * 10 ^ s.j)) [
      | inl far ↦ completes_at w low high s.j (high * 10 ^ s.j) wide s.digits (omega arith) (omega (arith, pow_ten s.j)) (omega (arith, far)) s.below
      | inr near ↦ completes_at w low high s.j low wide s.digits near s.above (omega arith) below
    ]

completes : (w : ℕ) (p : Place) → 0 < w → w < 2 ^ 64 → is_live w p ≡ true → Completion w p
completes w Start some wide live = record { item = One 0; is_item = (omega arith, some); more = decimal 0; text_is = refl }
completes w AtItem some wide live = record { item = One 0; is_item = (omega arith, some); more = decimal 0; text_is = refl }
completes w (Low low) some wide live = record { item = One low; is_item = (omega arith, live_below w low live); more = []; text_is = append-nil (decimal low) }
completes w (Dash low) some wide live =
    record {
      item = Run low low;
      is_item = (omega arith, live_below w low live);
      more = decimal low;
      text_is = append_assoc (decimal low) (45 ∷ []) (decimal low);
    }
completes w (High low high) some wide live = completes_high w low high wide live

-- ---- the reader's place in a text

pub at_start : (w : ℕ) → At w Start []
at_start w = record { items = []; items_are = tt; live = refl; begins = refl; text_is = refl }

-- what is read is a front of a CPU list
pub at_front : (w : ℕ) (p : Place) (text : List ℕ) → 0 < w → w < 2 ^ 64 → At w p text → IsFront w text
at_front w p text some wide a =
    let c = completes w p some wide a.live in
    let all : text ++ c.more ≡ joined (a.items ++ c.item ∷ []) = ap (λ z. z ++ c.more) a.text_is
    ∙ (append_assoc (closed a.items) (pending p) c.more ∙ (ap (λ z. closed a.items ++ z) c.text_is ∙ sym (joined_push a.items c.item))) in
    record {
      more = c.more;
      items = a.items ++ c.item ∷ [];
      is_list = record { items_are = are_items_push w a.items c.item a.items_are c.is_item; text_is = all };
    }

kept_live : (w : ℕ) (o : Option Place) (q : Place) → option_and_then (λ p. cond (is_live w p) (Some p) None) o ≡ Some q → (o ≡ Some q) × (is_live w q ≡ true)
kept_live w None q h = cc
kept_live w (Some p) q h = elim (cases_Bool (is_live w p)) [
  | inl live ↦
      let e : Some p ≡ Some q = sym (rw live refl) ∙ h in
      let same : p ≡ q = cc in
      (e, subst (λ z. is_live w z ≡ true) same live)
  | inr dead ↦ let e : None ≡ Some q = sym (rw dead refl) ∙ h in cc
]

at_comma : (w : ℕ) (p : Place) (text : List ℕ) (i : Item) → At w p text → whole p ≡ Some i → At w AtItem (text ++ 44 ∷ [])
at_comma w p text i a h =
    let new = whole_is w p i a.live h in
    let old : text ++ 44 ∷ [] ≡ closed a.items ++ item_text i ++ 44 ∷ [] = ap (λ z. z ++ 44 ∷ []) (a.text_is ∙ ap (λ z. closed a.items ++ z) new.0) in
    let one_more : closed (a.items ++ i ∷ []) ≡ closed a.items ++ ((item_text i ++ 44 ∷ []) ++ []) =
    flat_map-append (λ j. item_text j ++ (44 ∷ [])) a.items (i ∷ []) in
    let parts : closed a.items ++ ((item_text i ++ 44 ∷ []) ++ []) ≡ closed a.items ++ item_text i ++ 44 ∷ [] =
    ap (λ z. closed a.items ++ z) (append-nil (item_text i ++ 44 ∷ [])) ∙ sym (append_assoc (closed a.items) (item_text i) (44 ∷ [])) in
    record {
      items = a.items ++ i ∷ [];
      items_are = are_items_push w a.items i a.items_are new.1;
      live = refl;
      begins = tt;
      text_is = old ∙ sym (append-nil (closed (a.items ++ i ∷ [])) ∙ (one_more ∙ parts));
    }

at_other : (w : ℕ) (p q : Place) (b : ℕ) (text : List ℕ) → w < 2 ^ 64 → At w p text → after p b ≡ Some q → is_live w q ≡ true → At w q (text ++ b ∷ [])
at_other w p q b text wide a goes live =
    let all : text ++ b ∷ [] ≡ closed a.items ++ pending q = ap (λ z. z ++ b ∷ []) a.text_is
    ∙ (append_assoc (closed a.items) (pending p) (b ∷ []) ∙ ap (λ z. closed a.items ++ z) (sym (pending_after w p q b wide goes live))) in
    record { items = a.items; items_are = a.items_are; live = live; begins = after_begins p q b a.items goes; text_is = all }

-- one byte on
pub at_step : (w : ℕ) (r q : Reader) (b : ℕ) (text : List ℕ) → w < 2 ^ 64 → At w r.place text → step w r b ≡ Some q → At w q.place (text ++ b ∷ [])
at_step w r q b text wide a h = elim (cases_Bool (b == 44)) [
  | inl comma ↦
      let x = map_some (λ i. record { place = AtItem; mask = with_item r.mask i }) (whole r.place) q (sym (rw comma refl) ∙ h) in
      let byte : 44 ≡ b = grind (arith, nat_tests, comma) in
      subst (λ z. At w z.place (text ++ b ∷ [])) x.2 (subst (λ z. At w AtItem (text ++ z ∷ [])) byte (at_comma w r.place text x.0 a x.1))
  | inr other ↦
      let x = map_some (λ p. record { place = p; mask = r.mask }) (live_after w r.place b) q (sym (rw other refl) ∙ h) in
      let live = kept_live w (after r.place b) x.0 x.1 in
      subst (λ z. At w z.place (text ++ b ∷ [])) x.2 (at_other w r.place x.0 b text wide a live.0 live.1)
]

at_item : (w : ℕ) (p : Place) (i : Item) (text : List ℕ) → At w p text → whole p ≡ Some i → (items : List Item) × IsListOf w text items
at_item w p i text a h =
    let new = whole_is w p i a.live h in (
      a.items ++ i ∷ [],
      record {
        items_are = are_items_push w a.items i a.items_are new.1;
        text_is = a.text_is ∙ (ap (λ z. closed a.items ++ z) new.0 ∙ sym (joined_push a.items i));
      },
    )

-- the end of the text
pub at_end : (w : ℕ) (p : Place) (mask m : ℕ) (text : List ℕ) → At w p text → finished p mask ≡ Some m → (items : List Item) × IsListOf w text items
at_end w Start mask m text a h = ([], record { items_are = tt; text_is = a.text_is ∙ ap (λ z. closed z ++ []) a.begins })
at_end w AtItem mask m text a h = cc
at_end w (Low low) mask m text a h = at_item w (Low low) (One low) text a refl
at_end w (Dash low) mask m text a h = cc
at_end w (High low high) mask m text a h =
    let x = map_some (with_item mask) (whole (High low high)) m h in
    at_item w (High low high) x.0 text a x.1
