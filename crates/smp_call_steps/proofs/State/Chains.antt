-- A chain is read from its newest call to its oldest.
use Rattle.std.proofs.Math.Bool.{or-true}
use Rattle.std.proofs.Common.{◌≡◌, ◌≢◌, ℕ, zero, suc, ◌+◌, ◌-◌, ◌<◌, ◌≤◌, ◌==◌, true, false, List, [], ◌∷◌, ◌++◌, length, sym, subst, refl, ap, ◌∙◌, arith}
use Rattle.std.proofs.Common.{append_assoc, length-append}
use Rattle.std.proofs.lemmas.List.{append-nil, drop_all, take_all}
use Rattle.std.proofs.lemmas.List.Folds.{list_any-append}
use Rattle.std.specs.List.{AllByRecursion, list_any, refill}
use Rattle.smp_words.specs.Size.{records}
use Rattle.smp_call_steps.specs.{Leads, HasChain, chain_in, ids, Call}
use Rattle.smp_call_steps.proofs.Basics.Alls.{every_left, every_last}
use Rattle.smp_call_steps.proofs.State.Batches.{no_chain, has_newest}

pub ids-append : (xs ys : List Call) → ids (xs ++ ys) ≡ ids xs ++ ids ys
ids-append [] ys = refl
ids-append (x ∷ xs) ys = ap (λ (ns : List ℕ). x.id ∷ ns) (ids-append xs ys)

-- from 0 none is read
pub chain_in-zero : (nexts : ℕ → ℕ) (n : ℕ) → chain_in nexts n 0 ≡ []
unfolding chain_in
chain_in-zero nexts x = search arith

pub chain_in-more : (nexts : ℕ → ℕ) (n id : ℕ) → chain_in nexts (suc n) (suc id) ≡ chain_in nexts n (nexts id) ++ id ∷ []
unfolding chain_in
chain_in-more nexts n id = refl

-- what is read of a chain that is short enough is all of it
pub chain_read : (n : ℕ) (nexts : ℕ → ℕ) (link : ℕ) (calls : List Call) → length calls ≤ n → Leads nexts link calls 0 → chain_in nexts n link ≡ ids calls
chain_read n nexts zero calls s l = chain_in-zero nexts n ∙ sym (ap ids (no_chain nexts 0 calls refl l))
chain_read zero nexts (suc id) calls s l =
    let m = has_newest nexts (suc id) calls (λ e. cc) l in
    search (m, length-append, arith)
chain_read (suc n) nexts (suc id) calls s l =
    let m = has_newest nexts (suc id) calls (λ e. cc) l in
    let link : suc id ≡ m.newest.id + 1 = m.link_is in
    let same : m.newest.id ≡ id = omega arith in
    let size : length calls ≡ length m.older + 1 = ap length m.parts ∙ length-append m.older (m.newest ∷ []) in
    let older : chain_in nexts n (nexts m.newest.id) ≡ ids m.older = chain_read n nexts (nexts m.newest.id) m.older (omega arith) m.leads in
    search (m, ids-append, chain_in-more, same, older, arith)

-- where a reader of a chain is: what is left, and the records that were passed
pub record Follows (nexts : ℕ → ℕ) (first link : ℕ) (passed : List ℕ) (rounds : ℕ) : Type 0 where
  pub rest : List Call
  pub leads : Leads nexts link rest 0
  pub records_are : AllByRecursion (λ call. call.id < records) rest
  pub short : length rest + rounds ≤ records
  pub counted : length passed ≡ rounds
  pub whole : (n : ℕ) → n + rounds ≡ records → chain_in nexts n link ++ passed ≡ chain_in nexts records first

pub follows_all : (nexts : ℕ → ℕ) (first : ℕ) → HasChain nexts first → Follows nexts first first [] 0
follows_all nexts first h = search (append-nil, arith)

-- what a reader needs of a link that is no end, and where it is after it
pub record Passes (nexts : ℕ → ℕ) (first link : ℕ) (passed : List ℕ) (rounds : ℕ) : Type 0 where
  pub below : link ≤ records
  pub room : length passed < records
  pub on : (id : ℕ) → id + 1 ≡ link → Follows nexts first (nexts id) (id ∷ passed) (rounds + 1)

passes_call : (nexts : ℕ → ℕ) (first id : ℕ) (passed : List ℕ) (rounds : ℕ) (call : Call) (older : List Call) → call.id ≡ id
    → Leads nexts (nexts call.id) older 0 →
    AllByRecursion (λ call. call.id < records) (older ++ call ∷ []) → length (older ++ call ∷ []) + rounds ≤ records → length passed ≡ rounds →
    ((n : ℕ) → n + rounds ≡ records → chain_in nexts n (suc id) ++ passed ≡ chain_in nexts records first) → Passes nexts first (suc id) passed rounds
passes_call nexts first id passed rounds call older e l r s n w =
    let last : call.id < records = every_last (λ call. call.id < records) older call r in
    let size = length-append older (call ∷ []) in
    record {
      below = omega arith;
      room = omega arith;
      on = λ u g. let same : u ≡ id = omega arith in rw same (record {
        rest = older;
        leads = rw e at l;
        records_are = every_left (λ call. call.id < records) older (call ∷ []) r;
        short = omega arith;
        counted = omega arith;
        whole = λ m f. sym (append_assoc (chain_in nexts m (nexts id)) (id ∷ []) passed)
            ∙ (ap (λ (xs : List ℕ). xs ++ passed) (sym (chain_in-more nexts m id)) ∙ w (suc m) (omega arith));
      });
    }

pub passes : (nexts : ℕ → ℕ) (first link : ℕ) (passed : List ℕ) (rounds : ℕ) → link ≢ 0 → Follows nexts first link passed rounds
    → Passes nexts first link passed rounds
passes nexts first zero passed rounds ne f = absurd (ne refl)
passes nexts first (suc id) passed rounds ne f =
    let m = has_newest nexts (suc id) f.rest ne f.leads in
    let link : suc id ≡ m.newest.id + 1 = m.link_is in
    passes_call nexts first id passed rounds m.newest m.older (omega arith) m.leads
    (subst (λ (ys : List Call). AllByRecursion (λ call. call.id < records) ys) m.parts f.records_are)
    (subst (λ (ys : List Call). length ys + rounds ≤ records) m.parts f.short) f.counted f.whole

-- at the end of a chain all of it was passed
pub ended : (nexts : ℕ → ℕ) (first : ℕ) (passed : List ℕ) (rounds n : ℕ) → n + rounds ≡ records → Follows nexts first 0 passed rounds
    → passed ≡ chain_in nexts records first
ended nexts first passed rounds n e f = ap (λ (xs : List ℕ). xs ++ passed) (sym (chain_in-zero nexts n)) ∙ f.whole n e

-- after as many rounds as there are records the chain has ended
pub ended_by_count : (nexts : ℕ → ℕ) (first link : ℕ) (passed : List ℕ) (rounds : ℕ) → records ≤ rounds → Follows nexts first link passed rounds
    → passed ≡ chain_in nexts records first
ended_by_count nexts first zero passed rounds n f = let s = f.short in ended nexts first passed rounds 0 (omega arith) f
ended_by_count nexts first (suc id) passed rounds n f =
    let p = passes nexts first (suc id) passed rounds (λ e. cc) f in
    search (p, arith)

-- who looks for a record on a chain has not passed it
pub record Seeks (nexts : ℕ → ℕ) (first link id rounds : ℕ) : Type 0 where
  pub passed : List ℕ
  pub follows : Follows nexts first link passed rounds
  pub absent : list_any (λ r. r == id) passed ≡ false

pub seeks_first : (nexts : ℕ → ℕ) (first id : ℕ) → HasChain nexts first → Seeks nexts first first id 0
seeks_first nexts first id h = record { passed = []; follows = follows_all nexts first h; absent = refl }

-- another record is passed
pub seeks_on : (nexts : ℕ → ℕ) (first link id rounds here : ℕ) → link ≢ 0 → here + 1 ≡ link → (here == id) ≡ false → Seeks nexts first link id rounds
    → Seeks nexts first (nexts here) id (rounds + 1)
seeks_on nexts first link id rounds here ne e other s =
    let p = passes nexts first link s.passed rounds ne s.follows in
    record { passed = here ∷ s.passed; follows = p.on here e; absent = rw other s.absent }

-- this one is on the chain
pub sought_here : (nexts : ℕ → ℕ) (first link id rounds here : ℕ) → link ≢ 0 → here + 1 ≡ link → (here == id) ≡ true → Seeks nexts first link id rounds
    → list_any (λ r. r == id) (chain_in nexts records first) ≡ true
sought_here nexts first link id rounds here ne e this s =
    let p = passes nexts first link s.passed rounds ne s.follows in
    let f = p.on here e in
    let short = f.short in
    let whole : chain_in nexts (records - (rounds + 1)) (nexts here) ++ here ∷ s.passed ≡ chain_in nexts records first =
    f.whole (records - (rounds + 1)) (omega arith) in
    search (whole, list_any-append, or-true, arith)

-- at the end of the chain it is not
pub not_sought : (nexts : ℕ → ℕ) (first id rounds : ℕ) → Seeks nexts first 0 id rounds → list_any (λ r. r == id) (chain_in nexts records first) ≡ false
not_sought nexts first id rounds s =
    let short = s.follows.short in
    ap (list_any (λ r. r == id)) (sym (ended nexts first s.passed rounds (records - rounds) (omega arith) s.follows)) ∙ s.absent

pub not_sought_by_count : (nexts : ℕ → ℕ) (first link id rounds : ℕ) → records ≤ rounds → Seeks nexts first link id rounds
    → list_any (λ r. r == id) (chain_in nexts records first) ≡ false
not_sought_by_count nexts first link id rounds n s = ap (list_any (λ r. r == id)) (sym (ended_by_count nexts first link s.passed rounds n s.follows)) ∙ s.absent

-- a list that is written back whole
pub refilled : (xs ys : List ℕ) → length ys ≡ length xs → refill (length xs) xs ys ≡ ys
refilled xs ys e = search (drop_all, append-nil, take_all, arith)
