-- The first fault of a text, line by line.
use Rattle.smp_script.proofs.Names.{◌≡◌, ℕ, zero, suc, ◌+◌, ◌<◌, ◌≤◌, true, false, nat_lt, List, [], ◌∷◌, ◌++◌, length, drop, get_or, Option, Some, None}
use Rattle.smp_script.proofs.Names.{Result, Ok, Err, refl, sym, ap, ◌∙◌, inl, inr, arith, subst, add-one, slice_get, cases_Bool, cases_lt, nat_tests}
use Rattle.smp_script.proofs.Names.{sum_by_more, get_or_from_slice_get, slice_get_within, Cause, TooLong, Cut, SharedKey, Directive, Mode, Setting, shares}
use Rattle.smp_script.proofs.Names.{setting_of, Line, fields_of, lines_of, Fault, ◌>>=◌, at_line, line_directive, Script, directives_of, events_of, first_line}
use Rattle.smp_script.proofs.Names.{labels_at, line_at, script_of, title_of, whole_cpus, Labels, is_labels, whole_labels, requests, shapes_of, IsFault}
use Rattle.smp_script.proofs.Names.{IsFirstFault, LineFault, SharesKey, past_bytes, no_line, in_line, events_in, events_to, limit_in, online_in, setting_in}
use Rattle.smp_script.proofs.Names.{Version, limit_of}
use Rattle.smp_script.proofs.Faults.LineShapes.{IsQuiet, TellsLine}
use Rattle.smp_script.proofs.Rows.Rows.{bind_assoc}
use Rattle.smp_script.proofs.Faults.RequestLines.{IsSound, Spells, line_told}
use Rattle.smp_script.proofs.Faults.SharedKeys.{Agree, agree_more, agree_none, not_shares, quiet_apart, shares_told}
use Rattle.smp_script.proofs.Faults.TitleFields.{title_told}
use Rattle.smp_script.proofs.Faults.LabelFields.{labels_told, third_told}
use Rattle.smp_script.proofs.Faults.OnlineFaults.{cpus_told, mask_cpus}
use Rattle.smp_script.proofs.Faults.LineFaults.{FirstOf, RightLine, end_first, events_first, lines_first, read_first, read_right, right_line, shared_first}
use Rattle.smp_script.proofs.Spelled.Readings.{after_first, after_labels, after_line, after_second, after_table, after_title, title_ok, whole_mask}
use Rattle.smp_script.proofs.Reader.Widths.{AreCpus}
use Rattle.smp_script.proofs.Reader.Versions.{limit_told, limit_within, online_told}

-- what is left of a list
record Behind {A : Type 0} (xs : List A) (n : ℕ) (x : A) (rest : List A) : Type 0 where
  here : slice_get xs n ≡ Some x
  next : drop (n + 1) xs ≡ rest

behind_of : {A : Type 0} (xs : List A) (n : ℕ) (x : A) (rest : List A) → drop n xs ≡ x ∷ rest → Behind xs n x rest
behind_of [] zero x rest h = cc
behind_of [] (suc n) x rest h = cc
behind_of (y ∷ ys) zero x rest h = record { here = let same : y ≡ x = cc in ap Some same; next = cc }
behind_of (y ∷ ys) (suc n) x rest h = search (add-one, behind_of ys n x rest h, arith)

none_behind : {A : Type 0} (xs : List A) (n : ℕ) → drop n xs ≡ [] → length xs ≤ n
none_behind [] n h = omega arith
none_behind (y ∷ ys) zero h = cc
none_behind (y ∷ ys) (suc n) h = omega (arith, none_behind ys n h)

later_shapes : (setting : Setting) (n : ℕ) → 3 ≤ n → shapes_of setting (n + 1) ≡ requests setting
later_shapes setting n h = search (nat_tests, arith)

-- line 3 is no labels line
abbrev NoLabels : ℕ → List Line → Type 0
NoLabels n [] = Unit {0}
NoLabels n (l ∷ ls) = n ≡ 2 → is_labels (fields_of l.text) ≡ false

past_labels : (n : ℕ) (ls : List Line) → 3 ≤ n → NoLabels n ls
past_labels n [] h = tt
past_labels n (l ∷ ls) h = λ e. absurd (omega (arith, e))

line_shapes : (setting : Setting) → IsSound setting → (n : ℕ) (line : Line) → 2 ≤ n → (n ≡ 2 → is_labels (fields_of line.text) ≡ false)
    → TellsLine (shapes_of setting (n + 1)) (fields_of line.text) (Spells setting (fields_of line.text)) (line_directive setting line.text)
unfolding line_directive
line_shapes setting sound n line h unlabelled = elim (cases_lt 2 n) [
  | inl later ↦ rw (later_shapes setting n (omega arith)) (line_told setting sound (fields_of line.text))
  | inr third ↦
      let here : n ≡ 2 = omega arith in
      rw here (third_told setting sound (fields_of line.text) (unlabelled here))
]

-- of one text, in one setting
module _ (setting : Setting) (text : List ℕ) where
  -- no line before line n has a fault
  abbrev NoneBefore : ℕ → Type 0
  NoneBefore n = (m k : ℕ) (cause : Cause) → m < n → IsFault setting text m k cause → ⊥

  -- what reading a text tells of its faults
  abbrev pub TellsText : {A : Type 0} → Result A Fault → Type 0
  TellsText (Ok x) = (n rank : ℕ) (cause : Cause) → IsFault setting text n rank cause → ⊥
  TellsText (Err fault) = IsFirstFault setting text fault.0 fault.1

  -- a fault of a line that is there is one in it
  in_that_line : (n : ℕ) (line : Line) → slice_get (lines_of text) n ≡ Some line → (m k : ℕ) (cause : Cause) → m ≡ n + 1
      → IsFault setting text m k cause → LineFault setting (n + 1) (events_to text (n + 1)) (SharesKey text n) line k cause
  in_that_line n line here m k cause e (past_bytes f) = absurd (omega (arith, e))
  in_that_line n line here m k cause e (no_line short few) = absurd (omega (arith, e, short, slice_get_within (lines_of text) n line here))
  in_that_line n line here m k cause e (in_line n' {line = other} found f) = search arith

  -- the first fault of a line is that of the text where no line before has one
  line_first : (n : ℕ) (line : Line) (cause : Cause) → slice_get (lines_of text) n ≡ Some line
      → NoneBefore (n + 1) → FirstOf setting (n + 1) (events_to text (n + 1)) (SharesKey text n) line cause → IsFirstFault setting text (n + 1) cause
  line_first n line cause here none f = record {
    rank = f.rank;
    fault = in_line n here f.fault;
    before = none;
    least = λ k other below g. f.least k other below (in_that_line n line here (n + 1) k other refl g);
  }

  line_right : (n : ℕ) (line : Line) → slice_get (lines_of text) n ≡ Some line → NoneBefore (n + 1)
      → ((k : ℕ) (cause : Cause) → LineFault setting (n + 1) (events_to text (n + 1)) (SharesKey text n) line k cause → ⊥) → NoneBefore (n + 1 + 1)
  line_right n line here none right m k cause below f = elim (cases_lt m (n + 1)) [
    | inl before ↦ none m k cause before f
    | inr at ↦ right k cause (in_that_line n line here m k cause (omega arith) f)
  ]

  -- a line that is missing has no fault of rank 0
  none_missing : (n : ℕ) → length (lines_of text) ≤ n → (m k : ℕ) (cause : Cause) → m ≡ n + 1 → k < 1 → IsFault setting text m k cause → ⊥
  none_missing n short m k cause e below (in_line n' {line = other} found f) = omega (arith, e, slice_get_within (lines_of text) n' other found)
  none_missing n short m k cause e below _ = omega (arith, e)

  missing_first : (n : ℕ) → length (lines_of text) ≤ n → n ≤ 1 → NoneBefore (n + 1) → IsFirstFault setting text (n + 1) Cut
  missing_first n short few none = record {
    rank = 1;
    fault = no_line (omega arith) (omega arith);
    before = none;
    least = λ k other below f. none_missing n short (n + 1) k other refl below f;
  }

  -- after the last line there is no fault
  none_after : (n : ℕ) → length (lines_of text) ≤ n → 2 ≤ n → (m k : ℕ) (cause : Cause) → n < m → IsFault setting text m k cause → ⊥
  none_after n short long m k cause after (past_bytes f) = omega arith
  none_after n short long m k cause after (no_line f few) = omega arith
  none_after n short long m k cause after (in_line n' {line = other} found f) = omega (arith, slice_get_within (lines_of text) n' other found)

  ends_right : (n : ℕ) → length (lines_of text) ≤ n → 2 ≤ n → NoneBefore (n + 1) → (m k : ℕ) (cause : Cause) → IsFault setting text m k cause → ⊥
  ends_right n short long none m k cause f =
      elim (cases_lt m (n + 1)) [ inl before ↦ none m k cause before f | inr at ↦ none_after n short long m k cause (omega arith) f ]

  -- the events of one line more
  events_more : (n : ℕ) (line : Line) → slice_get (lines_of text) n ≡ Some line → events_to text (n + 1) ≡ events_to text n + events_in (fields_of line.text)
  events_more n line here =
      let same : get_or (lines_of text) n line ≡ line = get_or_from_slice_get (lines_of text) n line line here in
      sum_by_more (λ l. events_in (fields_of l.text)) (lines_of text) n line (slice_get_within (lines_of text) n line here)
      ∙ ap (λ l. events_to text n + events_in (fields_of l.text)) same

  tells_then : {A B : Type 0} (r : Result A Fault) (f : A → B) → TellsText r → TellsText (r >>= λ x. Ok (f x))
  tells_then (Ok x) f t = t
  tells_then (Err e) f t = t

  -- where the lines of a text stand: no line so far has a fault, they make so many events, and these are the keys that they have
  record Reached (n events : ℕ) (earlier : List Directive) : Type 0 where
    clear : NoneBefore (n + 1)
    made : events_to text n ≡ events
    keys : Agree text n earlier

  -- a line of the front makes no event, and has no key
  quiet_line : {B : Type 0} (n : ℕ) (l : Line) (b : B) → slice_get (lines_of text) n ≡ Some l → n + 1 ≤ 2000
      → l.ended ≡ true → RightLine setting (n + 1) l (λ x. IsQuiet (fields_of l.text)) b → Reached n 0 [] → Reached (n + 1) 0 []
  quiet_line n l b here few ended right s =
      let more : events_to text (n + 1) ≡ 0 = omega (arith, events_more n l here, right.holding.0, s.made) in
      let keys = agree_none text n l here right.holding.1 s.keys in
      let apart = quiet_apart text n l here right.holding.1 in
      record {
        clear = line_right n l here s.clear
            (right_line setting (n + 1) (events_to text (n + 1)) (SharesKey text n) l (λ x. IsQuiet (fields_of l.text)) b few ended right apart
            (omega (arith, more)));
        made = more;
        keys = keys;
      }

  -- a line of the front, and then the rest
  front_tells : {B : Type 0} (n : ℕ) (l : Line) (read : Result B Cause) (then : B → Result Script Fault) → slice_get (lines_of text) n ≡ Some l → n + 1 ≤ 2000
      → l.ended ≡ true → Reached n 0 [] → TellsLine (shapes_of setting (n + 1)) (fields_of l.text) (λ b. IsQuiet (fields_of l.text)) read → ((b : B)
      → read ≡ Ok b → Reached (n + 1) 0 [] → TellsText (then b)) → TellsText (at_line (n + 1) read >>= then)
  front_tells n l (Err cause) then here few ended s told rest = search (line_first, read_first, arith)
  front_tells n l (Ok b) then here few ended s told rest =
      rest b refl (quiet_line n l b here few ended (read_right setting (n + 1) l (λ x. IsQuiet (fields_of l.text)) (Ok b) b told refl) s)

  -- the line that has to stand there, and then the rest
  stands_tells : (n : ℕ) (ls : List Line) (then : List ℕ × List Line → Result Script Fault) → drop n (lines_of text) ≡ ls
      → n ≤ 1 → Reached n 0 [] → ((l : Line) (rest : List Line) → Behind (lines_of text) n l rest → drop n (lines_of text) ≡ l ∷ rest
      → l.ended ≡ true → TellsText (then (l.text, rest))) → TellsText (line_at (n + 1) ls >>= then)
  stands_tells n [] then e few s go = missing_first n (none_behind (lines_of text) n e) few s.clear
  stands_tells n (l ∷ ls) then e few s go =
      let left = behind_of (lines_of text) n l ls e in
      elim (cases_Bool l.ended) [
        | inr open_end ↦ rw open_end (line_first n l Cut left.here s.clear
            (end_first setting (n + 1) (events_to text (n + 1)) (SharesKey text n) l (omega arith) open_end))
        | inl ended ↦ rw ended (go l ls left e ended)
      ]

  -- a line that is read, and then the rest
  read_tells : (l : Line) (ls : List Line) (n events : ℕ) (earlier : List Directive) (d : Directive)
      → slice_get (lines_of text) n ≡ Some l → n + 1 ≤ 2000 → l.ended ≡ true → RightLine setting (n + 1) l (Spells setting (fields_of l.text)) d
      → Reached n events earlier → (Reached (n + 1) (events + events_of d) (earlier ++ d ∷ [])
      → TellsText (directives_of setting (n + 1 + 1) (events + events_of d) (earlier ++ d ∷ []) ls))
      → TellsText (after_line setting (n + 1) events earlier ls d)
  read_tells l ls n events earlier d here few ended right s rest =
      let holds = Spells setting (fields_of l.text) in
      let all = events_to text (n + 1) in
      let more : all ≡ events + events_of d =
      events_more n l here ∙ ap (λ k. events_to text n + k) right.holding.matches.0 ∙ ap (λ k. k + events_of d) s.made in
      elim (cases_Bool (shares earlier d)) [
        | inl shared ↦
            let is = shares_told text n l earlier d here right.holding.matches.1 s.keys shared in
            rw shared (line_first n l SharedKey here s.clear (shared_first setting (n + 1) all (SharesKey text n) l holds d few ended right is))
        | inr apart ↦
            let none = not_shares text n l earlier d here right.holding.matches.1 s.keys apart in
            elim (cases_Bool (nat_lt 100000 (events + events_of d))) [
              | inl past ↦
                  let over : 100000 < all = grind (arith, nat_tests, past, more) in
                  rw (apart, past) (line_first n l TooLong here s.clear
                  (events_first setting (n + 1) all (SharesKey text n) l holds d few ended right none over))
              | inr within ↦
                  let under : all ≤ 100000 = grind (arith, nat_tests, within, more) in
                  let clear = line_right n l here s.clear (right_line setting (n + 1) all (SharesKey text n) l holds d few ended right none under) in
                  let go = rest (record { clear = clear; made = more; keys = agree_more text n l earlier d here right.holding.matches.1 s.keys }) in
                  rw (apart, within) (tells_then (directives_of setting (n + 1 + 1) (events + events_of d) (earlier ++ d ∷ []) ls) (λ ds. d ∷ ds) go)
            ]
      ]

  -- one line from the third on, and then the rest
  line_tells : IsSound setting → (l : Line) (ls : List Line) (n events : ℕ) (earlier : List Directive)
      → slice_get (lines_of text) n ≡ Some l → 2 ≤ n → (n ≡ 2 → is_labels (fields_of l.text) ≡ false) → n + 1 ≤ 2000 → l.ended ≡ true
      → Reached n events earlier → ((d : Directive) → Reached (n + 1) (events + events_of d) (earlier ++ d ∷ [])
      → TellsText (directives_of setting (n + 1 + 1) (events + events_of d) (earlier ++ d ∷ []) ls)) → (r : Result Directive Cause)
      → line_directive setting l.text ≡ r → TellsText (at_line (n + 1) r >>= after_line setting (n + 1) events earlier ls)
  line_tells sound l ls n events earlier here h unlabelled few ended s rest (Err cause) e = line_first n l cause here s.clear
      (read_first setting (n + 1) (events_to text (n + 1)) (SharesKey text n) l (Spells setting (fields_of l.text)) (line_directive setting l.text) cause
      few ended (line_shapes setting sound n l h unlabelled) e)
  line_tells sound l ls n events earlier here h unlabelled few ended s rest (Ok d) e = search (read_right, line_shapes, read_tells, arith)

  -- the lines from the third on
  lines_tell : IsSound setting → (ls : List Line) (n events : ℕ) (earlier : List Directive) → drop n (lines_of text) ≡ ls
      → 2 ≤ n → NoLabels n ls → Reached n events earlier → TellsText (directives_of setting (n + 1) events earlier ls)
  unfolding directives_of
  lines_tell sound [] n events earlier e h unlabelled s = ends_right n (none_behind (lines_of text) n e) h s.clear
  lines_tell sound (l ∷ ls) n events earlier e h unlabelled s =
      let left = behind_of (lines_of text) n l ls e in
      let all = events_to text (n + 1) in
      elim (cases_Bool (nat_lt 2000 (n + 1))) [
        | inl many ↦
            let past : 2000 < n + 1 = grind (arith, nat_tests, many) in
            rw many (line_first n l TooLong left.here s.clear (lines_first setting (n + 1) all (SharesKey text n) l past))
        | inr fits ↦
            let few : n + 1 ≤ 2000 = grind (arith, nat_tests, fits) in
            elim (cases_Bool l.ended) [
              | inr open_end ↦
                  rw (fits, open_end)
                  (line_first n l Cut left.here s.clear (end_first setting (n + 1) all (SharesKey text n) l few open_end))
              | inl ended ↦
                  rw (fits, ended) (line_tells sound l ls n events earlier left.here h unlabelled few ended s
                  (λ d t. lines_tell sound ls (n + 1) (events + events_of d) (earlier ++ d ∷ []) left.next (omega arith)
                  (past_labels (n + 1) ls (omega arith)) t) (line_directive setting l.text) refl)
            ]
      ]

  -- a text that is not too long has no fault as a whole
  none_long : length text ≤ 65536 → NoneBefore 1
  none_long short m k cause below (past_bytes f) = omega arith
  none_long short m k cause below (no_line f few) = omega arith
  none_long short m k cause below (in_line n found f) = omega arith

-- the lines after the labels, and the script that they make
script_tells_from : (mode : Mode) (version : Version) (text : List ℕ) (table : ℕ × ℕ) (third : Option Labels × List Line) (n : ℕ)
    → IsSound (setting_of mode version table.1) → first_line third.0 ≡ n + 1 → drop n (lines_of text) ≡ third.1 → 2 ≤ n → NoLabels n third.1
    → Reached (setting_of mode version table.1) text n 0 [] → TellsText (setting_of mode version table.1) text (after_labels mode version table third)
script_tells_from mode version text table third n sound first e h unlabelled s = search (lines_tell, tells_then, arith)

-- the third line, and then the rest
third_tells : (mode : Mode) (version : Version) (text : List ℕ) (table : ℕ × ℕ) (ls : List Line) → IsSound (setting_of mode version table.1)
    → drop 2 (lines_of text) ≡ ls → Reached (setting_of mode version table.1) text 2 0 []
    → TellsText (setting_of mode version table.1) text (labels_at ls >>= after_labels mode version table)
third_tells mode version text table [] sound e s = script_tells_from mode version text table (None, []) 2 sound refl e (omega arith) tt s
third_tells mode version text table (l ∷ ls) sound e s =
    let setting = setting_of mode version table.1 in
    let left = behind_of (lines_of text) 2 l ls e in
    elim (cases_Bool (is_labels (fields_of l.text))) [
      | inr other ↦ rw other (script_tells_from mode version text table (None, l ∷ ls) 2 sound refl e (omega arith) (λ same. other) s)
      | inl is ↦ elim (cases_Bool l.ended) [
        | inr open_end ↦
            rw (is, open_end) (line_first setting text 2 l Cut left.here s.clear
            (end_first setting 3 (events_to text 3) (SharesKey text 2) l (omega arith) open_end))
        | inl ended ↦ rw (is, ended, bind_assoc)
            (front_tells setting text 2 l (whole_labels (fields_of l.text)) (λ labels. after_labels mode version table (Some labels, ls)) left.here
            (omega arith) ended s (labels_told setting (fields_of l.text) is) (λ labels read stands.
            script_tells_from mode version text table (Some labels, ls) 3 sound refl left.next (omega arith) (past_labels 3 ls (omega arith)) stands))
      ]
    ]

-- the mask of the second line is that of the CPUs online
settles : (text : List ℕ) (l : Line) (ls : List Line) (version : Version) (table : ℕ × ℕ) → drop 1 (lines_of text) ≡ l ∷ ls
    → limit_in text ≡ limit_of version → whole_cpus (limit_of version) (fields_of l.text) ≡ Ok table → (online_in text ≡ table.1) × AreCpus table.1
settles text l ls version table e limit read = search (whole_mask, limit_within, online_told, mask_cpus, arith)

-- the second line, and then the rest; what it says of the CPUs online is what it settles
second_tells : (mode : Mode) (version : Version) (text : List ℕ) (ls : List Line) → drop 1 (lines_of text) ≡ ls → limit_in text ≡ limit_of version
    → Reached (setting_of mode version (online_in text)) text 1 0 []
    → TellsText (setting_of mode version (online_in text)) text (line_at 2 ls >>= after_second mode version)
second_tells mode version text ls e limit s =
    let setting = setting_of mode version (online_in text) in
    stands_tells setting text 1 ls (after_second mode version) e (omega arith) s (λ l rest left at ended.
    front_tells setting text 1 l (whole_cpus (limit_of version) (fields_of l.text)) (after_table mode version rest) left.here (omega arith) ended s
    (cpus_told (limit_of version) (fields_of l.text) (limit_within version)) (λ table read stands.
    let known = settles text l rest version table at limit read in
    let there = third_tells mode version text table rest (record { few = limit_within version; cpus = known.1 }) left.next
    (subst (λ m. Reached (setting_of mode version m) text 2 0 []) known.0 stands) in
    subst (λ m. TellsText (setting_of mode version m) text (labels_at rest >>= after_labels mode version table)) (sym known.0) there))

-- the first line, and then the rest
first_tells : (mode : Mode) (text : List ℕ) (ls : List Line) → lines_of text ≡ ls → Reached (setting_in mode text) text 0 0 []
    → TellsText (setting_in mode text) text (line_at 1 ls >>= after_first mode)
first_tells mode text ls e s =
    let setting = setting_in mode text in
    stands_tells setting text 0 ls (after_first mode) e (omega arith) s (λ l rest left at ended.
    front_tells setting text 0 l (title_of mode (fields_of l.text)) (after_title mode (l.text, rest)) left.here (omega arith) ended s
    (title_told mode (fields_of l.text)) (λ version read stands.
    let limit : limit_in text ≡ limit_of version = limit_told mode text l rest version at (title_ok mode (fields_of l.text) version read) in
    let same : setting_in mode text ≡ setting_of mode version (online_in text) =
    ap (λ k. record { mode = mode; limit = k; online = online_in text }) limit in
    let more = second_tells mode version text rest left.next limit (subst (λ x. Reached x text 1 0 []) same stands) in
    subst (λ x. TellsText x text (line_at 2 rest >>= after_second mode version)) (sym same) more))

-- what reading a text tells
pub script_tells : (mode : Mode) (text : List ℕ) → TellsText (setting_in mode text) text (script_of mode text)
unfolding script_of
script_tells mode text = elim (cases_Bool (nat_lt 65536 (length text))) [
  | inl long ↦
      rw long (record {
        rank = 0;
        fault = past_bytes (grind (arith, nat_tests, long));
        before = λ m k cause below f. omega arith;
        least = λ k cause below f. omega arith;
      })
  | inr short ↦
      let clear = none_long (setting_in mode text) text (grind (arith, nat_tests, short)) in
      rw short (first_tells mode text (lines_of text) refl (record { clear = clear; made = refl; keys = λ mine. refl }))
]
