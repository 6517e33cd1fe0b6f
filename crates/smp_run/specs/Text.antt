-- What a run prints.
use Rattle.std.specs.Prelude.{ℕ, ◌+◌, ◌==◌, Bool, if◌then◌else◌, List, [], ◌∷◌, ◌++◌, codes}
use Rattle.std.specs.Fmt.{decimal, signed_decimal}
use Rattle.std.specs.List.{flat_map}
use Rattle.smp_mask.specs.Mask.{members}
use Rattle.smp_labels.specs.declared.kinds.SiteKind.{SiteKind}
use Rattle.smp_labels.specs.declared.kinds.SiteKind.TheVariants.{Nop, Jmp}
use Rattle.smp_queue.specs.Audit.{tally_at}
use Rattle.smp_queue.specs.declared.audit.Audit.{Audit}
use Rattle.smp_queue.specs.declared.audit.Tally.{Tally}
use Rattle.smp_queue.specs.declared.audit.Audit.TheVariants.{Drained, Left}
use Rattle.smp_script.specs.Errors.{error_number}
use Rattle.smp_script.specs.Spelling.{mask_text, switch_text}
use Rattle.smp_run.specs.declared.answer.Answer.{Answer}
use Rattle.smp_run.specs.declared.answer.Answer.TheVariants.{Done, Cpu, Cpus, Number, Turned, Refused}

-- what each item of a list gives, by its number, which are counted from n
unfoldable pub numbered : {X Y : Type 0} → (ℕ → X → List Y) → ℕ → List X → List Y
numbered f n [] = []
numbered f n (x ∷ xs) = f n x ++ numbered f (n + 1) xs

abbrev pub answer_text : Answer → List ℕ
answer_text Done = codes "ok"
answer_text (Cpu cpu) = decimal cpu
answer_text (Cpus mask) = mask_text mask
answer_text (Number answer) = signed_decimal answer
answer_text (Turned turned) = if turned then codes "true" else codes "false"
answer_text (Refused error) = codes "E" ++ decimal (error_number error)

-- the number of a line, and its answer
abbrev pub line_text : ℕ → Answer → List ℕ
line_text line answer = decimal line ++ codes " " ++ answer_text answer ++ codes "\n"

-- how many calls from one CPU to another were queued and run: the same number
abbrev pub pair_text : (ℕ → ℕ → ℕ) → ℕ → ℕ → List ℕ
pair_text count source to = if to == source then []
    else codes "tally " ++ decimal source ++ codes " " ++ decimal to ++ codes " " ++ decimal (count source to) ++ codes " " ++ decimal (count source to)
    ++ codes "\n"

-- the lines of all pairs of different CPUs online, ascending
abbrev pub tally_text : ℕ → Tally → List ℕ
tally_text online t = flat_map (λ source. flat_map (pair_text (tally_at t.queued) source) (members online)) (members online)

-- the same where the audit is Drained
abbrev pub tallies_text : ℕ → Audit → List ℕ
tallies_text online (Drained t) = tally_text online t
tallies_text online (Left left) = []

abbrev pub key_text : ℕ → Bool → List ℕ
key_text k on = codes "key " ++ decimal k ++ codes " " ++ switch_text on ++ codes "\n"

abbrev pub kind_text : SiteKind → List ℕ
kind_text Nop = codes "NOP"
kind_text Jmp = codes "JMP"

abbrev pub site_text : ℕ → SiteKind → List ℕ
site_text i kind = codes "site " ++ decimal i ++ codes " " ++ kind_text kind ++ codes "\n"

-- the last line: how the audit ended
abbrev pub audit_text : Audit → List ℕ
audit_text (Drained t) = codes "drained\n"
audit_text (Left left) = codes "left " ++ decimal left.heads ++ codes " " ++ decimal left.locked ++ codes " " ++ decimal left.handling ++ codes "\n"

-- what comes after the lines: the tallies where the audit is Drained, the keys, the sites, and how the audit ended
abbrev pub ending_text : ℕ → List Bool → List SiteKind → Audit → List ℕ
ending_text online keys sites ending = tallies_text online ending ++ (numbered key_text 0 keys ++ (numbered site_text 0 sites ++ audit_text ending))
