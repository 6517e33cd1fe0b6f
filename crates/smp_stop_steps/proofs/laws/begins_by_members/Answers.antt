use Rattle.std.proofs.Common.{◌≡◌, true}
use Rattle.smp_stop_steps.proofs.TheMachine.Members.{member_low, refuses_members}
use Rattle.smp_stop_steps.proofs.laws.begins_by_members.Goals as goal

pub returns : goal.returns
returns c t work is_open low cpu is = refuses_members t work (λ d. member_low t.online d low) cpu is (t.holds_gate ≡ true) (λ h. h) (λ h. h) is_open
