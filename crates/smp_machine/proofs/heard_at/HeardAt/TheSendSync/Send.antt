-- It owns nothing, so it may go to another thread.
use denote.Param.Send.{IsSend}
use Rattle.smp_machine.specs.contracts.heard_at.HeardAt.{the_row}

pub send : IsSend the_row
send = record { owned = λ d vs. ((λ vss. (tt, ((λ uss. (tt, tt)), tt))), tt); leaving = λ k f vs. tt }
