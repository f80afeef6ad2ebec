use Rattle.pg_guest.proofs.Assists.{assists_are_few}
use Rattle.pg_guest.proofs.laws.assists_are_few.Goals as goal

pub returns : goal.returns
returns c = assists_are_few
