use Rattle.std.proofs.Common.{ℕ, ◌<◌, ◌^◌, arith}
use Rattle.pg_arguments.specs.Values.{IsNumberIn}
use Rattle.pg_arguments.proofs.Parses.{reads_both, reads_none, reads_other}
use Rattle.pg_arguments.proofs.values.cpu_in.Goals as goal

abbrev IsSmall : ℕ → Type 0
IsSmall p = p < 2 ^ 16

pub returns-in_err-cpu : goal.returns-in_err-cpu
returns-in_err-cpu c = rw c.from_residual.ensures (reads_none (IsNumberIn c.args.text.now) IsSmall c.in_err-cpu.ensures)

pub returns-then-cpu-gt65535 : goal.returns-then-cpu-gt65535
returns-then-cpu-gt65535 c = reads_other (IsNumberIn c.args.text.now) IsSmall c.in_ok-cpu.cpu c.in_ok-cpu.ensures (λ small. omega (arith, small, c.if-cpu-gt65535.true))

pub returns : goal.returns
returns c = reads_both (IsNumberIn c.args.text.now) IsSmall c.in_ok-cpu.cpu c.in_ok-cpu.ensures (omega (arith, c.if-cpu-gt65535.false))
