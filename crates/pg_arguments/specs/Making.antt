-- What each step gives by which the command line is made.
use Rattle.std.specs.Prelude.{◌≡◌, false, Result, IfOk}
use Rattle.std.specs.declared.alloc.AllocError.{AllocError}
use Rattle.clap.specs.Simple.{App, app_of}
use Rattle.clap.specs.Walk.{Rule, rule_of}
use Rattle.clap.specs.declared.builder.arg.Arg.{Arg}
use Rattle.clap.specs.declared.builder.command.Command.{Command}
use Rattle.clap.specs.declared.builder.command.Command.TheViews.{out-Command as fields_of}

-- an option of this rule, of one command alone
pub record IsOption (rule : Rule) (option : Arg) : Type 0 where
  pub form : rule_of option ≡ rule
  pub local : option.global ≡ false

-- a command of this form, with no option that is of its subcommands too
pub record IsLineOf (app : App) (line : Command) : Type 0 where
  pub form : app_of line ≡ app
  pub local : (fields_of line).has_globals ≡ false

-- an option of this rule was made, unless memory ran out
abbrev pub IsMade : Rule → Result Arg AllocError → Type 0
IsMade rule option = IfOk option (IsOption rule)

-- a command of this form was made, unless memory ran out
pub record IsLine (app : App) (line : Result Command AllocError) : Type 0 where
  pub made : IfOk line (IsLineOf app)
