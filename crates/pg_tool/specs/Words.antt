-- What the whole program answers by the words of its command line.
use Rattle.std.specs.Prelude.{◌≡◌, ◌⊎◌, ◌<◌, ℕ, Bool, List, Option, option_map, map, drop, length}
use Rattle.std.specs.Prelude.{Result, Ok, Err, string_bytes}
use Rattle.std.specs.declared.string.String.{String}
use Rattle.std.specs.declared.vec.Vec.{Vec}
use Rattle.clap.specs.Simple.{subcommand_of}
use Rattle.clap.specs.Walk.{Text}
use Rattle.pg_answers.specs.Refusals.{StaysSame, TellsNoWords}
use Rattle.pg_answers.specs.Streams.{Streams}
use Rattle.pg_arguments.specs.Commands.{AreTaken, Asks, AsksHelp, AsksOnly, AsksVersion, IsFault}
use Rattle.pg_arguments.specs.Commands.{IsHelp, IsVersion, NamesHelp, NamesVersion, command_line}
use Rattle.pg_arguments.specs.Commands.{files_in, logs_in, output_in}
use Rattle.pg_arguments.specs.Texts.{HasVersionText, TellsWrong}
use Rattle.pg_arguments.specs.declared.request.Invocation.{Invocation}
use Rattle.pg_arguments.specs.declared.request.Plan.{Plan}
use Rattle.pg_arguments.specs.declared.request.Usage.{Usage}
use Rattle.pg_arguments.specs.declared.request.Usage.TheVariants.{Memory}
use Rattle.pg_arguments.specs.declared.words.NoWords.{NoWords}
use Rattle.pg_arguments.specs.declared.words.NoWords.TheVariants as unread
use Rattle.pg_tool.specs.Answers.{Answers, Opening}
use Rattle.pg_tool.specs.Outputs.{Making}

-- the arguments ask for this plan, this file, these files and logs, and this output, and for no
-- others
pub record AreAskedBy (words : List Text) (asked : Invocation) : Type 0 where
  pub plan : AsksOnly words asked.plan (option_map (λ s. s.now) asked.file)
  pub files : map (λ s. s.now) asked.files.items ≡ files_in (subcommand_of command_line words)
  pub logs : map (λ s. s.now) asked.logs.items ≡ logs_in (subcommand_of command_line words)
  pub output : option_map (λ s. s.now) asked.output ≡ output_in (subcommand_of command_line words)

-- Why words give no plan: memory ran out; or they ask for help or for the version, which is given
-- only where they name it; or they ask for no plan, and what is told is what is wrong with them.
pub record IsWhyOf (words : List Text) (why : Usage) : Type 0 where
  pub taken : (plan : Plan) (file : Option Text) → Asks words plan file → why ≡ Memory
  pub help : AsksHelp words → ¬ IsFault why
  pub help_named : IsHelp why → NamesHelp words
  pub version : AsksVersion words → ¬ IsFault why
  pub version_named : IsVersion why → NamesVersion words
  pub version_text : HasVersionText why
  pub wrong : AreTaken words → TellsWrong (subcommand_of command_line words) why

-- the words lead to this plan, or to no plan for this reason
abbrev pub LeadTo : List Text → Result Invocation Usage → Type 0
LeadTo words (Ok asked) = AreAskedBy words asked
LeadTo words (Err why) = IsWhyOf words why

-- All that the program promises by the words after its name: they lead to a plan, or to no plan for
-- a reason, and that leads to the streams and the status.
abbrev pub AnswersWords :
    List Text → Opening → Making → Bool → Type 0 → Streams → ℕ → Type 0
AnswersWords words Opens Makes terminal Unread s status =
    (planned : Result Invocation Usage) × LeadTo words planned
    × Answers planned Opens Makes terminal Unread s status

-- there are no words for this reason: the input is not read, nothing is written but that reason
abbrev pub HasNoWords : NoWords → Type 0 → Streams → ℕ → Type 0
HasNoWords why Unread s status =
    Unread × StaysSame s.output × TellsNoWords s.errors why status

-- The same by the arguments that a program was started with, of which the first is its name. Memory
-- can run out over the words only where there are some.
abbrev pub AnswersArguments : {A B : Type 0} → Result (Vec (String A) B) NoWords → Opening →
    Making → Bool → Type 0 → Streams → ℕ → Type 0
AnswersArguments (Err why) Opens Makes terminal Unread s status = HasNoWords why Unread s status
AnswersArguments (Ok arguments) Opens Makes terminal Unread s status =
    AnswersWords (map string_bytes (drop 1 arguments.items)) Opens Makes terminal Unread s status
    ⊎ ((1 < length arguments.items) × HasNoWords unread.Memory Unread s status)
