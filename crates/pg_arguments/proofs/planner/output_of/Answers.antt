use Rattle.std.proofs.Common.{List, codes, sym, ap, ◌∙◌}
use Rattle.clap.specs.Matches.{found_of}
use Rattle.clap.specs.Simple.{subcommand_rows_of}
use Rattle.clap.specs.Walk.{Row, rows_of}
use Rattle.clap.specs.declared.parser.matches.ArgMatches.TheViews.{out-ArgMatches}
use Rattle.clap.proofs.WalkLemmas.{first_value-rows}
use Rattle.pg_arguments.specs.Commands.{named_file, output_in}
use Rattle.pg_arguments.proofs.Parses.{joined}
use Rattle.pg_arguments.proofs.planner.output_of.Goals as goal

pub returns : goal.returns
returns c =
    let found = found_of c.in_ok-own.own.now in
    let rows : List Row = rows_of found in
    let found_is = joined (out-ArgMatches c.args.matches.now).subcommand c.in_ok-own.field-0-0.now rows c.in_ok-own.ensures.rows c.in_ok-own.ensures.name in
    c.named_file.ensures ∙ ap named_file (c.get_str.ensures ∙ first_value-rows found (codes "output"))
    ∙ sym (ap output_in found_is)
