use Rattle.std.proofs.Common.{List, sym, ap, ◌∙◌}
use Rattle.clap.specs.Matches.{found_of}
use Rattle.clap.specs.Walk.{Row, rows_of}
use Rattle.clap.specs.declared.parser.matches.ArgMatches.TheViews.{out-ArgMatches}
use Rattle.clap.proofs.WalkLemmas.{raw_values-rows}
use Rattle.pg_arguments.specs.Commands.{names_in}
use Rattle.pg_arguments.proofs.Parses.{joined}
use Rattle.pg_arguments.proofs.planner.names_of.Goals as goal

pub returns : goal.returns
returns c =
    let found = found_of c.in_ok-own.own.now in
    let rows : List Row = rows_of found in
    let found_is = joined (out-ArgMatches c.args.matches.now).subcommand c.in_ok-own.field-0-0.now rows c.in_ok-own.ensures.rows c.in_ok-own.ensures.name in
    c.get_strs.ensures ∙ raw_values-rows found c.args.option.now ∙ sym (ap (names_in c.args.option.now) found_is)
