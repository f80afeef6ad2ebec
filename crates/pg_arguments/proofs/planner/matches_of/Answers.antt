use Rattle.std.proofs.Common.{⊎_elim, sym, subst}
use Rattle.clap.specs.Simple.{app_of}
use Rattle.clap.specs.declared.error.kind.ErrorKind.TheVariants.{DisplayHelp, DisplayVersion}
use Rattle.pg_arguments.specs.Commands.{IsFault, texts}
use Rattle.pg_arguments.specs.declared.request.Usage.{Usage}
use Rattle.pg_arguments.proofs.Parses.{fails_by_memory, text_named, gives_text, parsed_taken, parsed_rows}
use Rattle.pg_arguments.proofs.planner.matches_of.Goals as goal

pub returns-in-Ok-try_get_matches_from-clause-taken :
    goal.returns-in-Ok-try_get_matches_from-clause-taken
returns-in-Ok-try_get_matches_from-clause-taken c =
    parsed_taken (app_of c.in-Ok.line) (texts c.args.words.now) c.in-Ok.ensures.made.form c.in-Ok-try_get_matches_from.ensures.kinds

pub returns-in-Ok-try_get_matches_from-clause-rows :
    goal.returns-in-Ok-try_get_matches_from-clause-rows
returns-in-Ok-try_get_matches_from-clause-rows c =
    let parsed = c.in-Ok-try_get_matches_from in
    parsed_rows (app_of c.in-Ok.line) (texts c.args.words.now) parsed.matches c.in-Ok.ensures.made.form parsed.ensures.matches

pub returns-in-Err-clause-memory : goal.returns-in-Err-clause-memory
returns-in-Err-clause-memory c = λ taken.
    let failed = c.in-Err in
    c.usage_of.ensures.memory (fails_by_memory (app_of c.in-Ok.line) (texts c.args.words.now) failed.error c.in-Ok.ensures.made.form failed.ensures.kinds taken)

pub returns-in-Err-clause-help : goal.returns-in-Err-clause-help
returns-in-Err-clause-help c = λ asks.
    let failed = c.in-Err in
    let kind = gives_text DisplayHelp (app_of c.in-Ok.line) (texts c.args.words.now) failed.error c.in-Ok.ensures.made.form failed.ensures.kinds asks in
    let P : Usage → Type 0 = λ why. ¬ IsFault why in
    ⊎_elim (λ e. subst P (sym (c.usage_of.ensures.memory e)) (λ f. f)) (λ e. c.usage_of.ensures.help e) kind

pub returns-in-Err-clause-version : goal.returns-in-Err-clause-version
returns-in-Err-clause-version c = λ asks.
    let failed = c.in-Err in
    let kind = gives_text DisplayVersion (app_of c.in-Ok.line) (texts c.args.words.now) failed.error c.in-Ok.ensures.made.form failed.ensures.kinds asks in
    let P : Usage → Type 0 = λ why. ¬ IsFault why in
    ⊎_elim (λ e. subst P (sym (c.usage_of.ensures.memory e)) (λ f. f)) (λ e. c.usage_of.ensures.version e) kind

pub returns-in-Err-clause-help_named : goal.returns-in-Err-clause-help_named
returns-in-Err-clause-help_named c = λ is.
    let failed = c.in-Err in
    text_named DisplayHelp (app_of c.in-Ok.line) (texts c.args.words.now) failed.error c.in-Ok.ensures.made.form failed.ensures.kinds (c.usage_of.ensures.help_named is) (λ e. cc)

pub returns-in-Err-clause-version_named : goal.returns-in-Err-clause-version_named
returns-in-Err-clause-version_named c = λ is.
    let failed = c.in-Err in
    text_named DisplayVersion (app_of c.in-Ok.line) (texts c.args.words.now) failed.error c.in-Ok.ensures.made.form failed.ensures.kinds (c.usage_of.ensures.version_named is) (λ e. cc)
