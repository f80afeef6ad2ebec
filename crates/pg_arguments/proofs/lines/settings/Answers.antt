use Rattle.std.proofs.Common.{ap, true}
use Rattle.clap.specs.Simple.{on_top}
use Rattle.pg_arguments.proofs.lines.settings.Goals as goal

pub returns : goal.returns
returns c = record {
  form =
      rw (c.subcommand_required.ensures, c.no_binary_name.ensures, c.version.ensures, c.about.ensures)
      (ap (on_top (λ s. record s { no_binary_name = true; has_version = true; subcommand_required = true })) c.new.ensures.app);
  local =
      rw (c.subcommand_required.ensures, c.no_binary_name.ensures, c.version.ensures, c.about.ensures)
      c.new.ensures.local;
}
