use Rattle.std.proofs.Common.{refl}
use Rattle.pg_report.specs.Changes.{filled}
use Rattle.pg_tool.specs.contracts.nowhere.NowhereSink.TheImpl as nowhere
use Rattle.pg_tool.proofs.outputs.perform_unheard.Goals as goal

pub returns : goal.returns
returns g c = (filled nowhere.ghosts c.perform_all.new.output c.perform_all.new.output, refl, c.perform_all.ensures)
