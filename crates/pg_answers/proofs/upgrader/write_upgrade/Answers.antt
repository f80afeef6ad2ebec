use Rattle.pg_answers.proofs.Upgraded.{upgrade_told}
use Rattle.pg_answers.proofs.upgrader.write_upgrade.Goals as goal

pub returns-in-Ok-clause-upgrade : goal.returns-in-Ok-clause-upgrade
returns-in-Ok-clause-upgrade g c =
    let old = c.in-Ok in
    let wrote = c.write_upgraded.ensures in
    upgrade_told _ _ old.history old.ensures.reads old.ensures.device c.write_upgraded.result wrote.written wrote.device wrote.report
