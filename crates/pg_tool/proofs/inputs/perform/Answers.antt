use Rattle.std.proofs.Common.{◌≡◌, rules, true}
use Rattle.pg_tool.specs.Records.{reads_record}
use Rattle.pg_tool.proofs.Performed.{by_record}
use Rattle.pg_tool.proofs.inputs.perform.Goals as goal

pub returns-in-Check : goal.returns-in-Check
returns-in-Check g c =
    let reads : reads_record c.args.plan.now.command ≡ true = search (rules, c.in-Check.is) in
    by_record c.args.plan.now.command _ c.do_of_record.result reads c.do_of_record.ensures
