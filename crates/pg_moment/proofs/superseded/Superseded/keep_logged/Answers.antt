use Rattle.std.proofs.Common.{refl, arith}
use Rattle.pg_moment.proofs.Keeping.{keeps_logged}
use Rattle.pg_moment.proofs.superseded.Superseded.keep_logged.Goals as goal

pub returns-in_ok-push-clause-ok : goal.returns-in_ok-push-clause-ok
returns-in_ok-push-clause-ok c =
    let log = c.args.self.now.log.items in
    let lists = c.args.self.now.lists.entries in
    keeps_logged log lists c.args.addr c.args.word c.args.place c.args.count c.requires.others c.requires.word _ refl c.push.new.self.items c.in_ok-push.ensures.items
    (omega arith) _ _ (omega (arith, c.len-next.ensures, c.args.self.now.log.ok.0)) (omega arith)
