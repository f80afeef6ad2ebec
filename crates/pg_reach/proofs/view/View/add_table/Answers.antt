use Rattle.std.proofs.Common.{◌≡◌, ap, subst}
use Rattle.std.proofs.lemmas.Result.{on_ok_weaker}
use Rattle.pg_reach.specs.Views.{Viewed}
use Rattle.pg_reach.specs.Reaching.{IsAdded}
use Rattle.pg_reach.proofs.Nexts.{filled_one}
use Rattle.pg_reach.proofs.view.View.add_table.Goals as goal

pub returns-in-Some-next : goal.returns-in-Some-next
returns-in-Some-next c = on_ok_weaker c.add.result (λ added.
    let freshest : c.self.inside.walker.freshest ≡ c.args.self.now.walker.freshest = ap (λ (v : Viewed). v.walker.freshest) c.self.view_is in
    filled_one c.args.self.now.run c.args.self.now.walker c.args.level c.args.at c.in-Some.read c.args.x.now c.in-Some-next.next c.args.piece.now c.args.nexts.now c.add.new.self c.requires.level c.requires.reach c.requires.low c.requires.piece c.in-Some.is
    c.in-Some-next.ensures (subst (λ f. IsAdded f c.args.nexts.now c.add.new.self c.in-Some-next.next) freshest added)) c.add.ensures
