use Rattle.std.proofs.Common.{take, List, sym, subst}
use Rattle.std.proofs.lemmas.List.{take_more}
use Rattle.pg_inval.specs.declared.key.DropKey.{DropKey}
use Rattle.pg_inval.specs.Lists.{ArePushed}
use Rattle.pg_inval.proofs.Pushes.{ArePushed-one, end_of-fresh, AreSame-cut, fresh_at}
use Rattle.pg_inval.proofs.lists.push_moments.Goals as goal

pub push_at-requires : goal.push_at-requires
push_at-requires c =
    end_of-fresh c.args.by_key.now.entries c.loop-key.by_key.entries (take c.loop-key.key-index c.args.keys.now) _ c.args.moment c.requires.ends c.loop-key.invariant
    (fresh_at c.args.keys.now c.loop-key.key-index _ c.requires.distinct c.loop-key-test.true)

pub returns-in-Err-clause-err : goal.returns-in-Err-clause-err
returns-in-Err-clause-err c =
    AreSame-cut c.args.by_key.now.entries c.loop-key.by_key.entries c.cut_all.new.by_key.entries (take c.loop-key.key-index c.args.keys.now) c.args.moment
    c.requires.ends c.loop-key.invariant (rw (← c.in-Err.ensures.err) c.cut_all.ensures)

pub loop-key-preserved : goal.loop-key-preserved
loop-key-preserved c =
    subst (λ (ks : List DropKey). ArePushed c.args.by_key.now.entries c.push_at.new.by_key.entries ks c.args.moment) (sym (take_more c.args.keys.now c.loop-key.key-index _ c.loop-key-test.true))
    (ArePushed-one c.args.by_key.now.entries c.loop-key.by_key.entries c.push_at.new.by_key.entries (take c.loop-key.key-index c.args.keys.now) _ c.args.moment
    c.loop-key.invariant (fresh_at c.args.keys.now c.loop-key.key-index _ c.requires.distinct c.loop-key-test.true) c.in_default.ensures.ok)
