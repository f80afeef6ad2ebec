use Rattle.std.proofs.Common.{◌≤◌, nat_eq, ap, refl}
use Rattle.pg_timeline.specs.Keyed.{Keyed, stamps_in}
use Rattle.pg_timeline.proofs.Timelines.{AreBelow-weaker, EndsBefore-push}
use Rattle.pg_moment.specs.Versions.{next_moment}
use Rattle.pg_moment.proofs.Known.{IsNoted-pushed, StandsFor-noted}
use Rattle.pg_moment.proofs.versions.Versions.note.Goals as goal

pub push-requires : goal.push-requires
push-requires c =
    let next : c.self.inside.next ≤ c.args.moment = rw (ap next_moment c.self.view_is) c.requires in
    AreBelow-weaker c.self.inside.next c.args.moment (stamps_in nat_eq c.self.inside.words c.args.addr) next (c.self.invariant.below c.args.addr)

pub invariant_of-self-2 : goal.invariant_of-self-2
invariant_of-self-2 c =
    let next : c.self.inside.next ≤ c.args.moment = rw (ap next_moment c.self.view_is) c.requires in
    EndsBefore-push nat_eq c.self.inside.words c.push.new.self c.args.addr c.self.inside.next _ c.self.invariant next c.in_ok-push.ensures.ok

pub returns-clause-run : goal.returns-clause-run
returns-clause-run c = λ events event stands count leaves.
    let old : Keyed _ _ = record { entries = c.self.inside.words; next = c.self.inside.next } in
    StandsFor-noted c.args.self.now _ events event c.args.moment c.args.addr c.args.value stands count leaves
    (rw (← c.self.view_is) (IsNoted-pushed old _ c.args.moment c.args.addr c.args.value c.in_ok-push.ensures.ok refl))
