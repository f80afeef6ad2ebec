use Rattle.std.proofs.Common.{nat_eq, ap, sym, subst, ◌∙◌}
use Rattle.std.proofs.lemmas.Result.{on_ok_weaker}
use Rattle.pg_timeline.specs.declared.timeline.Stamp.{Stamp}
use Rattle.pg_timeline.specs.Keyed.{stamps_in, AreBelow}
use Rattle.pg_moment.specs.Stamps.{stamps_of}
use Rattle.pg_moment.specs.Words.{word_at}
use Rattle.pg_moment.proofs.Lines.{stamps_at_word, AreWhole-after, IsPushed-added}
use Rattle.pg_moment.proofs.words.Words.push.Goals as goal

pub invariant_of-self : goal.invariant_of-self
invariant_of-self c =
    let log = c.self.inside.others.log.items in
    let lists = c.self.inside.others.lists.entries in
    let old = c.self.inside.lines.entries in
    let stamp : Stamp _ = record { moment = c.args.moment; value = c.args.value } in
    let below : AreBelow c.args.moment (stamps_of log lists c.args.addr (word_at old c.args.addr)) =
    subst (AreBelow c.args.moment) (ap (λ v. stamps_in nat_eq v c.args.addr) (sym c.self.view_is) ∙ stamps_at_word log lists old c.args.addr) c.requires in
    AreWhole-after c.push_at.result log lists c.push_at.new.others.log.items c.push_at.new.others.lists.entries c.args.addr stamp old c.push_at.new.lines.entries c.self.invariant below c.push_at.ensures.ok c.push_at.ensures.err

pub returns-clause-ok : goal.returns-clause-ok
returns-clause-ok c =
    let log = c.self.inside.others.log.items in
    let lists = c.self.inside.others.lists.entries in
    let old = c.self.inside.lines.entries in
    let stamp : Stamp _ = record { moment = c.args.moment; value = c.args.value } in
    let below : AreBelow c.args.moment (stamps_of log lists c.args.addr (word_at old c.args.addr)) =
    subst (AreBelow c.args.moment) (ap (λ v. stamps_in nat_eq v c.args.addr) (sym c.self.view_is) ∙ stamps_at_word log lists old c.args.addr) c.requires in
    on_ok_weaker c.push_at.result
    (λ added. rw (← c.self.view_is)
    (IsPushed-added log lists c.push_at.new.others.log.items c.push_at.new.others.lists.entries c.args.addr stamp old c.push_at.new.lines.entries c.self.invariant below added))
    c.push_at.ensures.ok
