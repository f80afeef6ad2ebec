use Rattle.std.proofs.Common.{◌≤◌, ◌∷◌, ◌++◌, [], nat_eq, ap, refl, sym, subst, ◌∙◌, arith}
use Rattle.std.proofs.lemmas.Bool.{eq-eqb}
use Rattle.pg_timeline.specs.Timelines.{end_of}
use Rattle.pg_timeline.proofs.Timelines.{end_of-below, stamps_in-update}
use Rattle.pg_moment.specs.Stamps.{last_stamp, logged}
use Rattle.pg_moment.proofs.Keeping.{below_last, keeps_begun}
use Rattle.pg_moment.proofs.superseded.Superseded.begin_list.Goals as goal

pub push-requires : goal.push-requires
push-requires c =
    let log = c.args.self.now.log.items in
    let lists = c.args.self.now.lists.entries in (
      omega arith,
      subst (λ xs. end_of xs ≤ c.args.word.moment) (sym (c.in_ok-list.ensures ∙ ap (λ l. logged l c.args.count c.args.place) c.deref.ensures.value))
          (end_of-below c.args.word.moment _ (below_last log lists c.args.addr c.args.word c.args.place c.args.count c.requires.others c.requires.word)),
    )

pub returns-clause-ok : goal.returns-clause-ok
returns-clause-ok c =
    let log = c.args.self.now.log.items in
    let lists = c.args.self.now.lists.entries in
    keeps_begun log lists c.args.addr c.args.word c.args.place c.args.count c.requires.others c.requires.word c.insert.new.self.entries c.push.new.self
    (c.in_ok-push.ensures.ok ∙ ap (λ xs. xs ++ last_stamp c.args.word ∷ []) (c.in_ok-list.ensures ∙ ap (λ l. logged l c.args.count c.args.place) c.deref.ensures.value))
    (stamps_in-update nat_eq lists c.insert.new.self.entries c.args.addr c.push.new.self c.in_ok-insert.ensures.updates.0)
    (eq-eqb c.args.addr c.args.addr refl)
