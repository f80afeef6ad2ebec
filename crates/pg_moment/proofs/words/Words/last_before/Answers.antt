use Rattle.std.proofs.Common.{◌≡◌, nat_eq, Some, ap, sym, subst, ◌∙◌}
use Rattle.std.specs.Map.{lookup}
use Rattle.pg_timeline.specs.Timelines.{last_before}
use Rattle.pg_timeline.specs.Keyed.{stamps_in}
use Rattle.pg_moment.specs.Stamps.{IsWord, stamps_of}
use Rattle.pg_moment.specs.Words.{line_of}
use Rattle.pg_moment.proofs.Lines.{stamps_found, stamps_none, word_found}
use Rattle.pg_moment.proofs.words.Words.last_before.Goals as goal

pub value_before-requires : goal.value_before-requires
value_before-requires c =
    let log = c.self.inside.others.log.items in
    let lists = c.self.inside.others.lists.entries in
    let lines = c.self.inside.lines.entries in
    let a = c.args.addr in
    let found : lookup (nat_eq (line_of a)) lines ≡ Some c.in-Some.line.now = subst (λ k. lookup (nat_eq k) lines ≡ Some c.in-Some.line.now) c.line_of.ensures (sym c.in-Some.ensures.value) in
    subst (IsWord log lists a) (word_found lines a c.in-Some.line.now found ∙ sym (rw c.place_of.ensures.place at c.word-word.ensures)) (c.self.invariant.words a)

pub returns-in-Some-clause-value : goal.returns-in-Some-clause-value
returns-in-Some-clause-value c =
    let log = c.self.inside.others.log.items in
    let lists = c.self.inside.others.lists.entries in
    let lines = c.self.inside.lines.entries in
    let a = c.args.addr in
    let found : lookup (nat_eq (line_of a)) lines ≡ Some c.in-Some.line.now = subst (λ k. lookup (nat_eq k) lines ≡ Some c.in-Some.line.now) c.line_of.ensures (sym c.in-Some.ensures.value) in
    c.value_before.ensures.value
    ∙ ap (λ w. last_before c.args.moment (stamps_of log lists a w)) (rw c.place_of.ensures.place at c.word-word.ensures)
    ∙ ap (last_before c.args.moment) (sym (stamps_found log lists lines a c.in-Some.line.now found))
    ∙ ap (λ v. last_before c.args.moment (stamps_in nat_eq v a)) c.self.view_is

pub returns-in-None-clause-value : goal.returns-in-None-clause-value
returns-in-None-clause-value c =
    let log = c.self.inside.others.log.items in
    let lists = c.self.inside.others.lists.entries in
    let lines = c.self.inside.lines.entries in
    ap (last_before c.args.moment) (sym (stamps_none log lists lines c.args.addr (rw c.line_of.ensures at (sym c.in-None.ensures.value))))
    ∙ ap (λ v. last_before c.args.moment (stamps_in nat_eq v c.args.addr)) c.self.view_is
