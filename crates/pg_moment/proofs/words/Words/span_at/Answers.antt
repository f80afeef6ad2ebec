use Rattle.std.proofs.Common.{◌≡◌, nat_eq, Some, [], ap, sym, subst, ◌∙◌, arith, ℕ, ◌^◌, ◌-◌}
use Rattle.std.specs.Map.{lookup}
use Rattle.std.specs.Option.{unwrap_or}
use Rattle.pg_timeline.specs.Timelines.{last_before, IsSpan}
use Rattle.pg_timeline.specs.Keyed.{stamps_in}
use Rattle.pg_timeline.proofs.Spans.{IsSpan-same}
use Rattle.pg_moment.specs.Stamps.{IsWord, stamps_of}
use Rattle.pg_moment.specs.Words.{line_of}
use Rattle.pg_moment.proofs.Lines.{stamps_found, stamps_none, word_found}
use Rattle.pg_moment.proofs.words.Words.span_at.Goals as goal

pub span_at-requires : goal.span_at-requires
span_at-requires c =
    let log = c.self.inside.others.log.items in
    let lists = c.self.inside.others.lists.entries in
    let lines = c.self.inside.lines.entries in
    let a = c.args.addr in
    let found : lookup (nat_eq (line_of a)) lines ≡ Some c.in-Some.line.now = subst (λ k. lookup (nat_eq k) lines ≡ Some c.in-Some.line.now) c.line_of.ensures (sym c.in-Some.ensures.value) in
    subst (IsWord log lists a) (word_found lines a c.in-Some.line.now found ∙ sym (rw c.place_of.ensures.place at c.word-word.ensures)) (c.self.invariant.words a)

pub returns-in-Some-clause-span : goal.returns-in-Some-clause-span
returns-in-Some-clause-span c =
    let log = c.self.inside.others.log.items in
    let lists = c.self.inside.others.lists.entries in
    let lines = c.self.inside.lines.entries in
    let a = c.args.addr in
    let found : lookup (nat_eq (line_of a)) lines ≡ Some c.in-Some.line.now = subst (λ k. lookup (nat_eq k) lines ≡ Some c.in-Some.line.now) c.line_of.ensures (sym c.in-Some.ensures.value) in
    let stamps : stamps_in nat_eq c.args.self.now a ≡ stamps_of log lists a c.word-word.result =
    ap (λ v. stamps_in nat_eq v a) (sym c.self.view_is)
    ∙ stamps_found log lists lines a c.in-Some.line.now found
    ∙ ap (stamps_of log lists a) (sym (rw c.place_of.ensures.place at c.word-word.ensures)) in
    IsSpan-same (λ w. unwrap_or (last_before w (stamps_of log lists a c.word-word.result)) c.args.start)
    (λ w. unwrap_or (last_before w (stamps_in nat_eq c.args.self.now a)) c.args.start) c.args.moment c.span_at.result
    (λ w. ap (λ xs. unwrap_or (last_before w xs) c.args.start) stamps)
    c.span_at.ensures.span

pub returns-in-None-clause-span : goal.returns-in-None-clause-span
returns-in-None-clause-span c =
    let log = c.self.inside.others.log.items in
    let lists = c.self.inside.others.lists.entries in
    let lines = c.self.inside.lines.entries in
    let stamps : stamps_in nat_eq c.args.self.now c.args.addr ≡ [] =
    ap (λ v. stamps_in nat_eq v c.args.addr) (sym c.self.view_is)
    ∙ stamps_none log lists lines c.args.addr (rw c.line_of.ensures at (sym c.in-None.ensures.value)) in
    let read : ℕ → ℕ = λ w. unwrap_or (last_before w (stamps_in nat_eq c.args.self.now c.args.addr)) c.args.start in
    let all : IsSpan read c.args.moment (record { value = c.args.start; from = 0; to = 2 ^ 32 - 1 }) = record {
      low = omega arith;
      high = omega (arith, c.ranges.moment);
      same = λ w low high. ap (λ xs. unwrap_or (last_before w xs) c.args.start) stamps;
    } in
    subst (IsSpan read c.args.moment) (sym c.same_at_all.ensures) all
