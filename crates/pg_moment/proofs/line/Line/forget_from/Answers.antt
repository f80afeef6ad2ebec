use Rattle.std.proofs.Common.{◌≡◌, ◌+◌, ◌<◌, suc, map, length, slice_index_or, slice_set, ap, sym, ◌∙◌, arith}
use Rattle.std.proofs.lemmas.List.{length-set}
use Rattle.pg_moment.specs.Stamps.{cut_word, unwritten}
use Rattle.pg_moment.proofs.Lines.{cut_first, cut_first-none, cut_first-next, cut_first-all, at_any}
use Rattle.pg_moment.proofs.line.Line.forget_from.Goals as goal

pub loop-word-init : goal.loop-word-init
loop-word-init c = (c.self.invariant, sym (cut_first-none (cut_word c.args.others.now.log.items c.args.moment) c.self.inside.words))

pub loop-word-preserved : goal.loop-word-preserved
loop-word-preserved c =
    let f = cut_word c.args.others.now.log.items c.args.moment in
    let words = c.loop-word.word-items in
    let i = c.loop-word.word-index in
    let within : i < length words = omega (arith, c.loop-word.invariant.0, c.loop-word-test.true) in
    let next : suc i ≡ i + 1 = omega arith in (
      length-set words i c.cut.result ∙ c.loop-word.invariant.0,
      ap (λ w. slice_set words i w) (c.cut.ensures ∙ ap f (at_any words i _ within))
          ∙ ap (λ ws. slice_set ws i (f (slice_index_or ws i unwritten))) c.loop-word.invariant.1
          ∙ cut_first-next f i c.self.inside.words
          ∙ ap (λ n. cut_first f n c.self.inside.words) next,
    )

pub invariant_of-self : goal.invariant_of-self
invariant_of-self c = c.loop-word.invariant.0

pub returns : goal.returns
returns c =
    let f = cut_word c.args.others.now.log.items c.args.moment in
    c.loop-word.invariant.1
    ∙ cut_first-all f c.loop-word.word-index c.self.inside.words (omega (arith, c.self.invariant, c.loop-word-test.false))
    ∙ ap (map f) c.self.view_is
