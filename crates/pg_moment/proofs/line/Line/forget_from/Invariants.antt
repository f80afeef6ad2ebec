use Rattle.std.proofs.Common.{◌≡◌, length}
use Rattle.pg_moment.specs.Stamps.{cut_word}
use Rattle.pg_moment.proofs.Lines.{cut_first}
use Rattle.pg_moment.proofs.line.Line.forget_from.Given as goal

abbrev pub invariant-loop-word : goal.invariant-loop-word
invariant-loop-word l = (length l.word-items ≡ 8)
    × (l.word-items ≡ cut_first (cut_word l.others.log.items l.moment) l.word-index l.initial.word-items)
