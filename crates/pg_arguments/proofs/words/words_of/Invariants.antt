use Rattle.std.proofs.Common.{◌≡◌, map, take, string_bytes}
use Rattle.pg_arguments.proofs.words.words_of.Given as goal

abbrev pub invariant-loop-argument : goal.invariant-loop-argument
invariant-loop-argument l = map (λ w. w.now) l.words.items ≡ map string_bytes (take l.argument-index l.argument-items)
