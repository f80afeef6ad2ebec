use Rattle.std.proofs.Common.{ap, sym, ◌∙◌, Some}
use Rattle.std.proofs.lemmas.Option.{slice_get-get_or}
use Rattle.pg_span_refute.proofs.words.find_place.Goals as goal

pub returns-then-word-address : goal.returns-then-word-address
returns-then-word-address c = record {
  word = c.index-words-place.result;
  there = slice_get-get_or c.args.words.now c.loop-place.place c.index-words-place.result c.loop-place-test.true ∙ ap Some (sym c.index-words-place.is);
  address = c.if-word-address.true;
}
