-- What reading gives.
use Rattle.std.proofs.Common.{◌≡◌, ℕ, List, Ok}
use Rattle.pg_codec.proofs.Next.{all_bytes}
use Rattle.pg_event.proofs.Fields.{IsBytes}
use Rattle.pg_span_run.specs.Orders.{Spanned}
use Rattle.pg_span_run.specs.SpellingLaws.{SpelledWhereRead}
use Rattle.pg_span_run.specs.Reading.{spanned_reading}
use Rattle.pg_span_run.specs.Spelling.{SpellsSpanned}

pub spells_read : SpelledWhereRead → (bytes : List ℕ) (s : Spanned) → IsBytes bytes → spanned_reading bytes ≡ Ok s → SpellsSpanned bytes s
spells_read law bytes s are e = (law bytes s (all_bytes bytes are)).1 e
