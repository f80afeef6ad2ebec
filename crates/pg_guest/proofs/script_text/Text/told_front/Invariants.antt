use Rattle.std.proofs.Common.{◌≡◌, ◌≤◌, length}
use Rattle.pg_guest.specs.Reading.{front_at}
use Rattle.pg_guest.specs.Answers.{told_in}
use Rattle.pg_guest.proofs.script_text.Text.told_front.Given as goal

abbrev pub invariant-lines : goal.invariant-lines
invariant-lines l = record {
  front : front_at (told_in l.text) ≡ front_at (told_in l.self);
  less : length l.text.1 ≤ length l.self.1;
}

abbrev pub decreases-lines : goal.decreases-lines
decreases-lines l = length l.text.1
