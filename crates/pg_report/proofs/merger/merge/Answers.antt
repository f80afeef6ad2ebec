use Rattle.std.proofs.Common.{refl}
use Rattle.pg_report.proofs.Merged.{merged}
use Rattle.pg_report.proofs.merger.merge.Goals as goal

pub returns-in-Some : goal.returns-in-Some
returns-in-Some c = c.in-Some.ensures c.args.verdicts.now (rw (c.deref.ensures.value) c.in_ok-counts.ensures)

pub returns-in-Some-least_stranger : goal.returns-in-Some-least_stranger
returns-in-Some-least_stranger c =
    (c.in_default.ensures c.args.verdicts.now (rw (c.deref.ensures.value) c.in_ok-counts.ensures), (c.in-Some-least_stranger.stranger, c.in-Some-least_stranger.ensures, refl))

pub returns-in-Some-least_missing : goal.returns-in-Some-least_missing
returns-in-Some-least_missing c = (
  c.in_default.ensures c.args.verdicts.now (rw (c.deref.ensures.value) c.in_ok-counts.ensures),
  c.in_default-least_stranger.ensures,
  c.in-Some-least_missing.ensures c.args.verdicts.now (rw (c.deref-2.ensures.value) c.in_ok-counts.ensures),
)

pub returns : goal.returns
returns c =
    rw c.verdict_of.ensures (merged c.args.round c.args.verdicts.now c.first_bad_in.result (record {
      no_double = c.in_default.ensures c.args.verdicts.now (rw (c.deref.ensures.value) c.in_ok-counts.ensures);
      no_stranger = c.in_default-least_stranger.ensures;
      no_missing = c.in_default-least_missing.ensures c.args.verdicts.now (rw (c.deref-2.ensures.value) c.in_ok-counts.ensures);
    }) c.first_bad_in.ensures)
