use Rattle.std.proofs.Common.{◌≡◌, ℕ, true}
use Rattle.pg_event.specs.Form.{is_canonical}
use Rattle.pg_arguments.specs.Values.{IsAddressIn}
use Rattle.pg_arguments.proofs.Parses.{reads_both, reads_none, reads_other}
use Rattle.pg_arguments.proofs.values.page_in.Goals as goal

abbrev IsCanonical : ℕ → Type 0
IsCanonical la = is_canonical la ≡ true

pub returns-in_err-address : goal.returns-in_err-address
returns-in_err-address c = rw c.from_residual.ensures (reads_none (IsAddressIn c.args.text.now) IsCanonical c.in_err-address.ensures)

pub returns-then-not-is_canonical : goal.returns-then-not-is_canonical
returns-then-not-is_canonical c = reads_other (IsAddressIn c.args.text.now) IsCanonical c.in_ok-address.address c.in_ok-address.ensures (λ is. let e = c.is_canonical.ensures in cc)

pub returns : goal.returns
returns c = reads_both (IsAddressIn c.args.text.now) IsCanonical c.in_ok-address.address c.in_ok-address.ensures (let e = c.is_canonical.ensures in cc)
