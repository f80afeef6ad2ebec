use Rattle.std.proofs.Common.{◌≡◌, ◌≤◌, length, rules, arith}
use Rattle.std.specs.Str.Parse.{ParsesUnsigned, without_leading_plus}
use Rattle.pg_guest.proofs.Digits.{spelled_none, spelled_parsed}
use Rattle.pg_guest.proofs.number.spelled.Goals as goal

pub returns-in_default : goal.returns-in_default
returns-in_default c = spelled_none c.args.base c.args.most c.args.digits.now c.requires.high c.in_default.ensures.cases.0

pub returns : goal.returns
returns c =
    let word = c.args.digits.now in
    let few : length word ≤ c.args.most = omega arith in
    let bare : without_leading_plus word ≡ word = search rules in
    let read : ParsesUnsigned 64 c.args.base word c.from_str_radix.result = rw c.in-Ok.ensures.cases.0 at c.from_str_radix.ensures.value in
    rw c.ok.ensures.value (spelled_parsed c.args.base c.args.most word c.from_str_radix.result c.requires.low c.requires.fits few (rw bare at read))
