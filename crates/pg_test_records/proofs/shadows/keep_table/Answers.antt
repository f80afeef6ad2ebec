use Rattle.std.proofs.Common.{◌^◌, ◌≤◌, refl, arith}
use lib.Pow.{pow_mono}
use Rattle.pg_shadow.specs.Held.{seen}
use Rattle.pg_test_records.proofs.shadows.keep_table.Goals as goal

pub keep_table-requires : goal.keep_table-requires
keep_table-requires c =
    let most : 2 ^ 36 ≤ 2 ^ (seen c.args.shadow.now).width = pow_mono c.control-control.ensures.range.least in
    record { refers = refl; block = record { below = omega arith; aligned = refl }; count = c.three-moments.ensures }
