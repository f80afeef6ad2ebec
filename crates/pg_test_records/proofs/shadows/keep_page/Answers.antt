use Rattle.std.proofs.Common.{◌^◌, ◌≤◌, refl, arith}
use lib.Pow.{pow_mono}
use Rattle.pg_shadow.specs.Held.{seen}
use Rattle.pg_test_records.proofs.shadows.keep_page.Goals as goal

pub keep_leaf-requires : goal.keep_leaf-requires
keep_leaf-requires c =
    let most : 2 ^ 36 ≤ 2 ^ (seen c.args.shadow.now).width = pow_mono c.control-control.ensures.range.least in
    record { size = refl; block = record { below = omega arith; aligned = refl }; count = c.three-moments.ensures }
