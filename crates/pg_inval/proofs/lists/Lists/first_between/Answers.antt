use Rattle.std.proofs.Common.{◌≡◌, ℕ, ◌||◌, true, List, Option, Some, None, take, drop, refl, sym, subst, ◌∙◌, arith}
use Rattle.std.specs.Option.{option_or}
use Rattle.pg_timeline.specs.Timelines.{has_moment}
use Rattle.pg_timeline.specs.Keyed.{stamps_in}
use Rattle.pg_inval.specs.declared.log.LogEntry.{LogEntry}
use Rattle.pg_inval.specs.Keys.{is_same_key}
use Rattle.pg_inval.specs.Lists.{has_drop, IsRisingFrom, IsLeastBetween}
use Rattle.pg_inval.proofs.AnyFrom.{IsLeastBetween-same, IsLeastBetween-both}
use Rattle.pg_inval.proofs.Listings.{IsListed-parts, IsListed-taken, take_rest}
use Rattle.pg_inval.proofs.Search.{IsRisingFrom-drop, has_drop-after}
use Rattle.pg_inval.proofs.lists.Lists.first_between.Goals as goal

-- what was found, or else nothing
or_none : (found : Option ℕ) → option_or found None ≡ found
or_none None = refl
or_none (Some m) = refl

pub first_in-requires : goal.first_in-requires
first_in-requires c =
    let known = c.args.self.now.known in
    subst (λ (es : List LogEntry). IsRisingFrom 0 es) (sym (take_rest known c.args.log.now)) (IsRisingFrom-drop 0 known c.args.log.now c.requires.rising)

pub returns-in-Some-clause-least : goal.returns-in-Some-clause-least
returns-in-Some-clause-least c =
    let log = c.args.log.now in
    let known = c.args.self.now.known in
    let lists = c.args.self.now.by_key.entries in
    let key = c.args.key in
    let from = c.args.window.from in
    let m = c.in-Some.moment in
    let stamps = stamps_in is_same_key lists key in
    let listed : IsLeastBetween (has_moment stamps) from c.args.window.to (Some m) =
    subst (λ o. IsLeastBetween (has_moment stamps) from c.args.window.to o) c.in-Some.is (c.below.ensures _ from c.first_at.ensures.least) in
    let taken : has_drop (take known log) key m ≡ true = IsListed-taken key log known lists m c.requires.listed ∙ listed.2 in
    let rest : IsLeastBetween (has_drop (drop known log) key) from m None = λ j low high.
    has_drop-after 0 known log key m j c.requires.rising taken (omega (arith, high)) in
    IsLeastBetween-same (λ j. has_moment stamps j || has_drop (drop known log) key j) (has_drop log key) from c.args.window.to (Some m)
    (λ j low. IsListed-parts key log known lists j c.requires.listed)
    (IsLeastBetween-both _ _ from c.args.window.to (Some m) None listed rest)

pub returns-in-None-clause-least : goal.returns-in-None-clause-least
returns-in-None-clause-least c =
    let log = c.args.log.now in
    let known = c.args.self.now.known in
    let lists = c.args.self.now.by_key.entries in
    let key = c.args.key in
    let from = c.args.window.from in
    let stamps = stamps_in is_same_key lists key in
    let listed : IsLeastBetween (has_moment stamps) from c.args.window.to None =
    subst (λ o. IsLeastBetween (has_moment stamps) from c.args.window.to o) c.in-None.is (c.below.ensures _ from c.first_at.ensures.least) in
    let rest : IsLeastBetween (has_drop (drop known log) key) from c.args.window.to c.first_in.result =
    subst (λ (es : List LogEntry). IsLeastBetween (has_drop es key) from c.args.window.to c.first_in.result) (take_rest known log) c.first_in.ensures.least in
    IsLeastBetween-same (λ j. has_moment stamps j || has_drop (drop known log) key j) (has_drop log key) from c.args.window.to c.first_in.result
    (λ j low. IsListed-parts key log known lists j c.requires.listed)
    (subst (λ o. IsLeastBetween (λ j. has_moment stamps j || has_drop (drop known log) key j) from c.args.window.to o) (or_none c.first_in.result)
    (IsLeastBetween-both _ _ from c.args.window.to None c.first_in.result listed rest))
