use Rattle.std.proofs.Common.{ℕ, subst}
use Rattle.pg_moment.specs.Versions as versions
use Rattle.pg_moment.proofs.Known as memory
use Rattle.pg_state.specs.Controls as controls
use Rattle.pg_state.proofs.Known as registers
use Rattle.pg_inval.specs.Drops as drops
use Rattle.pg_inval.proofs.Kept as dropped
use Rattle.pg_chain.proofs.past.Past.forget_from.Goals as goal

pub returns : goal.returns
returns c = λ head before more h count.
    let V : ℕ → Type 0 = λ n. versions.IsCutAt c.args.self.now.versions c.forget_from.new.self n in
    let C : ℕ → Type 0 = λ n. controls.IsCutAt c.args.self.now.controls c.forget_from-2.new.self n in
    let D : ℕ → Type 0 = λ n. drops.IsCutAt c.args.self.now.drops c.forget_from-3.new.self n in
    record {
      versions = memory.StandsFor-cut c.args.self.now.versions c.forget_from.new.self before more h.versions (subst V count c.forget_from.ensures);
      controls = registers.StandsFor-cut c.args.self.now.controls c.forget_from-2.new.self head before more h.controls (subst C count c.forget_from-2.ensures);
      drops = dropped.StandsFor-cut c.args.self.now.drops c.forget_from-3.new.self head before more h.drops (subst D count c.forget_from-3.ensures);
    }
