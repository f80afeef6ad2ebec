use Rattle.std.proofs.Common.{◌≡◌, ◌-◌, ◌≤◌, sym, List, ℕ, length, drop, subst}
use Rattle.std.specs.List.{slice_range}
use Rattle.pg_codec.proofs.Pulled.{last_of_range}
use Rattle.pg_codec.proofs.buffer.Buffer.keep_last.Goals as goal

pub returns : goal.returns
returns c =
    let b = c.self.inside in
    let fits = subst (λ (l : List ℕ). c.args.n ≤ length l) (sym c.self.view_is) c.requires in
    subst (λ (l : List ℕ). slice_range b.bytes.items (b.end - c.args.n) b.end ≡ drop (length l - c.args.n) l) c.self.view_is
    (last_of_range b.bytes.items b.start b.end c.args.n c.self.invariant.0 c.self.invariant.1 fits)
