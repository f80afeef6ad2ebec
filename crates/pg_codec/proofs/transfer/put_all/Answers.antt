use Rattle.std.proofs.Common.{◌≡◌, ℕ, ◌+◌, ◌-◌, List, ◌++◌, rules, arith, length, take, drop, sym, ap, ◌∙◌, subst, take_all, length-drop}
use Rattle.std.specs.Io.KnownBytes.{Appends}
use Rattle.std.proofs.KnownBytes.{Appends-trans}
use lib.Seq.{take-add}
use Rattle.pg_codec.proofs.transfer.put_all.Goals as goal

pub loop-preserved : goal.loop-preserved
loop-preserved g c =
    let bytes : List ℕ = c.args.bytes.now in
    let at : ℕ = c.loop.at in
    let rest : List ℕ = drop at bytes in
    let whole : take (length bytes - at) rest ≡ rest = take_all (length bytes - at) rest (simp length-drop (omega arith)) in
    let joined : take at bytes ++ take c.in_ok-n.n (take (length bytes - at) rest) ≡ take (at + c.in_ok-n.n) bytes =
    ap (λ xs. take at bytes ++ take c.in_ok-n.n xs) whole ∙ sym (take-add at c.in_ok-n.n bytes) in
    record {
      within = search rules;
      moved = search rules;
      failures = c.in_ok-n.ensures.failures ∙ c.loop.invariant.failures;
      bytes = subst (Appends _ _) joined (Appends-trans _ _ _ _ _ c.loop.invariant.bytes c.in_ok-n.ensures.bytes);
    }
