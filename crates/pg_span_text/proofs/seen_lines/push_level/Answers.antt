use Rattle.std.proofs.Common.{◌≡◌, ◌++◌, ℕ, codes, subst, string_bytes, OnOk}
use Rattle.std.specs.Prelude.{decimal}
use Rattle.pg_span_text.proofs.seen_lines.push_level.Goals as goal

pub returns : goal.returns
returns c =
    subst (λ (n : ℕ). OnOk c.write.result (string_bytes c.write.new.self ≡ string_bytes c.args.text.now ++ (codes "may read: level " ++ (decimal n ++ codes " "))))
    c.level_number-level.ensures c.write.ensures.bytes
