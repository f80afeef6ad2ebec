use Rattle.std.proofs.Common.{[], ap, ◌∙◌, sym, ◌++◌, ◌-◌, ◌+◌, string_bytes}
use Rattle.pg_explain.specs.Line.{bit_name, bit_names, opening, names_from, closing, in_brackets}
use Rattle.pg_explain.proofs.Lines.{set_next, unset_next, name_written}
use Rattle.pg_explain.proofs.line.push_bits.Goals as goal
use Rattle.pg_explain.proofs.line.push_bits.Goals.{then-has_bit+in_ok-push_name, else-has_bit}

pub loop-k-preserved : goal.loop-k-preserved
loop-k-preserved c =
    elim c.if-has_bit.branch [
      | then-has_bit+in_ok-push_name w ↦
          let left = closing (names_from c.args.code (c.loop-k.k + 1) (5 - (c.loop-k.k + 1))) in
          let set = set_next c.args.code c.loop-k.k c.loop-k.is_opened c.loop-k-test.true (sym c.has_bit.ensures ∙ w.if-has_bit.true) in
          rw (w.text-is, w.is_opened-is)
          (name_written [] (string_bytes c.loop-k.text) (bit_name c.loop-k.k) (opening c.loop-k.is_opened) left
          (string_bytes c.args.text.now ++ in_brackets (bit_names c.args.code)) (string_bytes w.push_name.new.text)
          (w.in_ok-push_name.ensures ∙ ap (λ x. string_bytes c.loop-k.text ++ (opening c.loop-k.is_opened ++ x)) w.bit_name.ensures)
          (ap (λ x. string_bytes c.loop-k.text ++ x) (sym set) ∙ c.loop-k.invariant))
      | else-has_bit w ↦
          let unset = unset_next c.args.code c.loop-k.k c.loop-k.is_opened c.loop-k-test.true (sym c.has_bit.ensures ∙ w.if-has_bit.false) in
          rw (w.text-is, w.is_opened-is) (ap (λ x. string_bytes c.loop-k.text ++ x) (sym unset) ∙ c.loop-k.invariant)
    ]
