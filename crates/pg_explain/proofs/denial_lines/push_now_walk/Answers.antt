use Rattle.std.proofs.Common.{◌≡◌, ◌++◌, ◌+◌, ◌<◌, ℕ, List, ap, sym, ◌∙◌, take, get_or, length, string_bytes}
use Rattle.std.specs.List.{flat_map}
use Rattle.std.proofs.lemmas.List.{flat_map_more, take_more}
use Rattle.pg_explain.specs.declared.entry.WalkEntry.{WalkEntry}
use Rattle.pg_explain.specs.Denied.{now_entry_text}
use Rattle.pg_explain.proofs.denial_lines.push_now_walk.Goals as goal

-- the text of the first entries, with that of the next
next_told : (xs : List WalkEntry) (i : ℕ) (d : WalkEntry) (old text new : List ℕ) → i < length xs → new ≡ text ++ now_entry_text (get_or xs i d) → text ≡ old ++ flat_map now_entry_text (take i xs)
    → new ≡ old ++ flat_map now_entry_text (take (i + 1) xs)
next_told xs i d old text new within wrote before =
    wrote ∙ (ap (λ t. t ++ now_entry_text (get_or xs i d)) before
    ∙ (flat_map_more now_entry_text old (take i xs) (get_or xs i d) ∙ ap (λ ys. old ++ flat_map now_entry_text ys) (sym (take_more xs i d within))))

pub loop-entry-preserved : goal.loop-entry-preserved
loop-entry-preserved c =
    next_told c.down_to_end-entry-items.result.now c.loop-entry.entry-index _ (string_bytes c.args.text.now) (string_bytes c.loop-entry.text) _ c.loop-entry-test.true
    c.in_ok-push_now_entry.ensures c.loop-entry.invariant
