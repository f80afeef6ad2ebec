use Rattle.std.proofs.Common.{rules, ◌≡◌, ◌∙◌, ◌≤◌, ◌∷◌, ◌++◌, [], ℕ, List, true, false, not, ap, sym, arith}
use Rattle.std.proofs.lemmas.List.{get_or_read}
use Rattle.pg_pool.specs.declared.round.Round.{Round}
use Rattle.pg_pool.specs.Seats.{Checker, nobody, is_taken, round_of}
use Rattle.pg_pool.proofs.Deals.{kept_more, left_more}
use Rattle.pg_pool.proofs.close.close_round.Goals as goal
use Rattle.pg_pool.proofs.close.close_round.Goals.{then-not-is_taken+in_ok-push, else-not-is_taken}

pub loop-number-preserved : goal.loop-number-preserved
loop-number-preserved c =
    let seats = c.args.seats.items in
    let n = c.loop-number.number in
    let first : c.round-round.result.first ≡ (round_of seats).first =
    ap (λ (r : Round). r.first) c.round-round.ensures.round
    ∙ ap (λ (s : Checker). s.round.first) (get_or_read seats 0 c.index.result.now (search rules) c.index.ensures nobody) in
    let low : (round_of seats).first ≤ n = omega (arith, first, c.loop-number.auto.number) in
    elim c.if-not-is_taken.branch [
      | then-not-is_taken+in_ok-push w ↦
          let free : is_taken seats n ≡ false = search rules in
          let pushed : c.if-not-is_taken.left.items ≡ c.loop-number.left.items ++ n ∷ [] = search rules in
          pushed ∙ ap (λ (l : List ℕ). l ++ n ∷ []) c.loop-number.invariant ∙ sym (kept_more (λ m. not (is_taken seats m)) (round_of seats).first n low (ap not free))
      | else-not-is_taken w ↦
          let taken : is_taken seats n ≡ true = search rules in
          let same : c.if-not-is_taken.left.items ≡ c.loop-number.left.items = search rules in
          same ∙ c.loop-number.invariant ∙ sym (left_more (λ m. not (is_taken seats m)) (round_of seats).first n low (ap not taken))
    ]
