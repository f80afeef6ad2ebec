-- How processors start.
use Rattle.std.proofs.Common.{◌≡◌, ℕ, ◌+◌, ◌<◌, Bool, List, [], ◌∷◌, ◌++◌, length, get_or, sym, ap, ◌∙◌, arith, inl, inr, Some}
use Rattle.std.proofs.lemmas.Bool.{cases_lt}
use Rattle.std.proofs.lemmas.Option.{get_or_from_slice_get}
use Rattle.pg_span_run.specs.Logs.{Logged}
use Rattle.pg_span_run.specs.Parts.{IsFirstOf, IsStartOf}
use Rattle.pg_span_run.proofs.Elements.{pushed_before, pushed_last}

pub start_more : (logs : List Logged) (starts : List (ℕ × Bool)) (n place : ℕ) (x : Logged) → IsFirstOf logs n place → x ≡ get_or logs place x → length starts ≡ n → ((p : ℕ) → p < n → IsStartOf logs starts p) →
    (p : ℕ) → p < n + 1 → IsStartOf logs (starts ++ x.head.start ∷ []) p
start_more logs starts n place x first is count each p lt = elim (cases_lt p n) [
  | inl less ↦ let old : IsStartOf logs starts p = each p less in record {
    place = old.place;
    log = old.log;
    there = old.there;
    own = old.own;
    start = pushed_before starts x.head.start p old.log.head.start old.start;
  }
  | inr more ↦
      let same : n ≡ p = omega (arith, lt, more) in
      let here : first.log ≡ x = sym (get_or_from_slice_get logs place first.log x first.there) ∙ sym is in
      record {
        place = place;
        log = first.log;
        there = first.there;
        own = first.own ∙ same;
        start = pushed_last starts x.head.start p (count ∙ same) ∙ ap (λ (l : Logged). Some l.head.start) (sym here);
      }
]
