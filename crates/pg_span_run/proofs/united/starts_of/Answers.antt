use Rattle.std.proofs.Common.{◌≡◌, ℕ, Bool, List, ◌∷◌, [], ◌++◌, refl, sym, ap, subst, ◌∙◌, arith}
use Rattle.std.proofs.lemmas.List.{length_push}
use Rattle.pg_span_run.specs.declared.log.LogHeader.{LogHeader}
use Rattle.pg_span_run.specs.Logs.{Logged}
use Rattle.pg_span_run.specs.Parts.{IsStartOf}
use Rattle.pg_span_run.proofs.Elements.{all_found}
use Rattle.pg_span_run.proofs.Starts.{start_more}
use Rattle.pg_span_run.proofs.united.starts_of.Goals as goal

pub returns-in-None : goal.returns-in-None
returns-in-None c = (
  c.requires.0,
  c.requires.1,
  omega (arith, c.requires.2),
  λ has. all_found (λ (log : Logged). log.head.own ≡ c.loop-processor.processor → ⊥) c.args.logs.now has.place has.log c.in-None.ensures has.there has.own,
)

pub loop-processor-preserved : goal.loop-processor-preserved
loop-processor-preserved c =
    let was = c.loop-processor.invariant in
    let start : c.header.result.now.start ≡ c.index-logs-place.result.head.start = ap (λ (h : LogHeader). h.start) c.header.ensures.header in
    let items : c.push.new.self.items ≡ c.loop-processor.starts.items ++ c.index-logs-place.result.head.start ∷ [] = c.in_ok-push-in-Some.ensures.items ∙ ap (λ (s : ℕ × Bool). c.loop-processor.starts.items ++ s ∷ []) start in
    record {
      count = rw (items, length_push c.loop-processor.starts.items c.index-logs-place.result.head.start, was.count) refl;
      each = λ p lt. subst (λ (xs : List (ℕ × Bool)). IsStartOf c.args.logs.now xs p) (sym items) (start_more c.args.logs.now c.loop-processor.starts.items c.loop-processor.processor c.in-Some.place c.index-logs-place.result c.in-Some.ensures c.index-logs-place.is was.count was.each p lt);
    }
