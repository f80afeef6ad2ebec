use Rattle.std.proofs.Common.{rules, ◌≡◌, ℕ, Bool, ◌==◌, ◌&&◌, List, length, sym, ◌∙◌, arith}
use Rattle.std.specs.List.{AllAdjacentBelow, filter}
use Rattle.std.specs.List.Sorted.{ties}
use Rattle.std.specs.Ordering.{is_lt, nat_cmp, ordering_then}
use Rattle.std.proofs.lemmas.List.Sorted.{answers_always}
use Rattle.std.proofs.lemmas.List.Elements.{filter_agree}
use Rattle.pg_event.specs.declared.event.Event.TheVariants.{Invlpg}
use Rattle.pg_event.specs.Form.{processor_of}
use Rattle.pg_span_run.specs.declared.log.Stamped.{Stamped}
use Rattle.pg_span_run.specs.Merged.{EndsFirst, is_of}
use Rattle.pg_span_run.proofs.Keys.{tied, first_by_keys}
use Rattle.pg_span_run.proofs.Lists.{ok_then}
use Rattle.pg_span_run.proofs.gathering.order.Goals as goal

key : Stamped → ℕ × ℕ
key x = (x.end, processor_of x.event)

pub returns-clause-rises : goal.returns-clause-rises
unfolding key
returns-clause-rises c =
    let all : List Stamped = c.sort_by_key.new.self.items in
    ok_then c.sort_by_key.result _ (AllAdjacentBelow EndsFirst all (length all)) c.sort_by_key.ensures.sorted
    (λ sorted k d lt. first_by_keys _ _ _ _ (sorted key (answers_always _ (λ a r. r ≡ key a.0.now) _ (λ f a r q w. search rules)) k d (omega arith) lt))

pub returns-clause-ties : goal.returns-clause-ties
unfolding key
returns-clause-ties c p end =
    let x : Stamped = record { begin = 0; end = end; event = Invlpg p 0 } in
    let chosen : Stamped → Bool = λ y. y.end == end && is_of p y in
    let lower : Stamped → Stamped → Bool = λ y z. is_lt (ordering_then (nat_cmp y.end z.end) (nat_cmp (processor_of y.event) (processor_of z.event))) in
    let alike : (y : Stamped) → chosen y ≡ ties lower x y = λ y. tied end p y.end (processor_of y.event) in
    let kept : filter (ties lower x) c.sort_by_key.new.self.items ≡ filter (ties lower x) c.args.all.now.items =
    c.sort_by_key.ensures.stable key (answers_always _ (λ a r. r ≡ key a.0.now) _ (λ f a r q w. search rules)) x in
    filter_agree chosen (ties lower x) alike c.sort_by_key.new.self.items ∙ (kept ∙ sym (filter_agree chosen (ties lower x) alike c.args.all.now.items))
