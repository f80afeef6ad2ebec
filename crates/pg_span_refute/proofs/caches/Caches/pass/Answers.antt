use Rattle.std.proofs.Common.{rules, not}
use Rattle.std.proofs.lemmas.Fn.{filter_same}
use Rattle.pg_event.specs.Invalidation.{must_drop_translation}
use Rattle.pg_span_refute.specs.Caches.{may_stay}
use Rattle.pg_span_refute.proofs.Passing.{is_left}
use Rattle.pg_span_refute.proofs.caches.Caches.pass.Goals as goal

pub returns-clause-left : goal.returns-clause-left
returns-clause-left c =
    let tables = filter_same _ (λ t. may_stay c.args.cfg.rules c.args.self.now.control c.args.event.now c.args.la t) _ (λ x b f k. search rules) _ _ c.retain.ensures.filtered in
    let translations = filter_same _ (λ x. not (must_drop_translation c.args.cfg.rules c.args.self.now.control c.args.event.now x.key)) _ (λ x b f k. search rules) _ _ c.retain-2.ensures.filtered in
    is_left c.args.cfg.rules c.args.la c.args.event.now _ _ tables translations
