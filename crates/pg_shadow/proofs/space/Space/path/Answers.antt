use Rattle.std.proofs.Common.{◌%◌, Some, ap, ◌∙◌}
use Rattle.pg_shadow.specs.Pages.{place_of}
use Rattle.pg_shadow.proofs.Pages.{path_in-walk}
use Rattle.pg_shadow.proofs.space.Space.path.Goals as goal

pub returns-clause-value : goal.returns-clause-value
returns-clause-value c =
    path_in-walk c.args.self.now c.args.la c.read-four.result c.read-three.result c.read-two.result c.read-one.result
    (c.read-four.ensures.value ∙ ap (λ n. place_of c.args.self.now (Some 0) (n % 512)) c.bits_from.ensures)
    (c.read-three.ensures.value ∙ ap (λ n. place_of c.args.self.now c.read-four.result.below (n % 512)) c.bits_from-2.ensures)
    (c.read-two.ensures.value ∙ ap (λ n. place_of c.args.self.now c.read-three.result.below (n % 512)) c.bits_from-3.ensures)
    (c.read-one.ensures.value ∙ ap (λ n. place_of c.args.self.now c.read-two.result.below (n % 512)) c.bits_from-4.ensures)
