use Rattle.std.proofs.Common.{◌≡◌, ℕ, Bool, true, List, Bor, map, refl, sym, subst}
use Rattle.pg_report.specs.Changes.{filled}
use Rattle.pg_answers.specs.Streams.{streams}
use Rattle.pg_span_run.specs.contracts.peeked.PeekedSource.TheImpl as peeked
use Rattle.pg_tool.specs.Answers.{DoesEach, DoesFiles, has_several, opens}
use Rattle.pg_tool.proofs.inputs.perform_files.Goals as goal

pub returns-then-has_several : goal.returns-then-has_several
returns-then-has_several g c =
    let opening = opens g.F.Fn (peeked.ghosts g.row.S g.S.Source g.S.Source-dict) c.args.opener.now in
    let errors = filled g.E.Sink c.args.errors.now c.perform_each.new.errors in
    let s = streams (peeked.ghosts g.row.R g.R.Source g.R.Source-dict) g.O.Sink g.E.Sink (c.args.input.now, c.args.output.now, c.args.errors.now) (c.args.input.now, c.perform_each.new.output, c.perform_each.new.errors) in
    let several : has_several c.args.asked.now ≡ true = let e = c.has_several.ensures in cc in
    let P : Bool → Type 0 = λ b. DoesFiles b opening (c.args.input.now ≡ c.args.input.now) c.args.asked.now s c.perform_each.result in
    let Q : List (Bor (List ℕ)) → Type 0 = λ names. DoesEach opening c.args.asked.now.plan.command (map (λ (name : Bor (List ℕ)). name.now) names) errors.old 0 errors.new c.perform_each.result in
    subst P (sym several) (refl, subst Q c.as_slice.ensures.value c.perform_each.ensures)
