use Rattle.std.proofs.Common.{◌≡◌, Bool, List, Some, refl, ap, sym, subst, ◌∙◌}
use Rattle.std.specs.Prelude.{codes}
use Rattle.clap.specs.Walk.{Row}
use Rattle.pg_event.specs.declared.selection.Selection.{Selection}
use Rattle.pg_arguments.specs.Commands.{has, options_of, Reads, IsSelectionOf, IsAskedOfShow}
use Rattle.pg_arguments.specs.declared.request.ShowOptions.{ShowOptions}
use Rattle.pg_arguments.proofs.planner.asked_of_show.Goals as goal

some_same : {X : Type 0} (x y : X) → Some x ≡ Some y → x ≡ y
some_same x y h = cc

abbrev shown_by : Selection → Bool → Bool → ShowOptions
shown_by selection json trace = record { selection = selection; json = json; trace = trace }

reads_all : (rows : List Row) (selection : Selection) (json trace : Bool) → Reads (Some selection) (IsSelectionOf rows) → json ≡ has (codes "json") rows → trace ≡ has (codes "trace") rows → Reads (Some (shown_by selection json trace)) (IsAskedOfShow rows)
reads_all rows selection json trace reads told traced = λ x. (
  λ is.
      let same : shown_by selection json trace ≡ x = some_same (shown_by selection json trace) x is in
      record {
        selection = subst (λ (s : ShowOptions). IsSelectionOf rows s.selection) same ((reads selection).0 refl);
        json = ap (λ (s : ShowOptions). s.json) (sym same) ∙ told;
        trace = ap (λ (s : ShowOptions). s.trace) (sym same) ∙ traced;
      },
  λ asked.
      let field : selection ≡ x.selection = some_same selection x.selection ((reads x.selection).1 asked.selection) in
      let forms = ap (λ b. shown_by x.selection b trace) (told ∙ sym asked.json) ∙ ap (shown_by x.selection x.json) (traced ∙ sym asked.trace) in
      ap Some (ap (λ s. shown_by s json trace) field ∙ forms),
)

pub returns : goal.returns
returns c = reads_all (options_of c.args.own.now) c.in_ok-selection_of.field-0 c.has.result c.has-2.result c.in_ok-selection_of.ensures c.has.ensures c.has-2.ensures
