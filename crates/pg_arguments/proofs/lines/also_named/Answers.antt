use Rattle.std.proofs.Common.{◌∙◌, ℕ, Bool, List, [], ◌∷◌, Bor, true, map, ap}
use Rattle.std.proofs.lemmas.List.{map_push}
use Rattle.std.proofs.lemmas.Result.{IfOk-weaker}
use Rattle.clap.specs.Adds.{AddsAliases}
use Rattle.clap.specs.Walk.{Rule, Text, rule_of}
use Rattle.clap.specs.declared.builder.arg.Arg.{Arg}
use Rattle.pg_arguments.specs.Commands.{also_named}
use Rattle.pg_arguments.specs.Making.{IsOption}
use Rattle.pg_arguments.proofs.lines.also_named.Goals as goal

-- an option with one more name has a rule with one more name
named : (rule : Rule) (name : Bor (List ℕ)) (old new : Arg) → IsOption rule old → AddsAliases old new ((name, true) ∷ []) → IsOption (also_named rule name.now) new
named rule name old new is adds = record {
  form =
      ap rule_of adds.0
      ∙ ap (λ (names : List (Bor (List ℕ) × Bool)). record (rule_of old) { aliases = map (λ a. a.0.now) names }) adds.1
      ∙ ap (λ (names : List Text). record (rule_of old) { aliases = names }) (map_push (λ (a : Bor (List ℕ) × Bool). a.0.now) old.aliases.items (name, true))
      ∙ ap (λ (r : Rule). also_named r name.now) is.form;
  local = ap (λ (a : Arg). a.global) adds.0 ∙ is.local;
}

pub returns : goal.returns
returns c = λ rule is.
    IfOk-weaker c.visible_alias.result (λ (r : Arg). AddsAliases c.args.option r ((c.args.name, true) ∷ [])) (IsOption (also_named rule c.args.name.now))
    (λ r adds. named rule c.args.name c.args.option r is adds) c.visible_alias.ensures
