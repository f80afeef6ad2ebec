-- What is done of several files, one after another.
use Rattle.std.proofs.Common.{ℕ, ◌+◌, ◌<◌, max, List, Bor, map, drop, get_or, length, sym, subst}
use Rattle.std.proofs.lemmas.List.{drop_more}
use Rattle.pg_arguments.specs.declared.request.Command.{Command}
use Rattle.pg_report.specs.Changes.{Change, Stream}
use Rattle.pg_tool.specs.Answers.{DoesEach, DoesNamed, Opening}

abbrev names_of : List (Bor (List ℕ)) → List (List ℕ)
names_of = map (λ (name : Bor (List ℕ)). name.now)

-- one more file, before those that are left
pub one_more : (Opens : Opening) (command : Command) (names : List (Bor (List ℕ))) (i : ℕ) (d : Bor (List ℕ)) (own : Change) (told next last : Stream) (status one final : ℕ) → i < length names
    → DoesNamed Opens command (get_or names i d).now own (record { old = told; new = next }) one → DoesEach Opens command (names_of (drop (i + 1) names)) next (max status one) last final
    → DoesEach Opens command (names_of (drop i names)) told status last final
one_more Opens command names i d own told next last status one final within does rest =
    let P : List (Bor (List ℕ)) → Type 0 = λ left. DoesEach Opens command (names_of left) told status last final in
    subst P (sym (drop_more names i d within)) (own, next, one, does, rest)
