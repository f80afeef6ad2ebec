-- The events of a trace, in several parts.
use Rattle.std.proofs.Common.{◌≡◌, ℕ, ◌+◌, ◌-◌, ◌≤◌, List, [], ◌∷◌, ◌++◌, length, take, drop, Option, ap, sym, ◌∙◌, append_assoc, arith}
use Rattle.std.proofs.lemmas.List.{drop-take, length-take-le, take-append-drop, take-take}
use Rattle.pg_event.specs.declared.event.Event.{Event}
use Rattle.pg_event.specs.declared.selection.Selection.{Selection}
use Rattle.pg_show_trace.specs.Marks.{Marking}
use Rattle.std.specs.Prelude.{Result}
use Rattle.pg_report.specs.declared.error.AuditError.{AuditError}
use Rattle.pg_report.specs.Changes.{Change}
use Rattle.pg_show_trace.specs.declared.writer.Scene.{Scene}
use Rattle.pg_show_trace.specs.Given.{WritesPart}
use Rattle.pg_show_trace.specs.Texts.{chosen_text, items_from, marking, scene_items}
use Rattle.pg_show_trace.proofs.Parts.{part_is}

from_here : (f : Option Selection) (mark : Option Marking) (n m : ℕ) (events : List Event) → n ≡ m → items_from f mark n events ≡ items_from f mark m events
from_here f mark n m events is = ap (λ k. items_from f mark k events) is

-- the items of events, and of those that follow
pub items_append : (f : Option Selection) (mark : Option Marking) (n : ℕ) (xs ys : List Event) → items_from f mark n (xs ++ ys) ≡ items_from f mark n xs ++ items_from f mark (n + length xs) ys
items_append f mark n [] ys = from_here f mark n (n + 0) ys (omega arith)
items_append f mark n (x ∷ xs) ys =
    let one : List ℕ = chosen_text f mark n x in
    let rest : List ℕ = items_from f mark (n + 1) xs in
    ap (λ t. one ++ t) (items_append f mark (n + 1) xs ys ∙ ap (λ t. rest ++ t) (from_here f mark (n + 1 + length xs) (n + length (x ∷ xs)) ys (omega arith)))
    ∙ sym (append_assoc one rest (items_from f mark (n + length (x ∷ xs)) ys))

-- the items of a scene
pub scene_append : (scene : Scene) (xs ys : List Event) → scene_items scene 0 (xs ++ ys) ≡ scene_items scene 0 xs ++ scene_items scene (length xs) ys
scene_append scene xs ys =
    items_append scene.selection (marking scene.mark) 0 xs ys
    ∙ ap (λ k. scene_items scene 0 xs ++ scene_items scene k ys) (omega arith)

-- those that were written as the next ones
pub part_for : {A : Type 0} (scene : Scene) (xs ys zs : List Event) (n : ℕ) (output : Change) (result : Result A AuditError) → n ≡ length xs → zs ≡ ys → WritesPart (scene_items scene n zs) output result
    → WritesPart (scene_items scene (length xs) ys) output result
part_for scene xs ys zs n output result is same part =
    part_is output _ _ result (ap (λ k. scene_items scene k zs) is ∙ ap (λ (es : List Event). scene_items scene (length xs) es) same) part

take_parts : (from to : ℕ) (events : List Event) → from ≤ to → take to events ≡ take from events ++ take (to - from) (drop from events)
take_parts from to events le =
    let there : from + (to - from) ≡ to = omega (arith, le) in
    sym (take-append-drop from (take to events))
    ∙ ap (λ (l : List Event). l ++ drop from (take to events)) (take-take from to events le)
    ∙ ap (λ (l : List Event). take from events ++ l) (sym (ap (λ k. drop from (take k events)) there) ∙ drop-take from (to - from) events)

-- those of a batch, behind those before it
pub items_take : (scene : Scene) (first : ℕ) (events : List Event) (from to : ℕ) → from ≤ to → to ≤ length events
    → scene_items scene first (take from events) ++ scene_items scene (first + from) (take (to - from) (drop from events)) ≡ scene_items scene first (take to events)
items_take scene first events from to le within =
    let some : length (take from events) ≡ from = length-take-le from events (omega (arith, le, within)) in
    let batch : List Event = take (to - from) (drop from events) in
    sym (
    ap (λ (es : List Event). scene_items scene first es) (take_parts from to events le)
    ∙ items_append scene.selection (marking scene.mark) first (take from events) batch
    ∙ ap (λ k. scene_items scene first (take from events) ++ scene_items scene (first + k) batch) some
    )

-- and all of them
pub items_rest : (scene : Scene) (first : ℕ) (events : List Event) (to : ℕ) → to ≤ length events
    → scene_items scene first (take to events) ++ scene_items scene (first + to) (drop to events) ≡ scene_items scene first events
items_rest scene first events to within =
    let some : length (take to events) ≡ to = length-take-le to events within in
    sym (
    ap (λ (es : List Event). scene_items scene first es) (sym (take-append-drop to events))
    ∙ items_append scene.selection (marking scene.mark) first (take to events) (drop to events)
    ∙ ap (λ k. scene_items scene first (take to events) ++ scene_items scene (first + k) (drop to events)) some
    )
