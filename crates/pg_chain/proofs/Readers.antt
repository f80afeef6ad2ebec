-- What a reader keeps says what it reads.
use Rattle.std.proofs.Common.{◌≡◌, ℕ, suc, zero, ◌<◌, ◌≤◌, ◌^◌, List, [], ◌∷◌, length, get_or, set, Option, Some, None, IfSome, ap, sym, subst, ◌∙◌, arith}
use Rattle.std.specs.List.{AllByRecursion}
use Rattle.pg_event.specs.declared.event.Event.{Event}
use Rattle.pg_event.specs.declared.control.Control.{Control}
use Rattle.pg_event.specs.Heads.{Head}
use Rattle.pg_event.specs.Values.{mem_at, control_at}
use Rattle.pg_chain.specs.declared.past.Past.{Past}
use Rattle.pg_chain.specs.declared.reader.Word.{Word}
use Rattle.pg_chain.specs.declared.reader.ControlSpan.{ControlSpan}
use Rattle.pg_chain.specs.Standing.{IsPast}
use Rattle.pg_chain.specs.Known.{IsWord, IsControlSpan}

pub all_at : {T : Type 0} (P : T → Type 0) (xs : List T) (i : ℕ) (d : T) → AllByRecursion P xs → i < length xs → P (get_or xs i d)
all_at P [] i d all h = absurd (omega arith)
all_at P (x ∷ xs) zero d all h = all.0
all_at P (x ∷ xs) (suc i) d all h = all_at P xs i d all.1 (omega arith)

pub all_set : {T : Type 0} (P : T → Type 0) (xs : List T) (i : ℕ) (x : T) → AllByRecursion P xs → P x → AllByRecursion P (set xs i x)
all_set P [] i x all has = all
all_set P (y ∷ ys) zero x all has = (has, all.1)
all_set P (y ∷ ys) (suc i) x all has = (all.0, all_set P ys i x all.1 has)

pub word_read : (past : Past) (word : Word) (o : Option ℕ) (moment address : ℕ) → IsWord past word → word.address ≡ address →
    IfSome o (λ v. (word.span.from ≤ moment) × (moment ≤ word.span.to) × (v ≡ word.span.value)) →
    (head : Head) (events : List Event) → IsPast past head events → IfSome o (λ v. v ≡ mem_at events moment address)
word_read past word None moment address is same h head events stands = tt
word_read past word (Some v) moment address is same h head events stands =
    h.2 ∙ sym (is head events stands moment h.0 h.1) ∙ ap (mem_at events moment) same

pub control_span_read : (past : Past) (kept : ControlSpan) (o : Option Control) (moment p : ℕ) → IsControlSpan past kept → kept.p ≡ p →
    IfSome o (λ c. (kept.span.from ≤ moment) × (moment ≤ kept.span.to) × (c ≡ kept.span.value)) →
    (head : Head) (events : List Event) → IsPast past head events → IfSome o (λ c. c ≡ control_at head events p moment)
control_span_read past kept None moment p is same h head events stands = tt
control_span_read past kept (Some c) moment p is same h head events stands =
    h.2 ∙ sym (is.same head events stands moment h.0 h.1) ∙ ap (λ q. control_at head events q moment) same

pub control_span_low : (past : Past) (kept : ControlSpan) (o : Option Control) (moment : ℕ) → IsControlSpan past kept →
    IfSome o (λ c. (kept.span.from ≤ moment) × (moment ≤ kept.span.to) × (c ≡ kept.span.value)) → IfSome o (λ c. c.root < 2 ^ 52)
control_span_low past kept None moment is h = tt
control_span_low past kept (Some c) moment is h = subst (λ (x : Control). x.root < 2 ^ 52) (sym h.2) is.root
