-- What a translation does that is read later, from an entry that is the same.
use Rattle.std.proofs.Common.{◌≡◌, ℕ, zero, suc, ◌+◌, ◌-◌, ◌<◌, ◌≤◌, ◌==◌, ◌&&◌, ◌%◌, ◌^◌, not, Bool, true, false, List, length, refl, ap, sym, ◌∙◌, cond, Option, Some, None, arith}
use Rattle.std.proofs.lemmas.Bool.{not-true}
use Rattle.pg_entry.specs.declared.Level.{Level}
use Rattle.pg_entry.specs.declared.Kind.TheVariants as kinds
use Rattle.pg_entry.specs.Permission.{joined}
use Rattle.pg_entry.specs.declared.Rules.{Rules}
use Rattle.pg_event.specs.declared.claim.Claim.{Claim}
use Rattle.pg_event.specs.declared.control.Control.{Control}
use Rattle.pg_event.specs.declared.event.Event.{Event}
use Rattle.pg_event.specs.declared.event.Event.TheVariants.{Write, Access, Assist, MovCr3, Invlpg, Invpcid, MovCr4Pge}
use Rattle.pg_event.specs.declared.event.Reason.{Reason}
use Rattle.pg_event.specs.declared.event.Reason.TheVariants as reasons
use Rattle.pg_event.specs.declared.keys.TranslationKey.{TranslationKey}
use Rattle.pg_event.specs.declared.walk.Parent.{Parent}
use Rattle.pg_event.specs.Heads.{Head}
use Rattle.pg_event.specs.Form.{processor_of}
use Rattle.pg_event.specs.Values.{mem_at, loaded, controlled, control_at}
use Rattle.pg_event.specs.Invalidation.{translation_key, must_drop_translation, xor}
use Rattle.pg_event.specs.Witness.{survives, takes_out, failing_leaf, failing_end, translation_survives}
use Rattle.pg_run_of.proofs.Standing.{seen}
use Rattle.pg_run_of.proofs.Accesses.{guard_none}
use Rattle.pg_run_of.proofs.Chains.{reading_at, pass}
use Rattle.pg_search.proofs.Stepping.{next_control}
use Rattle.pg_search.proofs.Survival.{each_stays}
use Rattle.pg_search.specs.Lasts.{stays}
use Rattle.pg_reach.proofs.Histories.{event_there}
use Rattle.pg_reach.proofs.Lasts.{survives_later}

-- an event that drops no translation of the processor leaves PGE
either_pge : (b : Bool) (d c : Control) → d.pge ≡ c.pge → (cond b d c).pge ≡ c.pge
either_pge true d c h = h
either_pge false d c h = refl

unchanged : (on old : Bool) → xor on old ≡ false → on ≡ old
unchanged true true h = refl
unchanged true false h = absurd (cc)
unchanged false true h = absurd (cc)
unchanged false false h = refl

set_pge : (b on : Bool) (c : Control) → (b && xor on c.pge) ≡ false → (cond b (record c { pge = on }) c).pge ≡ c.pge
set_pge true on c h = unchanged on c.pge h
set_pge false on c h = refl

leaves_pge : (rules : Rules) (m p : ℕ) (c : Control) (e : Event) (key : TranslationKey) → (processor_of e == p && must_drop_translation rules c e key) ≡ false → (controlled m p c e).pge ≡ c.pge
leaves_pge rules m p c (Write q addr value) key h = refl
leaves_pge rules m p c (Access q flags la outcome ws) key h = refl
leaves_pge rules m p c (Assist q flags la word ws) key h = refl
leaves_pge rules m p c (MovCr3 q operand) key h = either_pge (q == p) (loaded m operand c.pge) c refl
leaves_pge rules m p c (Invlpg q la) key h = refl
leaves_pge rules m p c (Invpcid q kind pcid la) key h = refl
leaves_pge rules m p c (MovCr4Pge q on) key h = set_pge (q == p) on c h

-- PGE is the same from a moment on up to one to which a translation survives
same_by : (head : Head) (events : List Event) (p : ℕ) (key : TranslationKey) (w n : ℕ) → w + n ≤ length events → ((j : ℕ) → w ≤ j → j < w + n → stays head events p (λ c e. must_drop_translation head.cfg.rules c e key) j ≡ true) →
    (control_at head events p (w + n)).pge ≡ (control_at head events p w).pge
same_by head events p key w zero low h = let e : w + 0 ≡ w = omega arith in ap (λ k. (control_at head events p k).pge) e
same_by head events p key w (suc n) low h =
    let j : ℕ = w + n in
    let next : j + 1 ≡ w + suc n = omega arith in
    let here : j < length events = omega (arith, low) in
    let at = event_there events j here in
    let stay : (processor_of at.0 == p && must_drop_translation head.cfg.rules (control_at head events p j) at.0 key) ≡ false =
    ap (takes_out p (λ c e. must_drop_translation head.cfg.rules c e key) (control_at head events p j)) (sym at.1) ∙ not-true _ (h j (omega arith) (omega arith)) in
    ap (λ k. (control_at head events p k).pge) (sym next) ∙ ap (λ (c : Control). c.pge) (next_control head events p j at.0 at.1) ∙ leaves_pge head.cfg.rules head.cfg.m p (control_at head events p j) at.0 key stay
    ∙ same_by head events p key w n (omega (arith, low)) (λ k above lt. h k above (omega (arith, lt)))

pub same_pge : (head : Head) (events : List Event) (p : ℕ) (key : TranslationKey) (w later to : ℕ) → w ≤ later → later ≤ to → to ≤ length events → translation_survives head events p key w to ≡ true →
    (control_at head events p later).pge ≡ (control_at head events p w).pge
same_pge head events p key w later to low high within h =
    let e : w + (later - w) ≡ later = omega (arith, low) in
    ap (λ k. (control_at head events p k).pge) (sym e)
    ∙ same_by head events p key w (later - w) (omega (arith, low, high, within)) (λ j above lt. each_stays head events p (λ c e. must_drop_translation head.cfg.rules c e key) w to j h above (omega (arith, lt, low, high)))

-- the end of an access, read at a later moment at which the entry is the same

pub leaf_later : (head : Head) (events : List Event) (c : Claim) (pcid : ℕ) (at : Level) (to : Parent) (w later frame shift : ℕ) (g : Bool) → w ≤ later → later ≤ c.number → c.number ≤ length events →
    seen (mem_at events) c.la at to later ≡ seen (mem_at events) c.la at to w →
    failing_end head events c pcid (reading_at events c.la at to w) (kinds.Leaf frame shift g) ≡ None → failing_end head events c pcid (reading_at events c.la at to later) (kinds.Leaf frame shift g) ≡ None
leaf_later head events c pcid at to w later frame shift g low high within same h =
    let pge : Bool → TranslationKey = λ b. translation_key pcid shift (g && b) c.la in
    let key : TranslationKey = pge (control_at head events c.p w).pge in
    let drop : TranslationKey → Control → Event → Bool = λ k d e. must_drop_translation head.cfg.rules d e k in
    let kept = guard_none (survives head events c.p (drop key) w c.number) _ _ h in
    let pges : (control_at head events c.p later).pge ≡ (control_at head events c.p w).pge = same_pge head events c.p key w later c.number low high within kept.0 in
    let lasts : survives head events c.p (drop key) later c.number ≡ true = survives_later head events c.p (drop key) w later c.number low high kept.0 in
    let now : survives head events c.p (drop (pge (control_at head events c.p later).pge)) later c.number ≡ true = ap (λ b. survives head events c.p (drop (pge b)) later c.number) pges ∙ lasts in
    let rest : Bool → ℕ → Option Reason = λ b value. cond (not ((control_at head events c.p c.number).pcid == pcid) && not (g && b)) (Some reasons.ForeignPcid) (failing_leaf head.cfg c.kind (joined to.rights value) (frame + c.la % 2 ^ shift) c.outcome) in
    pass _ _ _ now (ap (λ b. rest b (seen (mem_at events) c.la at to later)) pges ∙ ap (rest (control_at head events c.p w).pge) same ∙ kept.1)
