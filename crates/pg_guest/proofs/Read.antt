-- What was read, by what the calls on the way gave.
use Rattle.std.proofs.Common.{◌≡◌, ℕ, ◌<◌, Bool, false, List, [], ◌∷◌, ◌++◌, length, None, refl, sym, ◌∙◌, ap, subst, inl, inr}
use Rattle.pg_entry.specs.declared.Cfg.{Cfg}
use Rattle.pg_entry.specs.declared.Kind.{Kind}
use Rattle.pg_entry.specs.declared.Kind.TheVariants.{Absent, Reserved, Table, Leaf}
use Rattle.pg_entry.specs.declared.Rights.{Rights}
use Rattle.pg_entry.specs.Kinds.{dirty, kind_of}
use Rattle.pg_entry.specs.Permission.{joined}
use Rattle.pg_shadow.specs.declared.entries.Found.{Found}
use Rattle.pg_shadow.specs.declared.entries.Found.TheVariants.{Miss}
use Rattle.pg_world.specs.declared.walk.LevelRead.{LevelRead}
use Rattle.pg_world.specs.declared.walk.LevelRead.TheVariants.{Entry, Fault, Assisted}
use Rattle.pg_world.specs.declared.walk.Walk.{Walk}
use Rattle.pg_world.specs.Recording.{Recording}
use Rattle.pg_world.specs.Walks.{moments_of, found_in, after_found}
use Rattle.pg_guest.specs.declared.advance.Advance.{Advance}
use Rattle.pg_guest.specs.declared.advance.Advance.TheVariants as answers
use Rattle.pg_guest.specs.declared.advance.Stop.{Stop}
use Rattle.pg_guest.specs.Turn.{Processor, Turned, ComesTo, MayStop, refused_by, has_page, keeps, after_read, reads}
use Rattle.pg_guest.specs.Steps.{answer_of}

pub leaf_so : (r : Recording) (x : Processor) (walk : Walk) (t : Turned) (value frame shift : ℕ) (global_bit is_dirty : Bool) (rights : Rights) (moments all : List ℕ) (kind : Kind) →
    rights ≡ joined walk.rights value → is_dirty ≡ dirty value → moments ≡ all → Leaf frame shift global_bit ≡ kind →
    ComesTo r x (has_page r x walk shift global_bit (record { frame = frame; rights = rights; dirty = is_dirty; moments = moments })) t → ComesTo r x (keeps r x walk value all kind) t
leaf_so r x walk t value frame shift global_bit is_dirty rights moments all kind a b c d h =
    subst (λ k. ComesTo r x (keeps r x walk value all k) t) d
    (subst (λ ms. ComesTo r x (has_page r x walk shift global_bit (record { frame = frame; rights = joined walk.rights value; dirty = dirty value; moments = ms })) t) c
    (subst (λ b. ComesTo r x (has_page r x walk shift global_bit (record { frame = frame; rights = joined walk.rights value; dirty = b; moments = moments })) t) b
    (subst (λ rs. ComesTo r x (has_page r x walk shift global_bit (record { frame = frame; rights = rs; dirty = is_dirty; moments = moments })) t) a h)))

-- a turn that keeps what was read is the read, whose entry was given
pub entry_so : (n p : ℕ) (r end : Recording) (x z y : Processor) (way : Found) (walk : Walk) (a : Advance) (value moment : ℕ) (cfg : Cfg) →
    n ≡ p → x ≡ z → cfg ≡ r.head.cfg → found_in r n walk ≡ Entry value moment → end ≡ after_found r (found_in r n walk) →
    r.finished ≡ false → ((s : Recording) → s.finished ≡ false → ComesTo s x (keeps s x walk value (moments_of walk.moments ++ moment ∷ []) (kind_of cfg walk.level value)) (record { answer = a; world = s; processor = y })) →
    ComesTo r z (reads p r z way walk) (record { answer = a; world = end; processor = y })
entry_so n p r end x z y way walk a value moment cfg numbers same settings found left unfinished kept =
    let end_is : end ≡ r = left ∙ ap (after_found r) found in
    let t : Recording → Turned = λ w. record { answer = a; world = w; processor = y } in
    let here = subst (λ (c : Cfg). ComesTo r x (keeps r x walk value (moments_of walk.moments ++ moment ∷ []) (kind_of c walk.level value)) (t r)) settings (kept r unfinished) in
    let read = subst (λ (f : LevelRead). ComesTo r x (after_read r x way walk f) (t r)) (sym found) here in
    let ended = subst (λ (w : Recording). ComesTo r x (reads n r x way walk) (t w)) (sym end_is) read in
    let own = subst (λ m. ComesTo r x (reads m r x way walk) (t end)) numbers ended in
    subst (λ (q : Processor). ComesTo r q (reads p r q way walk) (t end)) same own

-- a turn that came to what was read is the read, which was not refused
pub read_so : (n p : ℕ) (r : Recording) (x z : Processor) (way : Found) (walk : Walk) (f : LevelRead) (t : Turned) → n ≡ p → x ≡ z → found_in r n walk ≡ f → refused_by r (after_read r x way walk f).answer ≡ None → t ≡ after_read r x way walk f →
    ComesTo r z (reads p r z way walk) t
read_so n p r x z way walk f t numbers same found granted is =
    let here : ComesTo r x (after_read r x way walk f) t = inr (record { granted = granted; is = is }) in
    let read = subst (λ (f : LevelRead). ComesTo r x (after_read r x way walk f) t) (sym found) here in
    let own = subst (λ m. ComesTo r x (reads m r x way walk) t) numbers read in
    subst (λ (q : Processor). ComesTo r q (reads p r q way walk) t) same own

-- what a turn answers whose read came to this
keeps_answers : (r : Recording) (x : Processor) (walk : Walk) (value : ℕ) (moments : List ℕ) (kind : Kind) → (keeps r x walk value moments kind).answer ≡ answers.Read walk.level
keeps_answers r x walk value moments Absent = refl
keeps_answers r x walk value moments Reserved = refl
keeps_answers r x walk value moments (Table addr) = refl
keeps_answers r x walk value moments (Leaf frame shift global_bit) = refl

read_answers : (r : Recording) (x : Processor) (way : Found) (walk : Walk) (found : LevelRead) → (after_read r x way walk found).answer ≡ answer_of walk.level found
read_answers r x way walk (Entry value moment) = keeps_answers r x walk value (moments_of walk.moments ++ moment ∷ []) (kind_of r.head.cfg walk.level value)
read_answers r x way walk (Fault receipt) = refl
read_answers r x way walk (Assisted receipt) = refl

-- a read that is refused stops the turn
pub refused_so : (n p : ℕ) (r end : Recording) (x z y : Processor) (way : Found) (walk : Walk) (a : Advance) (why : Stop) →
    n ≡ p → x ≡ z → end ≡ r → a ≡ answers.Stopped why → y ≡ record x { way = Miss } → z.place < length z.instructions → MayStop r (answer_of walk.level (found_in r n walk)) why →
    ComesTo r z (reads p r z way walk) (record { answer = a; world = end; processor = y })
refused_so n p r end x z y way walk a why numbers same left answer given_up next may =
    let here : MayStop r (reads n r z way walk).answer why = subst (λ a. MayStop r a why) (sym (read_answers r z way walk (found_in r n walk))) may in
    let now : y ≡ record z { way = Miss } = given_up ∙ ap (λ (x : Processor). let y : Processor = record x { way = Miss } in y) same in
    inl (record {
      why = why;
      may = subst (λ m. MayStop r (reads m r z way walk).answer why) numbers here;
      next = next;
      is = λ i. record { answer = answer i; world = left i; processor = now i };
    })
