use Rattle.std.proofs.Common.{◌≡◌, ◌++◌, refl, ap, ◌∙◌, arith, List, ℕ, Bool, false, get_or}
use Rattle.std.specs.List.{flat_map}
use Rattle.std.proofs.lemmas.List.{take_more}
use Rattle.std.proofs.lemmas.Result.{err_from_is_err_and}
use Rattle.pg_event.specs.Heads.{Head}
use Rattle.pg_event.specs.Spelling.{version_number, start_bytes, header_bytes}
use Rattle.pg_codec.specs.Writing.{numbered_bytes, settings_bytes}
use Rattle.pg_codec.proofs.Pushed.{header_in_order}
use Rattle.pg_codec.proofs.Written.{writing_starts, writing_fails, writing_on, writing_ends, puts_same}
use Rattle.pg_codec.proofs.writer.write_header.Goals as goal

pub loop-cr3-init : goal.loop-cr3-init
loop-cr3-init g c =
    let head : Head = c.args.header.now in
    let number : ℕ = c.version_number.result in
    let numbered : number ≡ version_number head.version = c.version_number.ensures ∙ ap (λ (h : Head). version_number h.version) c.header.view_is in
    writing_starts g.W.Sink start_bytes (settings_bytes head) c.deref-cr3-items.result.now _ c.push_settings.new.block
    (c.push_settings.ensures ∙ ap (λ (l : List ℕ). l ++ numbered_bytes number head) c.new-block.ensures ∙ ap (λ (n : ℕ). numbered_bytes n head) numbered)

pub returns-in_err-make_room : goal.returns-in_err-make_room
returns-in_err-make_room g c =
    let p = err_from_is_err_and c.from_residual.result c.from_residual.ensures.1 in
    let head = c.args.header.now in
    let items = c.deref-cr3-items.result.now in
    let seen : items ≡ head.processors = rw (c.deref-cr3-items.ensures.value, ← c.header.view_is) refl in
    let whole : settings_bytes head ++ flat_map start_bytes items ≡ header_bytes head = ap (λ (xs : List (ℕ × Bool)). settings_bytes head ++ flat_map start_bytes xs) seen ∙ header_in_order head in
    rw p.1 (puts_same g.W.Sink _ _ _ _ _ whole
    (writing_fails g.W.Sink start_bytes (settings_bytes head) items _ _ _ c.loop-cr3.block c.loop-cr3.cr3-index _ c.loop-cr3.invariant c.in_err-make_room.ensures.bytes c.in_err-make_room.ensures.failures))

pub loop-cr3-preserved : goal.loop-cr3-preserved
loop-cr3-preserved g c =
    let i = c.loop-cr3.cr3-index in
    let items = c.deref-cr3-items.result.now in
    let made = c.in_ok-make_room.ensures in
    writing_on g.W.Sink start_bytes (settings_bytes c.args.header.now) items _ _ _ c.loop-cr3.block c.make_room.new.block c.push_start.new.block i (get_or items i (0, false))
    c.loop-cr3.invariant made.bytes made.failures (take_more items i (0, false) (omega arith)) c.push_start.ensures

pub returns : goal.returns
returns g c =
    let head = c.args.header.now in
    let items = c.deref-cr3-items.result.now in
    let seen : items ≡ head.processors = rw (c.deref-cr3-items.ensures.value, ← c.header.view_is) refl in
    let whole : settings_bytes head ++ flat_map start_bytes items ≡ header_bytes head = ap (λ (xs : List (ℕ × Bool)). settings_bytes head ++ flat_map start_bytes xs) seen ∙ header_in_order head in
    puts_same g.W.Sink _ _ _ _ c.put_all.result whole
    (writing_ends g.W.Sink start_bytes (settings_bytes head) items _ _ _ c.loop-cr3.block c.as_slice.result.now c.loop-cr3.cr3-index c.put_all.result c.loop-cr3-test.false c.loop-cr3.invariant c.as_slice.ensures c.put_all.ensures)
