use Rattle.std.proofs.Common.{◌≡◌, ℕ, ◌++◌, length, subst, rules}
use Rattle.pg_event.specs.Heads.{Head}
use Rattle.pg_event.specs.Spelling.{processor_bytes}
use Rattle.pg_codec.specs.Writing.{numbered_bytes}
use Rattle.pg_codec.proofs.Pushed.{settings_in_order}
use Rattle.pg_codec.proofs.spelling.push_settings.Goals as goal

pub returns : goal.returns
returns c =
    let fields = c.header.inside in
    let head : Head = record { version = fields.version; cfg = fields.cfg; segment = fields.segment; processors = fields.processors.items } in
    let count : c.len.result ≡ length fields.processors.items = search rules in
    let counted = subst (λ (n : ℕ). c.push_processor.new.block ≡ c.push_u8-2.new.self ++ processor_bytes fields.version n) count c.push_processor.ensures in
    subst (λ (h : Head). c.push_u32.new.self ≡ c.args.block.now ++ numbered_bytes c.args.number h) c.header.view_is
    (settings_in_order c.args.number head c.args.block.now _ _ _ _ _ _ c.push_magic.ensures c.push_u16.ensures c.push_u8.ensures c.push_u8-2.ensures counted c.push_u32.ensures)
