use Rattle.std.proofs.Common.{append_assoc}
use Rattle.pg_codec.proofs.spelling.push_bare.Goals as goal

pub returns-in-Write : goal.returns-in-Write
returns-in-Write c = rw (c.push_u64-in-Write.ensures, c.push_u64.ensures, c.in-Write.is) (simp append_assoc)

pub returns-in-Assist : goal.returns-in-Assist
returns-in-Assist c = rw (c.push_u64-in-Assist-2.ensures, c.push_u64-in-Assist.ensures, c.push_u8-in-Assist.ensures, c.in-Assist.is) (simp append_assoc)

pub returns-in-Invpcid : goal.returns-in-Invpcid
returns-in-Invpcid c = rw (c.push_u64-in-Invpcid.ensures, c.push_u16.ensures, c.push_u8-in-Invpcid.ensures, c.in-Invpcid.is) (simp append_assoc)
