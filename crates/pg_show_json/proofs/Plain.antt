-- A tree has no fraction, so its text is known.
use Rattle.std.proofs.Common.{◌≡◌, ℕ, List, Bool, true, false, ◌||◌, Ordering, Less, Equal, Greater, refl}
use Rattle.std.specs.Ordering.{nat_cmp, match_ordering}
use Rattle.std.specs.Cmp.Lexicographic.{slice_cmp}
use Rattle.serde_json.specs.Data.{Data, Members, no_members, member, put}
use Rattle.serde_json.specs.Written.{has_float, items_have_float, members_have_float}
use Rattle.pg_show_json.specs.Tree.{Json, nothing, flag, count, text, list, object, Elements, no_elements, element, Fields, no_fields, field, data_of, items_of, members_of}

by_order : (o : Ordering) (k l : List ℕ) (d e : Data) (ms rest : Members) → has_float d ≡ false → has_float e ≡ false → members_have_float ms ≡ false → members_have_float rest ≡ false
    → members_have_float (match_ordering o (member k d (member l e ms)) (member l d ms) (member l e rest)) ≡ false
by_order Less k l d e ms rest p q r s = rw (p, q, r) refl
by_order Equal k l d e ms rest p q r s = rw (p, r) refl
by_order Greater k l d e ms rest p q r s = rw (q, s) refl

or_left : (a b : Bool) → (a || b) ≡ false → a ≡ false
or_left true b h = h
or_left false b h = refl

or_right : (a b : Bool) → (a || b) ≡ false → b ≡ false
or_right true b h = absurd (cc)
or_right false b h = h

put_plain : (k : List ℕ) (d : Data) (ms : Members) → has_float d ≡ false → members_have_float ms ≡ false → members_have_float (put k d ms) ≡ false
put_plain k d no_members p q = rw p refl
put_plain k d (member l e ms) p q =
    let first = or_left (has_float e) (members_have_float ms) q in
    let rest = or_right (has_float e) (members_have_float ms) q in
    by_order (slice_cmp nat_cmp k l) k l d e ms (put k d ms) p first rest (put_plain k d ms p rest)

mutual
  pub plain : (j : Json) → has_float (data_of j) ≡ false
  plain nothing = refl
  plain (flag b) = refl
  plain (count n) = refl
  plain (text s) = refl
  plain (list es) = plain_items es
  plain (object fs) = plain_members fs

  plain_items : (es : Elements) → items_have_float (items_of es) ≡ false
  plain_items no_elements = refl
  plain_items (element j es) = rw (plain j) (plain_items es)

  plain_members : (fs : Fields) → members_have_float (members_of fs) ≡ false
  plain_members no_fields = refl
  plain_members (field name j fs) = put_plain name (data_of j) (members_of fs) (plain j) (plain_members fs)
