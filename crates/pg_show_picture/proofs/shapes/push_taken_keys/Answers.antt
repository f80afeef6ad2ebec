use Rattle.std.proofs.Common.{◌≡◌, ◌++◌, ◌∙◌, ap, codes, string_bytes}
use Rattle.std.proofs.lemmas.Result.{on_ok_weaker}
use Rattle.pg_show_picture.specs.declared.placer.Role.TheVariants as roles
use Rattle.pg_show_picture.specs.Svg.{key_text, style_of}
use Rattle.pg_show_picture.proofs.Written.{three_written}
use Rattle.pg_show_picture.proofs.shapes.push_taken_keys.Goals as goal

pub returns : goal.returns
returns c =
    let old = string_bytes c.args.text.now in
    let one = string_bytes c.push_key.new.text in
    let two = string_bytes c.push_key-2.new.text in
    let three = string_bytes c.push_key-3.new.text in
    let drops = key_text 535 (style_of roles.Drops) (codes "an entry had to go by it") in
    let takes = key_text 732 (style_of roles.Takes) (codes "took the last moments") in
    let bad = key_text 909 (style_of roles.Bad) (codes "the bad event") in
    let p : one ≡ old ++ drops = c.in_ok-push_key.ensures ∙ ap (λ s. old ++ key_text 535 s (codes "an entry had to go by it")) c.style_of.ensures in
    let q : two ≡ one ++ takes = c.in_ok-push_key-2.ensures ∙ ap (λ s. one ++ key_text 732 s (codes "took the last moments")) c.style_of-2.ensures in
    let last = key_text 909 c.style_of-3.result.now (codes "the bad event") in
    on_ok_weaker c.push_key-3.result (λ (w : three ≡ two ++ last). three_written old one two three drops takes bad p q (w ∙ ap (λ s. two ++ key_text 909 s (codes "the bad event")) c.style_of-3.ensures))
    c.push_key-3.ensures
