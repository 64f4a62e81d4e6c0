use Rattle.std.proofs.Common.{◌<◌, map, length, string_bytes, arith}
use Rattle.std.specs.Prelude.{◌==◌}
use Rattle.std.specs.List.{slice_split}
use Rattle.std.proofs.lemmas.List.{length-map}
use Rattle.bm_lines.proofs.Contents.{content-in, lines-of-content}
use Rattle.bm_lines.proofs.Cuts.{lettered, some_parts}
use Rattle.bm_lines.proofs.content.Content.of.Goals as goal

pub invariant_of-result : goal.invariant_of-result
invariant_of-result c =
    let parts = slice_split (λ b. b == 10) c.args.parts.now in
    let some : 0 < length (map (lettered c.args.letter) parts) = omega (arith, length-map parts (lettered c.args.letter), some_parts c.args.parts.now) in
    content-in (map (lettered c.args.letter) parts) (string_bytes c.write_parts.new.text) c.write_parts.new.begins.items some c.in_ok-write_parts.ensures

pub returns : goal.returns
returns c =
    let parts = slice_split (λ b. b == 10) c.args.parts.now in
    let some : 0 < length (map (lettered c.args.letter) parts) = omega (arith, length-map parts (lettered c.args.letter), some_parts c.args.parts.now) in
    lines-of-content (map (lettered c.args.letter) parts) (string_bytes c.write_parts.new.text) c.write_parts.new.begins.items some c.in_ok-write_parts.ensures
