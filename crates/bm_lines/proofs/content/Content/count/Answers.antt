use Rattle.std.proofs.Common.{◌∙◌, ap, length, string_bytes, arith}
use Rattle.bm_lines.proofs.Contents.{counted}
use Rattle.bm_lines.proofs.content.Content.count.Goals as goal

pub returns : goal.returns
returns c =
    let lines = counted c.self.inside.begins.items (string_bytes c.self.inside.text) in
    omega (arith, c.len.ensures, c.self.inside.begins.ok.0, lines) ∙ ap length c.self.view_is
