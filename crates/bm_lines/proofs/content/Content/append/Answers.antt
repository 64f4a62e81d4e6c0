use Rattle.std.proofs.Common.{◌≡◌, ◌∙◌, ◌+◌, ◌∷◌, ◌++◌, ap, length, map, string_bytes, List, arith}
use Rattle.bm_lines.specs.Lines.{Line}
use Rattle.bm_lines.specs.Contents.{lines_in}
use Rattle.bm_lines.proofs.Contents.{appended-in, lines-of-appended, inside-text}
use Rattle.bm_lines.proofs.content.Content.append.Goals as goal

pub append_begins-requires : goal.append_begins-requires
append_begins-requires c = λ k d l.
    let text = c.args.more.now in
    let inside = inside-text (lines_in c.args.begins.now text) text c.args.begins.now k d c.requires l in
    let room = c.in_ok-reserve.ensures.ok in
    let small = c.reserve.new.self.bytes.small in
    omega (arith, inside, room, small, c.reserve.ensures.len, c.len-end.ensures)

pub invariant_of-self-2 : goal.invariant_of-self-2
invariant_of-self-2 c =
    let begins = c.self.inside.begins.items in
    let begins' = c.args.begins.now in
    let text = string_bytes c.self.inside.text in
    let text' = c.args.more.now in
    let end : c.len-end.result ≡ length text = c.len-end.ensures ∙ c.self.inside.text.bytes.ok.0 in
    let noted : c.append_begins.new.begins.items ≡ begins ++ length text ∷ map (λ n. length text + n) begins' =
    c.in_ok-append_begins.ensures.ok ∙ ap (λ k. begins ++ k ∷ map (λ n. k + n) begins') end in
    let grown : string_bytes c.push_str.new.self ≡ text ++ text' =
    c.in_ok-push_str.ensures.bytes ∙ ap (λ t. t ++ text') c.reserve.ensures.bytes in
    appended-in begins begins' text text' c.append_begins.new.begins.items (string_bytes c.push_str.new.self) c.self.invariant c.requires noted grown

pub returns-clause-ok : goal.returns-clause-ok
returns-clause-ok c =
    let begins = c.self.inside.begins.items in
    let begins' = c.args.begins.now in
    let text = string_bytes c.self.inside.text in
    let text' = c.args.more.now in
    let end : c.len-end.result ≡ length text = c.len-end.ensures ∙ c.self.inside.text.bytes.ok.0 in
    let noted : c.append_begins.new.begins.items ≡ begins ++ length text ∷ map (λ n. length text + n) begins' =
    c.in_ok-append_begins.ensures.ok ∙ ap (λ k. begins ++ k ∷ map (λ n. k + n) begins') end in
    let grown : string_bytes c.push_str.new.self ≡ text ++ text' =
    c.in_ok-push_str.ensures.bytes ∙ ap (λ t. t ++ text') c.reserve.ensures.bytes in
    lines-of-appended begins begins' text text' c.append_begins.new.begins.items (string_bytes c.push_str.new.self) c.self.invariant c.requires noted grown
    ∙ ap (λ (ls : List Line). ls ++ lines_in begins' text') c.self.view_is
