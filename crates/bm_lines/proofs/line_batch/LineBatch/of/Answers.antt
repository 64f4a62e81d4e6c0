use Rattle.std.proofs.Common.{◌≡◌, sym, ◌∙◌, ap, subst, ◌<◌, ◌≤◌, List, true, length, bytes_eq, Option, Some, arith}
use Rattle.std.specs.List.{position_or_len}
use Rattle.std.specs.Option.{option_to_list}
use Rattle.bm_lines.specs.Lines.{Line}
use Rattle.bm_lines.specs.Names.{Name}
use Rattle.bm_lines.specs.LineBatches.{are_distinct, block_under, blocks_under}
use Rattle.bm_lines.specs.declared.line_batch.LogLines.{LogLines}
use Rattle.bm_lines.proofs.PartLists.{block_under-at, block_under-past, blocks_under-distinct}
use Rattle.bm_lines.proofs.line_batch.LineBatch.of.Goals as goal

-- what is found is the only one
only : (o : Option (List Line)) (ps batch : List LogLines) (name : Name) → o ≡ block_under name batch → ps ≡ batch → are_distinct ps ≡ true
    → option_to_list o ≡ blocks_under name batch
only o ps batch name is same distinct =
    ap option_to_list is ∙ sym (blocks_under-distinct batch name (subst (λ qs. are_distinct qs ≡ true) same distinct))

pub returns-then-i-parts : goal.returns-then-i-parts
returns-then-i-parts c =
    let inside : c.place-i.result < length c.as_slice-parts.result.now = omega arith in
    let found =
    ap (λ (p : LogLines). Some p.block) (sym c.index-parts-i.is)
    ∙ sym (block_under-at c.as_slice-parts.result.now c.args.name.now c.place-i.result c.index-parts-i.result c.place-i.ensures inside c.index-parts-i.is)
    ∙ ap (block_under c.args.name.now) (c.as_slice-parts.ensures ∙ c.self.view_is) in
    record { found = found; only = only _ _ _ c.args.name.now found c.self.view_is c.self.invariant }

pub returns-else-i-parts : goal.returns-else-i-parts
returns-else-i-parts c =
    let past : length c.as_slice-parts.result.now ≤ position_or_len (λ q. bytes_eq q.name c.args.name.now) c.as_slice-parts.result.now = omega (arith, c.place-i.ensures) in
    let found =
    sym (block_under-past c.as_slice-parts.result.now c.args.name.now past)
    ∙ ap (block_under c.args.name.now) (c.as_slice-parts.ensures ∙ c.self.view_is) in
    record { found = found; only = only _ _ _ c.args.name.now found c.self.view_is c.self.invariant }
