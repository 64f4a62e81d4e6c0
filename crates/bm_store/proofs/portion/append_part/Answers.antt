use Rattle.std.proofs.Common.{rules, ◌-◌, ◌<◌, ℕ, List, length, string_bytes, sym, subst, ap, arith, length-append, IsUtf8, IsCharBoundary}
use Rattle.std.proofs.lemmas.Str.{IsUtf8-drop}
use Rattle.bm_store.proofs.Characters.{near-boundary}
use Rattle.bm_store.proofs.portion.append_part.Goals as goal

pub returns-clause-full : goal.returns-clause-full
returns-clause-full c =
    let rest : List ℕ = c.in-Some.rest.now in
    let cut = c.floor_char_boundary.ensures in
    let begins : IsCharBoundary c.args.text.now c.args.skip = search rules in
    let text : IsUtf8 rest = subst IsUtf8 (sym c.in-Some.ensures.back) (IsUtf8-drop c.args.text.now c.args.skip c.utf8.text begins) in
    let inside : c.args.most - c.len.result < length rest = omega arith in
    let near = near-boundary rest (c.args.most - c.len.result) c.floor_char_boundary.result text inside cut.bound cut.boundary cut.nearest in
    omega (arith, near, ap length c.in_ok-push_str-2.ensures.bytes, length-append (string_bytes c.args.out.now) c.split_at.result.0.now, c.split_at.ensures.front_len)
