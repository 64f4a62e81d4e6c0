use Rattle.std.proofs.Common.{◌≡◌, sym, length, get_or, ◌≤◌, arith, lit<}
use Rattle.std.proofs.lemmas.Str.Pattern.{starts_char}
use Rattle.bm_msg.proofs.Numerals.{no_sign, no_zeros, not_either, number_parsed, too_large, not_parsed}
use Rattle.bm_msg.proofs.keys.command_number.Goals.{else-text-gt1-via-then-text-gt1+else-starts_with-2, else-text-gt1-via-else-text-gt1}
use Rattle.bm_msg.proofs.keys.command_number.Goals as goal

pub returns-then-starts_with : goal.returns-then-starts_with
returns-then-starts_with c =
    sym (no_sign c.args.text.now c.starts_with.result (starts_char 43 c.args.text.now c.starts_with.result c.starts_with.ensures.cases (lit< tt) (lit< tt)) c.if-starts_with.true)

pub returns-then-starts_with-2 : goal.returns-then-starts_with-2
returns-then-starts_with-2 c =
    sym (no_zeros c.args.text.now c.starts_with-then-text-gt1.result (starts_char 48 c.args.text.now c.starts_with-then-text-gt1.result c.starts_with-then-text-gt1.ensures.cases (lit< tt) (lit< tt)) c.if-text-gt1.true c.if-starts_with-2.true)

pub returns-then-n-lt-NUMBER_LIMIT : goal.returns-then-n-lt-NUMBER_LIMIT
returns-then-n-lt-NUMBER_LIMIT c =
    let no_plus = not_either (starts_char 43 c.args.text.now c.starts_with.result c.starts_with.ensures.cases (lit< tt) (lit< tt)) c.if-starts_with.false in
    let no_zero : get_or c.args.text.now 0 0 ≡ 48 → length c.args.text.now ≤ 1 =
    elim c.else-text-gt1.branch [
      | else-text-gt1-via-then-text-gt1+else-starts_with-2 w ↦ (λ z. absurd (not_either (starts_char 48 c.args.text.now w.starts_with-then-text-gt1.result w.starts_with-then-text-gt1.ensures.cases (lit< tt) (lit< tt)) w.if-starts_with-2.false z))
      | else-text-gt1-via-else-text-gt1 w ↦ (λ z. w.if-text-gt1.false)
    ] in
    sym (number_parsed c.args.text.now c.parse.result c.in-Ok.n c.parse.ensures.value.0 no_plus no_zero c.in-Ok.is (omega (arith, c.if-n-lt-NUMBER_LIMIT.true)))

pub returns-else-n-lt-NUMBER_LIMIT : goal.returns-else-n-lt-NUMBER_LIMIT
returns-else-n-lt-NUMBER_LIMIT c =
    let no_plus = not_either (starts_char 43 c.args.text.now c.starts_with.result c.starts_with.ensures.cases (lit< tt) (lit< tt)) c.if-starts_with.false in
    sym (too_large c.args.text.now c.parse.result c.in-Ok.n c.parse.ensures.value.0 no_plus c.in-Ok.is (omega (arith, c.if-n-lt-NUMBER_LIMIT.false)))

pub returns-in_default : goal.returns-in_default
returns-in_default c =
    let no_plus = not_either (starts_char 43 c.args.text.now c.starts_with.result c.starts_with.ensures.cases (lit< tt) (lit< tt)) c.if-starts_with.false in
    sym (not_parsed c.args.text.now c.parse.result c.in_default.field-0 c.parse.ensures.value.0 no_plus c.in_default.is)
