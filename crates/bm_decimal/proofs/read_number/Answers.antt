use Rattle.std.proofs.Common.{◌≢◌, get_or, rules, ◌∙◌}
use Rattle.bm_decimal.proofs.Digits.{parse-number}
use Rattle.bm_decimal.proofs.read_number.Goals as goal

pub returns : goal.returns
returns c =
    let plain : get_or c.args.text.now 0 0 ≢ 43 = search rules in
    c.ok.ensures.value ∙ parse-number c.args.text.now c.parse.result plain c.parse.ensures.value.0
