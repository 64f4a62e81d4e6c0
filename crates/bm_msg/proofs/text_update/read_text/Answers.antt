use Rattle.std.proofs.Common.{◌≡◌, sym, ◌∙◌, ap, subst, codes, Some, None, IfNone}
use Rattle.std.specs.Option.{option_copied}
use Rattle.bm_value.specs.View.{tree}
use Rattle.bm_msg.specs.Reading.{text_at, seen}
use Rattle.bm_msg.specs.Updates.{IsTextUpdate}
use Rattle.bm_msg.proofs.KeyValues.{number_to, text_to, command_to, command_from, items_to}
use Rattle.bm_msg.proofs.text_update.read_text.Goals as goal

pub returns-in_err-command-clause-none : goal.returns-in_err-command-clause-none
returns-in_err-command-clause-none g c =
    subst (λ r. IfNone r (¬ IsTextUpdate (tree c.args.message.now))) (sym c.from_residual-in_err-command.ensures) (λ u.
    let both : Some u.command ≡ None = sym (command_from (tree c.args.message.now) u.command u.ordered) ∙ sym c.command_at.ensures ∙ c.in_err-command.was in
    absurd cc)

pub returns-in-Some-Text-clause-some : goal.returns-in-Some-Text-clause-some
returns-in-Some-Text-clause-some g c =
    let op : text_at (tree c.args.message.now) (codes "op") ≡ Some (codes "update") =
    sym c.text_at.ensures ∙ ap option_copied c.in-Some-update.is ∙ ap (λ s. Some s) c.in-Some-update.is-update in (
      number_to (tree c.args.message.now) _ (sym c.number_at.ensures ∙ c.in_ok-seq.was),
      (
        text_to (tree c.args.message.now) (codes "op") (codes "update") op,
        command_to (tree c.args.message.now) _ (sym c.command_at.ensures ∙ c.in_ok-command.was),
        items_to (tree c.args.message.now) _ (sym c.in-Some-Text.ensures.some ∙ ap seen c.in-Some-Text.field-0-is),
      ),
    )
