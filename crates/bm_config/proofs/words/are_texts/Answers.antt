use Rattle.std.proofs.Common.{◌∙◌, sym}
use Rattle.bm_config.specs.Config.{is_text}
use Rattle.bm_config.proofs.Lists.{all_viewed}
use Rattle.bm_config.proofs.words.are_texts.Goals as goal

pub returns : goal.returns
returns c = c.each_is_text.ensures ∙ sym (all_viewed is_text c.args.values.now)
