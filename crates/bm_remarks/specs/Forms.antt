-- In which form remarks are written.
use Rattle.std.specs.Prelude.{◌≡◌, ℕ, List}
use Rattle.bm_config.specs.declared.config.RemarkForm.{RemarkForm}
use Rattle.bm_config.specs.declared.config.RemarkForm.TheVariants as form
use Rattle.bm_operator.specs.declared.remark.Remark.{Remark}
use Rattle.bm_operator.specs.Remark.{remark_line, remark_object}

-- the text tells the remark in this form: an object at some moment
abbrev pub IsIn : RemarkForm → Remark → List ℕ → Type 0
IsIn form.Text remark text = text ≡ remark_line remark
IsIn form.Json remark text = (ms : ℕ) × (text ≡ remark_object ms remark)
