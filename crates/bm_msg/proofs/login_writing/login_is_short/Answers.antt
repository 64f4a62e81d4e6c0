use Rattle.bm_msg.proofs.Logins.{login_short, short_login}
use Rattle.bm_msg.proofs.login_writing.login_is_short.Goals as goal

pub returns : goal.returns
returns c = (
  λ h. login_short c.args.username.now c.args.password.now c.args.session.now c.args.next.now (c.texts_are_short.ensures.0 h),
  λ h. c.texts_are_short.ensures.1 (short_login c.args.username.now c.args.password.now c.args.session.now c.args.next.now h),
)
