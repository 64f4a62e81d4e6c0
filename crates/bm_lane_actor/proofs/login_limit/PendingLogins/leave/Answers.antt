use Rattle.std.proofs.Common.{rules, ◌≡◌, refl, sym, subst, position, None, Some}
use Rattle.bm_lane_actor.specs.PendingTable.{LeavesAt, has_number}
use Rattle.bm_lane_actor.proofs.login_limit.PendingLogins.leave.Goals as goal

pub returns-in_default : goal.returns-in_default
returns-in_default c =
    let old = c.args.self.now in
    let none : position (has_number c.args.number) old.logins.items ≡ None = search rules in
    subst (λ o. LeavesAt o old.logins.items old.count old.logins.items old.count) (sym none) (refl, refl)

pub returns : goal.returns
returns c =
    let old = c.args.self.now in
    let some : position (has_number c.args.number) old.logins.items ≡ Some c.in-Some.place = search rules in
    subst (λ o. LeavesAt o old.logins.items old.count c.swap_remove-login.new.self.items c.leave.new.self) (sym some)
    (c.swap_remove-login.result, c.is_put_out.result, c.swap_remove-login.ensures.value, c.swap_remove-login.ensures.items, c.leave.ensures)
