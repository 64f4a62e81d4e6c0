use Rattle.std.proofs.Common.{sym, subst, ◌≤◌}
use Rattle.bm_value.specs.Tree.{Tree, depth}
use Rattle.bm_value.specs.Decoding.{IsReadBack}
use Rattle.bm_msg.proofs.Logins.{login_nests}
use Rattle.bm_msg.proofs.login_writing.write_login.Goals as goal

pub written_map-requires-clause-nests : goal.written_map-requires-clause-nests
written_map-requires-clause-nests c =
    subst (λ (t : Tree). depth t ≤ 32) (sym c.in_ok-pairs.ensures)
    (login_nests c.args.username.now c.args.password.now c.args.session.now c.args.next.now)

pub returns-clause-back : goal.returns-clause-back
returns-clause-back c = subst (λ (t : Tree). IsReadBack t) c.in_ok-pairs.ensures c.in_ok-written_map.ensures.back
