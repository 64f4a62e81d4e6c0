use Rattle.std.proofs.Common.{◌≡◌, ◌∙◌, ap, subst}
use Rattle.std.specs.Prelude.{◌⊎◌, MatchOption, Ok, Err}
use Rattle.bm_lines.specs.Names.{Name}
use Rattle.bm_store.specs.declared.chunk.ViewRefusal.TheVariants.{NoLog, Mem, Closed}
use Rattle.bm_store.specs.Book.{chunk_in, chunk_of}
use Rattle.bm_store.specs.Kept.{logs_in}
use Rattle.bm_world.specs.World.{World, seen}
use Rattle.bm_world.proofs.Keeping.{shows-chunk, shows-none, wants-chunk}
use Rattle.bm_world.proofs.world.World.look.Goals as goal

pub returns-in-Ok-clause-answer : goal.returns-in-Ok-clause-answer
returns-in-Ok-clause-answer c =
    let asked = subst (λ (n : Name). MatchOption (chunk_in (logs_in c.self.inside.book) c.args.k n c.args.offset c.args.limit) (c.slice.result ≡ Err NoLog) (λ ls. (c.slice.result ≡ Ok (chunk_of c.args.offset ls)) ⊎ (c.slice.result ≡ Err Mem))) c.as_str.ensures c.slice.ensures in
    shows-chunk c.self.inside.capacity c.self.inside.session.trace c.self.inside.queue.items c.self.inside.book c.args.k c.args.name.now c.args.offset c.args.limit c.slice.result c.in-Ok.chunk c.self.invariant asked c.in-Ok.is
    ∙ ap (λ (w : World). seen w c.args.k c.args.name.now c.args.offset c.args.limit) c.self.view_is

pub returns-in-Err-NoLog-clause-answer : goal.returns-in-Err-NoLog-clause-answer
returns-in-Err-NoLog-clause-answer c =
    let asked = subst (λ (n : Name). MatchOption (chunk_in (logs_in c.self.inside.book) c.args.k n c.args.offset c.args.limit) (c.slice.result ≡ Err NoLog) (λ ls. (c.slice.result ≡ Ok (chunk_of c.args.offset ls)) ⊎ (c.slice.result ≡ Err Mem))) c.as_str.ensures c.slice.ensures in
    shows-none c.self.inside.capacity c.self.inside.session.trace c.self.inside.queue.items c.self.inside.book c.args.k c.args.name.now c.args.offset c.args.limit c.slice.result c.self.invariant asked (c.in-Err-NoLog.is ∙ ap Err c.in-Err-NoLog.field-0-is)
    ∙ ap (λ (w : World). seen w c.args.k c.args.name.now c.args.offset c.args.limit) c.self.view_is

pub returns-in-Err-Mem-clause-wanting : goal.returns-in-Err-Mem-clause-wanting
returns-in-Err-Mem-clause-wanting c =
    let asked = subst (λ (n : Name). MatchOption (chunk_in (logs_in c.self.inside.book) c.args.k n c.args.offset c.args.limit) (c.slice.result ≡ Err NoLog) (λ ls. (c.slice.result ≡ Ok (chunk_of c.args.offset ls)) ⊎ (c.slice.result ≡ Err Mem))) c.as_str.ensures c.slice.ensures in
    wants-chunk c.self.inside.capacity c.self.inside.session.trace c.self.inside.queue.items c.self.inside.book c.args.self.now c.args.k c.args.name.now c.args.offset c.args.limit c.slice.result Mem c.self.invariant c.self.view_is asked (c.in-Err-Mem.is ∙ ap Err c.in-Err-Mem.field-0-is) (λ h. cc)

pub returns-in-Err-Closed-clause-wanting : goal.returns-in-Err-Closed-clause-wanting
returns-in-Err-Closed-clause-wanting c =
    let asked = subst (λ (n : Name). MatchOption (chunk_in (logs_in c.self.inside.book) c.args.k n c.args.offset c.args.limit) (c.slice.result ≡ Err NoLog) (λ ls. (c.slice.result ≡ Ok (chunk_of c.args.offset ls)) ⊎ (c.slice.result ≡ Err Mem))) c.as_str.ensures c.slice.ensures in
    wants-chunk c.self.inside.capacity c.self.inside.session.trace c.self.inside.queue.items c.self.inside.book c.args.self.now c.args.k c.args.name.now c.args.offset c.args.limit c.slice.result Closed c.self.invariant c.self.view_is asked (c.in-Err-Closed.is ∙ ap Err c.in-Err-Closed.field-0-is) (λ h. cc)
