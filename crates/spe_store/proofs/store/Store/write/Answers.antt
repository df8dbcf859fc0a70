use Rattle.std.proofs.Common.{◌≡◌, length, subst, sym, arith}
use Rattle.spe_store.specs.Call.{HasFront, MayWrite}
use Rattle.spe_store.specs.Pass.{Pass}
use Rattle.spe_store.specs.Store.{Store}
use Rattle.spe_store.proofs.ListLemmas.{carried, read_at, there}
use Rattle.spe_store.proofs.PutLemmas.{write_done, write_refused}
use Rattle.spe_store.proofs.store.Store.write.Goals as goal

pub invariant_of-self : goal.invariant_of-self
invariant_of-self g c =
    let w = there c.self.inside.works.items c.pass.inside.id (omega (arith, c.self.invariant.all, c.pass.invariant)) in
    write_refused _ _ c.self.inside.works.items c.self.inside.order c.self.invariant c.pass.inside.id c.pass.invariant w.0 w.1 c.args.page c.args.bytes.now c.write_page.new.self
    (subst (λ (s : Store). length c.args.bytes.now ≡ s.page_size) (sym c.self.view_is) c.requires.sized)
    (subst (λ (s : Store). c.args.page ≡ 1 → HasFront g.N.Opening.opened s c.args.bytes.now) (sym c.self.view_is) c.requires.front)
    (carried (λ (s : Store) (p : Pass). MayWrite g.N.Opening.opened s p.id c.args.page) c.self.view_is c.pass.view_is c.requires.may)
    c.in-Err.stop c.in-Err.ensures.tried

pub invariant_of-self-2 : goal.invariant_of-self-2
invariant_of-self-2 g c =
    write_done _ _ c.self.inside.works.items c.self.inside.order c.self.invariant c.pass.inside.id c.pass.invariant c.index_mut.result.now
    (read_at c.self.inside.works.items c.from.result c.pass.inside.id c.index_mut.result.now c.from.ensures (omega (arith, c.self.invariant.all, c.pass.invariant)) c.index_mut.ensures.value)
    c.args.page c.args.bytes.now c.write_page.new.self
    (subst (λ (s : Store). length c.args.bytes.now ≡ s.page_size) (sym c.self.view_is) c.requires.sized)
    (subst (λ (s : Store). c.args.page ≡ 1 → HasFront g.N.Opening.opened s c.args.bytes.now) (sym c.self.view_is) c.requires.front)
    (carried (λ (s : Store) (p : Pass). MayWrite g.N.Opening.opened s p.id c.args.page) c.self.view_is c.pass.view_is c.requires.may)
    c.in-Ok.ensures.tried c.wrote.new.self c.wrote.ensures c.from.result c.from.ensures c.with-self-inside.result.events c.with-self-inside.ensures
