use Rattle.std.proofs.Common.{arith}
use Rattle.spe_session.proofs.FrontLemmas.{grown_numbered, put_one}
use Rattle.spe_session.proofs.PageLemmas.{placed_put, sized_put}
use Rattle.spe_session.proofs.pager.Pager.grow.Goals as goal

pub invariant_of-self-2-clause-fronted : goal.invariant_of-self-2-clause-fronted
invariant_of-self-2-clause-fronted g c =
    let s = c.args.self.now in
    put_one 1 c.args.front s.dirty c.put.new.self s.clean s.fronted c.in_ok-put.ensures.ok (λ e. c.requires.front)

pub invariant_of-self-2-clause-numbered : goal.invariant_of-self-2-clause-numbered
invariant_of-self-2-clause-numbered g c =
    let s = c.args.self.now in
    grown_numbered s.store.count s.pages _ c.args.front s.dirty c.put.new.self s.numbered c.in_ok-put.ensures.ok

pub invariant_of-self-2-clause-dirty_sized : goal.invariant_of-self-2-clause-dirty_sized
invariant_of-self-2-clause-dirty_sized g c =
    let s = c.args.self.now in
    sized_put s.size 1 c.args.front s.dirty c.put.new.self s.dirty_sized c.in_ok-put.ensures.ok c.requires.size

pub invariant_of-self-2-clause-placed : goal.invariant_of-self-2-clause-placed
invariant_of-self-2-clause-placed g c =
    let s = c.args.self.now in
    placed_put s.pages _ 1 c.args.front s.dirty c.put.new.self s.placed c.in_ok-put.ensures.ok (omega (arith, s.some, s.more)) (omega arith)
