use Rattle.std.proofs.Common.{subst, sym, ◌∙◌, arith}
use Rattle.spe_model.specs.Rollback.{cut_of}
use Rattle.spe_store.specs.Call.{CutsIf, IsUndone}
use Rattle.spe_store.specs.Event.{open_in}
use Rattle.spe_store.specs.Pass.{Pass}
use Rattle.spe_store.specs.Store.{Store}
use Rattle.spe_store.specs.Work.{HasEnded}
use Rattle.spe_store.specs.declared.work.Work.{Work}
use Rattle.spe_store.proofs.EndLemmas.{drop_cuts, drop_done, drop_refused}
use Rattle.spe_store.proofs.ListLemmas.{carried, handed, read_at, same_read}
use Rattle.spe_store.proofs.store.Store.drop_journal.Goals as goal

pub invariant_of-self : goal.invariant_of-self
invariant_of-self g c =
    let w = c.index.result.now in
    let found = read_at c.self.inside.works.items c.from.result c.pass.inside.id w c.from.ensures (omega (arith, c.self.invariant.all, c.pass.invariant)) c.index.ensures in
    let going = sym c.stopped.ensures ∙ c.in_default.is in
    drop_refused _ _ c.self.inside.works.items c.self.inside.order c.self.invariant c.pass.inside.id c.pass.invariant (carried (λ (s : Store) (p : Pass). IsUndone s p.id) c.self.view_is c.pass.view_is c.requires.undone) w found
    c.cut_journal.new.desk c.in-Err.stop c.in-Err.ensures

pub invariant_of-self-2 : goal.invariant_of-self-2
invariant_of-self-2 g c =
    let w = c.index.result.now in
    let found = read_at c.self.inside.works.items c.from.result c.pass.inside.id w c.from.ensures (omega (arith, c.self.invariant.all, c.pass.invariant)) c.index.ensures in
    let going = sym c.stopped.ensures ∙ c.in_default.is in
    drop_done _ _ c.self.inside.works.items c.self.inside.order c.self.invariant c.pass.inside.id c.pass.invariant (carried (λ (s : Store) (p : Pass). IsUndone s p.id) c.self.view_is c.pass.view_is c.requires.undone) w found
    c.cut_journal.new.desk c.in-Ok.ensures c.end.new.self
    (subst (λ (v : Work). HasEnded v c.end.new.self) (same_read c.self.inside.works.items c.from-2.result c.from.result c.pass.inside.id c.index_mut.result.now w c.from-2.ensures c.from.ensures (omega (arith, c.self.invariant.all, c.pass.invariant)) c.index_mut.ensures.value c.index.ensures) c.end.ensures)
    c.from-2.result c.from-2.ensures c.with-self-inside.result.events c.with-self-inside.ensures

pub returns-clause-made : goal.returns-clause-made
returns-clause-made g c =
    let w = c.index.result.now in
    let found = read_at c.self.inside.works.items c.from.result c.pass.inside.id w c.from.ensures (omega (arith, c.self.invariant.all, c.pass.invariant)) c.index.ensures in
    let going = sym c.stopped.ensures ∙ c.in_default.is in
    handed (λ (s : Store) (p : Pass). CutsIf (open_in s.events p.id) s.desk c.cut_journal.new.desk (cut_of p.id)) c.self.view_is c.pass.view_is
    (drop_cuts _ _ c.self.inside.works.items c.self.inside.order c.self.invariant c.pass.inside.id c.pass.invariant (carried (λ (s : Store) (p : Pass). IsUndone s p.id) c.self.view_is c.pass.view_is c.requires.undone) w found c.cut_journal.new.desk going c.in-Ok.ensures)
