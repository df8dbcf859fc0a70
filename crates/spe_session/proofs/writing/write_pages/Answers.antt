use Rattle.std.proofs.Common.{◌∙◌, ℕ, ap, arith, subst, sym}
use Rattle.spe_model.specs.Paging.{Given}
use Rattle.spe_store.specs.Event.{seen_in}
use Rattle.spe_session.specs.Pages.{bytes_at}
use Rattle.spe_session.specs.Working.{BeginsSo, WritesOne}
use Rattle.spe_session.proofs.WorkingLemmas.{writes_more, written_more}
use Rattle.spe_session.proofs.writing.write_pages.Goals as goal

pub write_page-requires-clause-front : goal.write_page-requires-clause-front
write_page-requires-clause-front g c = λ first.
    let i = c.loop-page.invariant in
    let put = ap (bytes_at c.args.dirty.now) (sym first) ∙ c.in-Some.ensures.2 in
    subst (λ (id : ℕ). BeginsSo (seen_in c.loop-page.store.events id) c.in-Some.bytes.now) (sym i.id)
    (subst (λ (seen : ℕ → Given). BeginsSo (seen c.args.pass.now.id) c.in-Some.bytes.now) (sym i.writes.carries.seen) (c.requires.front c.in-Some.bytes.now put))

pub loop-page-preserved : goal.loop-page-preserved
loop-page-preserved g c =
    let i = c.loop-page.invariant in
    let e = c.in-Ok.ensures in
    let id = c.args.pass.now.id in
    let now = c.write_page.new.store.events in
    let one : WritesOne id c.in-Some.page c.in-Some.bytes.now c.loop-page.store.events now = subst (λ (n : ℕ). WritesOne n c.in-Some.page c.in-Some.bytes.now c.loop-page.store.events now) i.id e.writes in
    record {
      tied = e.tied;
      going = e.going;
      writes = writes_more id c.in-Some.page c.in-Some.bytes.now c.args.store.now.events c.loop-page.store.events now i.writes one;
      written = written_more c.loop-page.next c.in-Some.page c.in-Some.bytes.now (bytes_at c.args.dirty.now) c.loop-page.store.events now id i.written one c.in-Some.ensures.2 c.in-Some.ensures.3 c.in-Some.ensures.0;
      id = e.id ∙ i.id;
      sized = e.sized ∙ i.sized;
      counted = e.counted ∙ i.counted;
      same = i.same;
      some = omega arith;
      within = omega (arith, c.in-Some.ensures.1);
    }
