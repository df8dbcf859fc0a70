use Rattle.std.proofs.Common.{◌≡◌, ◌∙◌, ◌+◌, ◌<◌, ℕ, arith, inr, rules, subst, sym, true}
use Rattle.spe_transactions.specs.Work.{Works, has_page}
use Rattle.spe_store.specs.Event.{journalled_in}
use Rattle.spe_session.specs.Pages.{laid_in}
use Rattle.spe_session.specs.Working.{WritesOne}
use Rattle.spe_session.proofs.NowLemmas.{now_counted}
use Rattle.spe_session.proofs.PageLemmas.{laid_added}
use Rattle.spe_session.proofs.WorkingLemmas.{writes_more, written_more}
use Rattle.spe_session.proofs.writing.write_added.Goals as goal

pub write_page-requires-clause-may : goal.write_page-requires-clause-may
write_page-requires-clause-may g c =
    let i = c.loop-page.invariant in
    let s = c.loop-page.store in
    let below : c.loop-page.page < c.args.pages = search rules in
    let first : has_page (journalled_in c.args.store.now.events) c.args.pass.now.id 1 ≡ true = c.requires.first (omega (arith, i.above, below)) in
    inr (record {
      above = omega (arith, i.counted, i.above);
      first = subst (λ (id : ℕ). has_page (journalled_in s.events) id 1 ≡ true) (sym i.id) (subst (λ (works : Works). has_page works c.args.pass.now.id 1 ≡ true) (sym i.writes.journalled) first);
      counted = now_counted g.N.Opening.opened s c.requires.served c.keeps.ensures.disk c.keeps.ensures.pages i.going (omega (arith, i.counted, c.requires.some));
    })

pub loop-page-preserved : goal.loop-page-preserved
loop-page-preserved g c =
    let i = c.loop-page.invariant in
    let e = c.in-Ok.ensures in
    let id = c.args.pass.now.id in
    let was = c.args.store.now in
    let page = c.loop-page.page + 1 in
    let bytes = c.added_bytes.result.now in
    let now = c.write_page.new.store.events in
    let below : c.loop-page.page < c.args.pages = search rules in
    let one : WritesOne id page bytes c.loop-page.store.events now = subst (λ (n : ℕ). WritesOne n page bytes c.loop-page.store.events now) i.id e.writes in
    let laid = laid_added was.count c.args.pages was.page_size page c.args.dirty.now bytes c.args.zeros.now (omega (arith, i.above)) (omega (arith, below)) c.added_bytes.ensures c.requires.zeros in
    record {
      tied = e.tied;
      going = e.going;
      writes = writes_more id page bytes was.events c.loop-page.store.events now i.writes one;
      written = written_more page page bytes (laid_in was.count c.args.pages was.page_size c.args.dirty.now) c.loop-page.store.events now id i.written one laid (λ n low high. absurd (omega (arith, low, high))) (omega arith);
      id = e.id ∙ i.id;
      sized = e.sized ∙ i.sized;
      counted = e.counted ∙ i.counted;
      above = omega (arith, i.above);
      within = omega (arith, below);
    }
