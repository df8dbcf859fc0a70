use Rattle.std.proofs.Common.{◌≡◌, ◌∙◌, ℕ, List, OnOk, ap, arith, subst, sym}
use Rattle.std.proofs.Math.Path.{fun_ext}
use Rattle.spe_model.specs.Paging.{Given, PageMap}
use Rattle.spe_store.specs.Event.{entries_in, seen_in, written_in}
use Rattle.spe_store.specs.Served.{Entry, asked_of}
use Rattle.spe_session.specs.Alone.{IsAlone}
use Rattle.spe_session.specs.Ending.{AddsEntry, EndsServed, count_after}
use Rattle.spe_session.specs.Pages.{laid_in}
use Rattle.spe_session.specs.Working.{BeginsSo}
use Rattle.spe_session.proofs.CauseLemmas.{ended_reads}
use Rattle.spe_session.proofs.CommitLemmas.{begins_so, ends_may, ends_right}
use Rattle.spe_session.proofs.FrontLemmas.{put_front}
use Rattle.spe_session.proofs.PageLemmas.{laid_fresh}
use Rattle.spe_session.proofs.pager.Pager.commit.Goals as goal

pub put_all-requires-clause-front : goal.put_all-requires-clause-front
put_all-requires-clause-front g c = λ bytes there.
    let s = c.args.self in
    subst (λ (seen : Given). BeginsSo seen bytes) (sym s.tied.seen) (begins_so s.clean (seen_in s.pass.done s.pass.id) bytes s.seen (put_front s.dirty s.clean bytes s.fronted there))

pub end-requires-clause-may : goal.end-requires-clause-may
end-requires-clause-may g c =
    let s = c.args.self in
    let e = c.in-Ok.ensures in
    let st = c.put_all.new.store in
    let id = c.put_all.new.pass.id in
    let laid : PageMap = laid_in s.store.count s.pages s.size s.dirty in
    let seen : seen_in st.events id ≡ seen_in s.pass.done s.pass.id = ap (λ (n : ℕ). seen_in st.events n) e.id ∙ ap (λ (f : ℕ → Given). f s.pass.id) e.carries.seen ∙ s.tied.seen in
    let written : written_in st.events id ≡ laid = ap (λ (n : ℕ). written_in st.events n) e.id ∙ fun_ext e.written in
    let ends : EndsServed g.N.Opening.opened.read (asked_of c.args.log.now) (seen_in s.pass.done s.pass.id) laid s.pages s.size =
    λ count pages db served agrees. (let i = c.requires.served count pages db served agrees in
    record { replied = c.requires.replied count pages db served agrees; since = i.since; named = i.ready.stands.number; sized = i.size }) in
    ends_may g.N.Opening.opened st id (asked_of c.args.log.now) (seen_in s.pass.done s.pass.id) laid s.pages s.size c.requires.was c.keeps-in-Ok.ensures.disk c.keeps-in-Ok.ensures.pages e.going
    (omega (arith, e.counted, s.some)) seen written (e.sized ∙ s.of_store) ends (omega (arith, e.counted, s.more))
    (λ p above within. laid_fresh s.store.count s.pages s.size p s.dirty (omega (arith, e.counted, above)) within)

pub end-requires-clause-alone : goal.end-requires-clause-alone
end-requires-clause-alone g c =
    let e = c.in-Ok.ensures in
    subst (IsAlone c.put_all.new.store.events) (sym e.id) (e.carries.alone c.args.self.alone)

pub end-requires-clause-right : goal.end-requires-clause-right
end-requires-clause-right g c =
    let s = c.args.self in
    let e = c.in-Ok.ensures in
    let st = c.put_all.new.store in
    let id = c.put_all.new.pass.id in
    let laid : PageMap = laid_in s.store.count s.pages s.size s.dirty in
    let seen : seen_in st.events id ≡ seen_in s.pass.done s.pass.id = ap (λ (n : ℕ). seen_in st.events n) e.id ∙ ap (λ (f : ℕ → Given). f s.pass.id) e.carries.seen ∙ s.tied.seen in
    let written : written_in st.events id ≡ laid = ap (λ (n : ℕ). written_in st.events n) e.id ∙ fun_ext e.written in
    let ends : EndsServed g.N.Opening.opened.read (asked_of c.args.log.now) (seen_in s.pass.done s.pass.id) laid s.pages s.size =
    λ count pages db served agrees. (let i = c.requires.served count pages db served agrees in
    record { replied = c.requires.replied count pages db served agrees; since = i.since; named = i.ready.stands.number; sized = i.size }) in
    ends_right g.N.Opening.opened.read (asked_of c.args.log.now) (seen_in s.pass.done s.pass.id) (seen_in st.events id) laid (written_in st.events id) s.pages s.size ends seen written

pub returns-in-Ok-clause-committed : goal.returns-in-Ok-clause-committed
returns-in-Ok-clause-committed g c =
    let s = c.args.self in
    let e = c.in-Ok.ensures in
    let st = c.put_all.new.store in
    let id = c.put_all.new.pass.id in
    let laid : PageMap = laid_in s.store.count s.pages s.size s.dirty in
    let written : written_in st.events id ≡ laid = ap (λ (n : ℕ). written_in st.events n) e.id ∙ fun_ext e.written in
    let after = entries_in c.end.result.store.events in
    subst (λ (es : List Entry). OnOk c.end.result.answer (AddsEntry es after c.args.session.now.number c.args.log.now laid)) (e.carries.entries ∙ s.commits)
    (subst (λ (w : PageMap). OnOk c.end.result.answer (AddsEntry (entries_in st.events) after c.args.session.now.number c.args.log.now w)) written c.end.ensures.entry)

pub returns-in-Ok-clause-counted : goal.returns-in-Ok-clause-counted
returns-in-Ok-clause-counted g c =
    let s = c.args.self in
    let e = c.in-Ok.ensures in
    let st = c.put_all.new.store in
    let id = c.put_all.new.pass.id in
    let laid : PageMap = laid_in s.store.count s.pages s.size s.dirty in
    let written : written_in st.events id ≡ laid = ap (λ (n : ℕ). written_in st.events n) e.id ∙ fun_ext e.written in
    let new = c.end.result.store.count in
    subst (λ (n : ℕ). OnOk c.end.result.answer (new ≡ count_after laid n)) (e.counted ∙ s.counted)
    (subst (λ (w : PageMap). OnOk c.end.result.answer (new ≡ count_after w st.count)) written c.end.ensures.counted)

pub returns-in-Ok-clause-reads : goal.returns-in-Ok-clause-reads
returns-in-Ok-clause-reads g c = ended_reads g.K.Beginning.begun.reads _ c.end.result.answer c.end.ensures.stop
