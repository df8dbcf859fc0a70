use Rattle.std.proofs.Common.{◌≡◌, ◌∙◌, [], ◌∷◌, ap, sym, subst, arith, to_z, of_z, w64, to_z-of_z, true}
use Rattle.spe_model.specs.Page.{ascends}
use Rattle.spe_space.specs.Calls.{sight}
use Rattle.spe_format.specs.Canonical.{IsWritable}
use Rattle.spe_cut.specs.Parts.{run_cells}
use Rattle.spe_cut.specs.Run.{Run}
use Rattle.spe_insert.specs.Interior.{LaysRun}
use Rattle.spe_insert.specs.declared.run.Run.{Run as Held}
use Rattle.spe_insert.specs.Run.{run_of}
use Rattle.spe_insert.specs.Step.{grown_in}
use Rattle.spe_insert.proofs.RunStepLemmas.{grown_few, grown_writable, lays_later, refused_by_page, run_is}
use Rattle.spe_insert.proofs.LookLemmas.{short_same}
use Rattle.spe_insert.proofs.run_step.put_run.Goals as goal

pub returns-in-Err-children_of-clause-refusal : goal.returns-in-Err-children_of-clause-refusal
returns-in-Err-children_of-clause-refusal g c = refused_by_page Held g.S.Pages c.args.space.now c.see_page.new.space c.args.page c.in-Err-children_of.fault c.in-Err-children_of.ensures.only c.in-Ok.ensures.refusal

pub lay_interior-requires-clause-writable : goal.lay_interior-requires-clause-writable
lay_interior-requires-clause-writable g c =
    let used = c.usable-usable.ensures.value in
    let order : ascends c.in_ok-all.all.cells ≡ true = ap ascends (sym c.as_slice-2.ensures) ∙ sym c.if-not-ascends_in.ensures in
    let short = short_same (g.S.Pages.used c.args.space.now) c.usable-usable.result (run_of c.args.run) (sym (used ∙ c.in-Ok.ensures.reads.used)) c.requires.short in
    subst (IsWritable (run_cells (run_of c.in_ok-all.all))) used
    (grown_writable c.room_law.ensures.writable c.usable-usable.result (run_of c.in-Ok-children_of.children) (run_of c.args.run) (run_of c.in_ok-all.all) (to_z w64 (of_z w64 c.args.rowid)) c.in_ok-all.ensures
    c.in-Ok-children_of.ensures.writable short.writable order)

pub lay_interior-requires-clause-few : goal.lay_interior-requires-clause-few
lay_interior-requires-clause-few g c =
    let used = c.usable-usable.ensures.value in
    let short = short_same (g.S.Pages.used c.args.space.now) c.usable-usable.result (run_of c.args.run) (sym (used ∙ c.in-Ok.ensures.reads.used)) c.requires.short in
    rw (sym used) (grown_few c.room_law.ensures.few c.usable-usable.result (run_of c.in-Ok-children_of.children) (run_of c.args.run) (run_of c.in_ok-all.all) (to_z w64 (of_z w64 c.args.rowid)) c.in_ok-all.ensures
    c.in-Ok-children_of.ensures.writable short.writable short.few c.in-Ok-children_of.ensures.few)

pub returns-in-Ok-lay_interior-clause-laid : goal.returns-in-Ok-lay_interior-clause-laid
returns-in-Ok-lay_interior-clause-laid g c = λ pages agrees ready held children later begun.
    let s = c.args.space.now in
    let a = c.see_page.new.space in
    let e = c.lay_interior.new.space in
    let page = c.args.page in
    let run = run_of c.args.run in
    let agrees_a = c.in-Ok-lay_interior.ensures.kept.earlier pages agrees in
    let first = c.in-Ok.ensures.shifts pages agrees_a ready held in
    let same : to_z w64 (of_z w64 c.args.rowid) ≡ c.args.rowid = grind (arith, to_z-of_z) in
    let all_is : run_of c.in_ok-all.all ≡ grown_in children c.args.rowid run =
    run_is (g.S.Pages.used s) c.usable-usable.result (sight g.S.Pages s pages) page c.see_page.new.buf (run_of c.in-Ok-children_of.children) children (to_z w64 (of_z w64 c.args.rowid)) c.args.rowid run (run_of c.in_ok-all.all)
    (c.usable-usable.ensures.value ∙ c.in-Ok.ensures.reads.used) (c.in-Ok.ensures.bytes pages agrees_a) same c.in-Ok-children_of.ensures.legal begun.holds c.in_ok-all.ensures in
    lays_later g.S.Pages c.shifts_law.ensures.both s a e pages page (grown_in children c.args.rowid run) (run_of c.in-Ok-lay_interior.all) first
    (subst (λ (r : Run). LaysRun g.S.Pages a e pages page r (run_of c.in-Ok-lay_interior.all)) all_is (c.in-Ok-lay_interior.ensures.laid pages agrees first.ready (first.held held) later))

pub returns-in-Ok-lay_interior-clause-spares : goal.returns-in-Ok-lay_interior-clause-spares
returns-in-Ok-lay_interior-clause-spares g c = λ pages agrees ready held later.
    let first = c.in-Ok.ensures.shifts pages (c.in-Ok-lay_interior.ensures.kept.earlier pages agrees) ready held in
    c.shifts_law.ensures.spares c.args.space.now c.see_page.new.space c.lay_interior.new.space pages (c.args.page ∷ []) (c.args.page ∷ []) 0 1 first
    (c.in-Ok-lay_interior.ensures.spares pages agrees first.ready (first.held held) later)

pub returns-in-Err-lay_interior-clause-spares : goal.returns-in-Err-lay_interior-clause-spares
returns-in-Err-lay_interior-clause-spares g c = λ pages agrees ready held later.
    let first = c.in-Ok.ensures.shifts pages (c.in-Err-lay_interior.ensures.kept.earlier pages agrees) ready held in
    c.shifts_law.ensures.spares c.args.space.now c.see_page.new.space c.lay_interior.new.space pages (c.args.page ∷ []) (c.args.page ∷ []) 0 1 first
    (c.in-Err-lay_interior.ensures.spares pages agrees first.ready (first.held held) later)

pub returns-in-Err-lay_interior-clause-likely : goal.returns-in-Err-lay_interior-clause-likely
returns-in-Err-lay_interior-clause-likely g c = λ pages agrees ready held children unsealed later begun order.
    let first = c.in-Ok.ensures.shifts pages (c.in-Err-lay_interior.ensures.kept.earlier pages agrees) ready held in
    c.in-Err-lay_interior.ensures.likely pages agrees first.ready (first.held held) (c.in-Ok.ensures.reads.sealed ∙ unsealed) later
