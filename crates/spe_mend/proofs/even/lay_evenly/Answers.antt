use Rattle.std.proofs.Common.{◌≡◌, ◌∙◌, ℤ, sym, subst, arith, to_z, of_z, w64, to_z-of_z}
use Rattle.spe_insert.specs.Run.{run_of}
use Rattle.spe_delete.proofs.MergeLemmas.{MergeLaws, first_held, keeps_both_pages, merges, second_held}
use Rattle.spe_mend.specs.Pair.{LaysHalves}
use Rattle.spe_mend.proofs.EvenLemmas.{even_fails, halves_on_both, later_of_low}
use Rattle.spe_mend.proofs.even.lay_evenly.Goals as goal

pub returns-in-Ok-give_page-clause-joined : goal.returns-in-Ok-give_page-clause-joined
returns-in-Ok-give_page-clause-joined g c = λ none pages agrees ready held later low.
    let s = c.args.space.now in
    let a = c.lay_node.new.space in
    let first = c.args.first in
    let second = c.args.second in
    let laws : MergeLaws g.S.Pages = record {
      both = c.shifts_law.ensures.both;
      beside = c.shifts_law.ensures.beside;
      alike = c.shifts_law.ensures.alike;
      spares = c.shifts_law.ensures.spares;
      spares_beside = c.shifts_law.ensures.spares_beside;
      spares_alike = c.shifts_law.ensures.spares_alike;
      apart = c.shifts_law.ensures.apart;
    } in
    let agrees_a = c.in-Ok-give_page.ensures.kept.earlier pages agrees in
    let laid = c.in-Ok.ensures.shifts pages agrees_a ready (first_held g.S.Pages laws s a pages first second held) in
    merges g.S.Pages laws s a pages first second held laid c.give_page.new.space _ later (c.in-Ok.ensures.node c.if-fit.true)
    (c.in-Ok-give_page.ensures.shifts pages agrees laid.ready (second_held g.S.Pages laws s a pages first second held laid) low)

pub returns-in-Ok-lay_both-clause-halves : goal.returns-in-Ok-lay_both-clause-halves
returns-in-Ok-lay_both-clause-halves g c = λ pages agrees ready held later low.
    let s = c.args.space.now in
    let a = c.lay_node.new.space in
    let first = c.args.first in
    let second = c.args.second in
    let laws : MergeLaws g.S.Pages = record {
      both = c.shifts_law.ensures.both;
      beside = c.shifts_law.ensures.beside;
      alike = c.shifts_law.ensures.alike;
      spares = c.shifts_law.ensures.spares;
      spares_beside = c.shifts_law.ensures.spares_beside;
      spares_alike = c.shifts_law.ensures.spares_alike;
      apart = c.shifts_law.ensures.apart;
    } in
    let agrees_a = c.in-Ok-lay_both.ensures.kept.earlier pages agrees in
    let laid = c.in-Ok.ensures.shifts pages agrees_a ready (first_held g.S.Pages laws s a pages first second held) in
    let key = c.in_ok-low.field-0.key in
    let same : to_z w64 (of_z w64 key) ≡ key = grind (arith, to_z-of_z) in
    subst (λ (k : ℤ). LaysHalves g.S.Pages s c.lay_both.new.space pages first second (run_of c.args.children) k) (sym same)
    (halves_on_both g.S.Pages laws s a pages first second held laid c.lay_both.new.space c.usable-usable.result c.in_ok-low.field-0.key (run_of c.args.children)
    (record { cells = c.in_ok-low.field-0.low; right = c.in_ok-low.field-0.low_right }) (record { cells = c.in_ok-low.field-0.high; right = c.in_ok-low.field-0.high_right })
    c.usable-usable.ensures.value c.in_ok-low.ensures.halves
    (c.in-Ok-lay_both.ensures.laid pages agrees laid.ready ((keeps_both_pages g.S.Pages laws s a pages first second held laid).held held) later (later_of_low second low)))

pub returns-in-Ok-lay_both-clause-spares : goal.returns-in-Ok-lay_both-clause-spares
returns-in-Ok-lay_both-clause-spares g c = λ pages agrees ready held later low. (returns-in-Ok-lay_both-clause-halves g c pages agrees ready held later low).shifts.spares

pub returns-clause-spares : goal.returns-clause-spares
returns-clause-spares g c = λ pages agrees ready held later low.
    let s = c.args.space.now in
    let a = c.lay_node.new.space in
    let first = c.args.first in
    let second = c.args.second in
    let laws : MergeLaws g.S.Pages = record {
      both = c.shifts_law.ensures.both;
      beside = c.shifts_law.ensures.beside;
      alike = c.shifts_law.ensures.alike;
      spares = c.shifts_law.ensures.spares;
      spares_beside = c.shifts_law.ensures.spares_beside;
      spares_alike = c.shifts_law.ensures.spares_alike;
      apart = c.shifts_law.ensures.apart;
    } in
    let agrees_a = c.in-Err-lay_both.ensures.kept.earlier pages agrees in
    let laid = c.in-Ok.ensures.shifts pages agrees_a ready (first_held g.S.Pages laws s a pages first second held) in
    even_fails g.S.Pages laws s a pages first second held laid c.lay_both.new.space
    (c.in-Err-lay_both.ensures.spares pages agrees laid.ready ((keeps_both_pages g.S.Pages laws s a pages first second held laid).held held) later (later_of_low second low))

pub returns-clause-likely : goal.returns-clause-likely
returns-clause-likely g c = λ pages agrees ready held unsealed later low.
    let s = c.args.space.now in
    let a = c.lay_node.new.space in
    let first = c.args.first in
    let second = c.args.second in
    let laws : MergeLaws g.S.Pages = record {
      both = c.shifts_law.ensures.both;
      beside = c.shifts_law.ensures.beside;
      alike = c.shifts_law.ensures.alike;
      spares = c.shifts_law.ensures.spares;
      spares_beside = c.shifts_law.ensures.spares_beside;
      spares_alike = c.shifts_law.ensures.spares_alike;
      apart = c.shifts_law.ensures.apart;
    } in
    let agrees_a = c.in-Err-lay_both.ensures.kept.earlier pages agrees in
    let laid = c.in-Ok.ensures.shifts pages agrees_a ready (first_held g.S.Pages laws s a pages first second held) in
    c.in-Err-lay_both.ensures.likely pages agrees laid.ready ((keeps_both_pages g.S.Pages laws s a pages first second held laid).held held) (c.in-Ok.ensures.kept.sealed ∙ unsealed) later (later_of_low second low)
