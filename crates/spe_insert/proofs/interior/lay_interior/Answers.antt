use Rattle.std.proofs.Common.{◌≡◌, ◌∙◌, ℤ, [], ◌∷◌, ap, arith, to_z, of_z, w64, to_z-of_z}
use Rattle.spe_cut.specs.Run.{alone, separator}
use Rattle.spe_insert.specs.Run.{run_of, with_first}
use Rattle.spe_insert.proofs.InteriorLemmas.{halves_laid}
use Rattle.spe_insert.proofs.interior.lay_interior.Goals as goal

pub returns-in_err-run_behind-clause-spares : goal.returns-in_err-run_behind-clause-spares
returns-in_err-run_behind-clause-spares g c = λ pages agrees ready held other.
    let s = c.args.space.now in
    let a = c.lay_node.new.space in
    let first = c.in-Ok.ensures.shifts pages (c.in-Ok-lay_halves.ensures.kept.earlier pages agrees) ready held in
    c.shifts_law.ensures.spares s a c.lay_halves.new.space pages (c.args.page ∷ []) (c.args.page ∷ []) 0 1 first
    (c.in-Ok-lay_halves.ensures.spares pages agrees first.ready (first.held held) other)

pub returns-clause-laid : goal.returns-clause-laid
returns-clause-laid g c = λ pages agrees ready held other.
    let s = c.args.space.now in
    let a = c.lay_node.new.space in
    let page = c.args.page in
    let next = c.in-Ok-lay_halves.next in
    let first = c.in-Ok.ensures.shifts pages (c.in-Ok-lay_halves.ensures.kept.earlier pages agrees) ready held in
    let same : to_z w64 (of_z w64 c.in_ok-low.field-0.key) ≡ c.in_ok-low.field-0.key = grind (arith, to_z-of_z) in
    let run_is : run_of c.in_ok-run_behind.field-0 ≡ with_first (separator c.in_ok-low.field-0.key page) (alone next) =
    c.in_ok-run_behind.ensures ∙ ap (λ (k : ℤ). with_first (separator k page) (run_of c.one_child-last.result)) same ∙ ap (with_first (separator c.in_ok-low.field-0.key page)) c.one_child-last.ensures in
    halves_laid g.S.Pages c.shifts_law.ensures.both s a c.lay_halves.new.space pages page next c.usable-usable.result c.in_ok-low.field-0.key (run_of c.args.children)
    (record { cells = c.in_ok-low.field-0.low; right = c.in_ok-low.field-0.low_right }) (record { cells = c.in_ok-low.field-0.high; right = c.in_ok-low.field-0.high_right }) (run_of c.in_ok-run_behind.field-0)
    c.usable-usable.ensures.value c.in_ok-low.ensures.many c.in_ok-low.ensures.halves first (c.in-Ok-lay_halves.ensures.laid pages agrees first.ready (first.held held) other) run_is

pub returns-clause-spares : goal.returns-clause-spares
returns-clause-spares g c = λ pages agrees ready held other.
    let s = c.args.space.now in
    let a = c.lay_node.new.space in
    let first = c.in-Ok.ensures.shifts pages (c.in-Ok-lay_halves.ensures.kept.earlier pages agrees) ready held in
    c.shifts_law.ensures.spares s a c.lay_halves.new.space pages (c.args.page ∷ []) (c.args.page ∷ []) 0 1 first
    (c.in-Ok-lay_halves.ensures.spares pages agrees first.ready (first.held held) other)
