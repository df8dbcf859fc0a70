use Rattle.std.proofs.Common.{◌≡◌, ◌≤◌, ◌∙◌, [], ◌∷◌, refl, sym, subst, arith, true}
use Rattle.spe_frame.specs.Held.{Shifts}
use Rattle.spe_format.specs.Canonical.{fits}
use Rattle.spe_cut.specs.Parts.{run_cells}
use Rattle.spe_insert.specs.Node.{LaysNode}
use Rattle.spe_insert.specs.Run.{run_of}
use Rattle.spe_insert.proofs.NodeLemmas.{not_first}
use Rattle.spe_insert.proofs.RootLemmas.{led_fits, raise_half, raises}
use Rattle.spe_insert.proofs.root.raise_root.Goals as goal

pub lay_lower-requires-clause-fits : goal.lay_lower-requires-clause-fits
lay_lower-requires-clause-fits g c =
    let s = c.args.space.now in
    let used : g.S.Pages.used c.lay_page.new.space ≡ g.S.Pages.used s = c.in-Ok-lay_page.ensures.kept.used ∙ c.in-Ok-take_page.ensures.kept.used ∙ c.in-Ok.ensures.reads.used in
    let wide : 480 ≤ g.S.Pages.used s = omega (arith, c.usable-usable.ensures.range.0, c.usable-usable.ensures.value) in
    subst (λ u. fits (run_cells (run_of c.set_child-cells.result)) 0 u ≡ true) (sym used)
    (subst (λ r. fits (run_cells r) 0 (g.S.Pages.used s) ≡ true) (sym c.set_child-cells.ensures.child)
    (led_fits (g.S.Pages.used s) (run_of c.args.run) c.in-Ok-take_page.next wide c.requires.short.writable c.requires.short.few))

pub returns-in-Err-lay_page-clause-spares : goal.returns-in-Err-lay_page-clause-spares
returns-in-Err-lay_page-clause-spares g c = λ pages agrees ready held other.
    let s = c.args.space.now in
    let a = c.see_page.new.space in
    let b = c.take_page.new.space in
    let d = c.lay_page.new.space in
    let root = c.args.root in
    let next = c.in-Ok-take_page.next in
    let agrees_b = c.in-Err-lay_page.ensures.kept.earlier pages agrees in
    let first = c.in-Ok.ensures.shifts pages (c.in-Ok-take_page.ensures.kept.earlier pages agrees_b) ready held in
    let take = c.in-Ok-take_page.ensures.shifts pages agrees_b first.ready (c.shifts_law.ensures.none a pages) in
    let later = not_first next (take.front refl) in
    let taken : Shifts g.S.Pages s b pages (root ∷ []) (next ∷ root ∷ []) 1 =
    c.shifts_law.ensures.both s a b pages (root ∷ []) (root ∷ []) (next ∷ root ∷ []) 0 1 first (c.shifts_law.ensures.beside a b pages [] (next ∷ []) (root ∷ []) 1 take) in
    c.shifts_law.ensures.spares s b d pages (root ∷ []) (next ∷ root ∷ []) 1 0 taken
    (c.shifts_law.ensures.spares_beside b d pages (next ∷ []) (root ∷ []) 0
    (c.in-Err-lay_page.ensures.spares pages agrees take.ready (take.held (c.shifts_law.ensures.none a pages)) (λ same. absurd (later same))))

pub returns-in-Ok-lay_lower-clause-raised : goal.returns-in-Ok-lay_lower-clause-raised
returns-in-Ok-lay_lower-clause-raised g c = λ pages agrees ready held other.
    let s = c.args.space.now in
    let a = c.see_page.new.space in
    let b = c.take_page.new.space in
    let d = c.lay_page.new.space in
    let e = c.lay_lower.new.space in
    let root = c.args.root in
    let next = c.in-Ok-take_page.next in
    let run = run_of c.args.run in
    let agrees_d = c.in-Ok-lay_lower.ensures.kept.earlier pages agrees in
    let agrees_b = c.in-Ok-lay_page.ensures.kept.earlier pages agrees_d in
    let agrees_a = c.in-Ok-take_page.ensures.kept.earlier pages agrees_b in
    let first = c.in-Ok.ensures.shifts pages agrees_a ready held in
    let take = c.in-Ok-take_page.ensures.shifts pages agrees_b first.ready (c.shifts_law.ensures.none a pages) in
    let later = not_first next (take.front refl) in
    let taken : Shifts g.S.Pages s b pages (root ∷ []) (next ∷ root ∷ []) 1 =
    c.shifts_law.ensures.both s a b pages (root ∷ []) (root ∷ []) (next ∷ root ∷ []) 0 1 first (c.shifts_law.ensures.beside a b pages [] (next ∷ []) (root ∷ []) 1 take) in
    let second = c.in-Ok-lay_page.ensures.shifts pages agrees_d take.ready (take.held (c.shifts_law.ensures.none a pages)) (λ same. absurd (later same)) in
    let mid = raise_half g.S.Pages c.shifts_law.ensures.both c.shifts_law.ensures.beside c.shifts_law.ensures.alike s b d pages root next taken second in
    let third = c.in-Ok-lay_lower.ensures.shifts pages agrees mid.ready (c.shifts_law.ensures.apart d pages (root ∷ []) (next ∷ []) (mid.held held)).0 other in
    raises g.S.Pages c.shifts_law.ensures.both c.shifts_law.ensures.beside c.shifts_law.ensures.alike s b d e pages root next c.see_page.new.buf run (record {
      other = other;
      held = held;
      bytes_are = c.in-Ok.ensures.bytes pages agrees_a;
      taken = taken;
      puts = c.in-Ok-lay_page.ensures.put;
      second = second;
      lays = subst (λ r. LaysNode g.S.Pages d e root (run_cells r)) c.set_child-cells.ensures.child (c.in-Ok-lay_lower.ensures.node other);
      third = third;
      writable = c.requires.short.writable;
    })

pub returns-in-Ok-lay_lower-clause-spares : goal.returns-in-Ok-lay_lower-clause-spares
returns-in-Ok-lay_lower-clause-spares g c = λ pages agrees ready held other. (returns-in-Ok-lay_lower-clause-raised g c pages agrees ready held other).shifts.spares

pub returns-clause-spares : goal.returns-clause-spares
returns-clause-spares g c = λ pages agrees ready held other.
    let s = c.args.space.now in
    let a = c.see_page.new.space in
    let b = c.take_page.new.space in
    let d = c.lay_page.new.space in
    let e = c.lay_lower.new.space in
    let root = c.args.root in
    let next = c.in-Ok-take_page.next in
    let agrees_d = c.in-Err-lay_lower.ensures.kept.earlier pages agrees in
    let agrees_b = c.in-Ok-lay_page.ensures.kept.earlier pages agrees_d in
    let first = c.in-Ok.ensures.shifts pages (c.in-Ok-take_page.ensures.kept.earlier pages agrees_b) ready held in
    let take = c.in-Ok-take_page.ensures.shifts pages agrees_b first.ready (c.shifts_law.ensures.none a pages) in
    let later = not_first next (take.front refl) in
    let taken : Shifts g.S.Pages s b pages (root ∷ []) (next ∷ root ∷ []) 1 =
    c.shifts_law.ensures.both s a b pages (root ∷ []) (root ∷ []) (next ∷ root ∷ []) 0 1 first (c.shifts_law.ensures.beside a b pages [] (next ∷ []) (root ∷ []) 1 take) in
    let second = c.in-Ok-lay_page.ensures.shifts pages agrees_d take.ready (take.held (c.shifts_law.ensures.none a pages)) (λ same. absurd (later same)) in
    let mid = raise_half g.S.Pages c.shifts_law.ensures.both c.shifts_law.ensures.beside c.shifts_law.ensures.alike s b d pages root next taken second in
    let own = (c.shifts_law.ensures.apart d pages (root ∷ []) (next ∷ []) (mid.held held)).0 in
    c.shifts_law.ensures.spares s d e pages (root ∷ []) (root ∷ next ∷ []) 1 0 mid
    (c.shifts_law.ensures.spares_beside d e pages (root ∷ []) (next ∷ []) 0 (c.in-Err-lay_lower.ensures.spares pages agrees mid.ready own other))

pub returns-clause-likely : goal.returns-clause-likely
returns-clause-likely g c = λ pages agrees ready held unsealed other.
    let s = c.args.space.now in
    let a = c.see_page.new.space in
    let b = c.take_page.new.space in
    let d = c.lay_page.new.space in
    let e = c.lay_lower.new.space in
    let root = c.args.root in
    let next = c.in-Ok-take_page.next in
    let agrees_d = c.in-Err-lay_lower.ensures.kept.earlier pages agrees in
    let agrees_b = c.in-Ok-lay_page.ensures.kept.earlier pages agrees_d in
    let first = c.in-Ok.ensures.shifts pages (c.in-Ok-take_page.ensures.kept.earlier pages agrees_b) ready held in
    let take = c.in-Ok-take_page.ensures.shifts pages agrees_b first.ready (c.shifts_law.ensures.none a pages) in
    let later = not_first next (take.front refl) in
    let taken : Shifts g.S.Pages s b pages (root ∷ []) (next ∷ root ∷ []) 1 =
    c.shifts_law.ensures.both s a b pages (root ∷ []) (root ∷ []) (next ∷ root ∷ []) 0 1 first (c.shifts_law.ensures.beside a b pages [] (next ∷ []) (root ∷ []) 1 take) in
    let second = c.in-Ok-lay_page.ensures.shifts pages agrees_d take.ready (take.held (c.shifts_law.ensures.none a pages)) (λ same. absurd (later same)) in
    let mid = raise_half g.S.Pages c.shifts_law.ensures.both c.shifts_law.ensures.beside c.shifts_law.ensures.alike s b d pages root next taken second in
    let own = (c.shifts_law.ensures.apart d pages (root ∷ []) (next ∷ []) (mid.held held)).0 in
    c.in-Err-lay_lower.ensures.likely pages agrees mid.ready own (c.in-Ok-lay_page.ensures.kept.sealed ∙ c.in-Ok-take_page.ensures.kept.sealed ∙ c.in-Ok.ensures.reads.sealed ∙ unsealed) other
