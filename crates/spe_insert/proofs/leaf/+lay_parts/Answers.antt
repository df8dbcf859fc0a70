use Rattle.std.proofs.Common.{◌≡◌, ◌∙◌, ℕ, ℤ, [], ◌∷◌, length, refl, sym, ap, subst, List, All, arith, to_z, of_z, w64, to_z-of_z}
use Rattle.std.proofs.lemmas.Bool.{eqb-true}
use Rattle.std.proofs.lemmas.List.Elements.{All-head}
use Rattle.spe_model.specs.declared.page.Cell.{Cell}
use Rattle.spe_model.specs.declared.page.Kind.TheVariants.{TableInterior}
use Rattle.spe_frame.specs.Held.{Spares}
use Rattle.spe_format.specs.Canonical.{AreWritable}
use Rattle.spe_cut.specs.Leaf.{last_key}
use Rattle.spe_cut.specs.Parts.{leaf_cells}
use Rattle.spe_cut.specs.Run.{Run, separator}
use Rattle.spe_insert.specs.Below.{first_child}
use Rattle.spe_insert.specs.Leaf.{IsPart, LaysParts}
use Rattle.spe_insert.specs.Run.{run_of, with_first}
use Rattle.spe_insert.proofs.LeafLemmas.{IsTurn, first_cut, keeps_both, parts_end, parts_fail, parts_more, separators_more}
use Rattle.spe_insert.proofs.NodeLemmas.{not_first}
use Rattle.spe_insert.proofs.leaf.+lay_parts.Goals as goal

none_left : (xs : List (List Cell)) → length xs ≡ 0 → xs ≡ []
none_left [] none = refl
none_left (x ∷ xs) none = absurd (omega (arith, none))

pub returns-then-is_empty-clause-laid : goal.returns-then-is_empty-clause-laid
returns-then-is_empty-clause-laid g t c = λ pages agrees ready held other.
    let part = c.remove-cells.result in
    let whole : c.args.parts.items ≡ part ∷ c.remove-cells.new.self.items =
    first_cut c.args.parts.items c.remove-cells.new.self.items part c.requires.some c.remove-cells.ensures.value c.remove-cells.ensures.by_index.2 in
    let none : c.remove-cells.new.self.items ≡ [] = none_left c.remove-cells.new.self.items (let e = eqb-true _ _ (sym c.is_empty.ensures ∙ c.if-is_empty.true) in omega (arith, e, c.remove-cells.new.self.ok)) in
    let is : IsPart (g.S.Pages.used c.args.space.now) part = All-head (IsPart (g.S.Pages.used c.args.space.now)) part c.remove-cells.new.self.items (subst (All (IsPart (g.S.Pages.used c.args.space.now))) whole c.requires.parts) in
    let all : LaysParts g.S.Pages c.args.space.now c.lay_lower.new.space pages c.args.page (part ∷ []) (run_of c.one_child.result) =
    subst (LaysParts g.S.Pages c.args.space.now c.lay_lower.new.space pages c.args.page (part ∷ [])) (sym c.one_child.ensures)
    (parts_end g.S.Pages c.shifts_law.ensures.spares_more c.args.space.now c.lay_lower.new.space pages c.args.page part is.some (c.in-Ok.ensures.node other) (c.in-Ok.ensures.shifts pages agrees ready held other)) in
    subst (λ (ps : List (List Cell)). LaysParts g.S.Pages c.args.space.now c.lay_lower.new.space pages c.args.page ps (run_of c.one_child.result)) (sym (whole ∙ ap (λ (ps : List (List Cell)). part ∷ ps) none)) all

pub returns-clause-laid : goal.returns-clause-laid
returns-clause-laid g t c = λ pages agrees ready held other.
    let s = c.args.space.now in
    let a = c.lay_lower.new.space in
    let b = c.take_page.new.space in
    let e = c.lay_parts.new.space in
    let page = c.args.page in
    let next = c.in-Ok-take_page.next in
    let part = c.remove-cells.result in
    let agrees_b = c.in-Ok-lay_parts.ensures.kept.earlier pages agrees in
    let agrees_a = c.in-Ok-take_page.ensures.kept.earlier pages agrees_b in
    let first = c.in-Ok.ensures.shifts pages agrees_a ready held other in
    let take = c.in-Ok-take_page.ensures.shifts pages agrees_b first.ready (c.shifts_law.ensures.none a pages) in
    let held_b = take.held (c.shifts_law.ensures.none a pages) in
    let turn : IsTurn g.S.Pages s a b pages page next (leaf_cells part) = record { other = other; held = held; lays = c.in-Ok.ensures.node other; first = first; then_ = take } in
    let whole : c.args.parts.items ≡ part ∷ c.remove-cells.new.self.items =
    first_cut c.args.parts.items c.remove-cells.new.self.items part c.requires.some c.remove-cells.ensures.value c.remove-cells.ensures.by_index.2 in
    let is : IsPart (g.S.Pages.used s) part = All-head (IsPart (g.S.Pages.used s)) part c.remove-cells.new.self.items (subst (All (IsPart (g.S.Pages.used s))) whole c.requires.parts) in
    let all = parts_more g.S.Pages c.shifts_law.ensures.both c.shifts_law.ensures.beside c.shifts_law.ensures.alike s a b e pages page next part c.remove-cells.new.self.items
    (run_of c.in-Ok-lay_parts.run') is.some turn (c.in-Ok-lay_parts.ensures.laid pages agrees take.ready held_b (not_first next (take.front refl))) in
    let same : to_z w64 (of_z w64 c.last_key_of-key.result) ≡ c.last_key_of-key.result = grind (arith, to_z-of_z) in
    let run_is : run_of c.in_ok-run_behind.field-0 ≡ with_first (separator (last_key part) page) (run_of c.in-Ok-lay_parts.run') =
    c.in_ok-run_behind.ensures ∙ ap (λ (k : ℤ). with_first (separator k page) (run_of c.in-Ok-lay_parts.run')) (same ∙ c.last_key_of-key.ensures ∙ ap last_key c.as_slice.ensures) in
    subst (LaysParts g.S.Pages s e pages page c.args.parts.items) (sym run_is)
    (subst (λ (ps : List (List Cell)). LaysParts g.S.Pages s e pages page ps (with_first (separator (last_key part) page) (run_of c.in-Ok-lay_parts.run'))) (sym whole) all)

pub returns-clause-spares : goal.returns-clause-spares
returns-clause-spares g t c = λ pages agrees ready held other. (returns-clause-laid g t c pages agrees ready held other).shifts.spares

pub returns-clause-kept : goal.returns-clause-kept
returns-clause-kept g t c =
    let s = c.args.space.now in
    keeps_both g.S.Pages s c.take_page.new.space c.lay_parts.new.space (keeps_both g.S.Pages s c.lay_lower.new.space c.take_page.new.space c.in-Ok.ensures.kept c.in-Ok-take_page.ensures.kept)
    c.in-Ok-lay_parts.ensures.kept

pub returns-in_err-run_behind-clause-kept : goal.returns-in_err-run_behind-clause-kept
returns-in_err-run_behind-clause-kept g t c =
    let s = c.args.space.now in
    keeps_both g.S.Pages s c.take_page.new.space c.lay_parts.new.space (keeps_both g.S.Pages s c.lay_lower.new.space c.take_page.new.space c.in-Ok.ensures.kept c.in-Ok-take_page.ensures.kept)
    c.in-Ok-lay_parts.ensures.kept

pub returns-in_err-run_behind-clause-spares : goal.returns-in_err-run_behind-clause-spares
returns-in_err-run_behind-clause-spares g t c = λ pages agrees ready held other.
    let s = c.args.space.now in
    let a = c.lay_lower.new.space in
    let b = c.take_page.new.space in
    let e = c.lay_parts.new.space in
    let next = c.in-Ok-take_page.next in
    let part = c.remove-cells.result in
    let agrees_b = c.in-Ok-lay_parts.ensures.kept.earlier pages agrees in
    let agrees_a = c.in-Ok-take_page.ensures.kept.earlier pages agrees_b in
    let first = c.in-Ok.ensures.shifts pages agrees_a ready held other in
    let take = c.in-Ok-take_page.ensures.shifts pages agrees_b first.ready (c.shifts_law.ensures.none a pages) in
    let turn : IsTurn g.S.Pages s a b pages c.args.page next (leaf_cells part) = record { other = other; held = held; lays = c.in-Ok.ensures.node other; first = first; then_ = take } in
    let whole : c.args.parts.items ≡ part ∷ c.remove-cells.new.self.items =
    first_cut c.args.parts.items c.remove-cells.new.self.items part c.requires.some c.remove-cells.ensures.value c.remove-cells.ensures.by_index.2 in
    subst (λ (ps : List (List Cell)). Spares g.S.Pages s e pages (c.args.page ∷ []) (length ps)) (sym whole)
    (parts_fail g.S.Pages c.shifts_law.ensures.both c.shifts_law.ensures.beside c.shifts_law.ensures.spares c.shifts_law.ensures.spares_beside s a b e pages c.args.page next (length c.remove-cells.new.self.items) (leaf_cells part)
    turn (c.in-Ok-lay_parts.ensures.spares pages agrees take.ready (take.held (c.shifts_law.ensures.none a pages)) (not_first next (take.front refl))))

pub returns-in-Err-lay_parts-clause-spares : goal.returns-in-Err-lay_parts-clause-spares
returns-in-Err-lay_parts-clause-spares g t c = λ pages agrees ready held other.
    let s = c.args.space.now in
    let a = c.lay_lower.new.space in
    let b = c.take_page.new.space in
    let e = c.lay_parts.new.space in
    let next = c.in-Ok-take_page.next in
    let part = c.remove-cells.result in
    let agrees_b = c.in-Err-lay_parts.ensures.kept.earlier pages agrees in
    let agrees_a = c.in-Ok-take_page.ensures.kept.earlier pages agrees_b in
    let first = c.in-Ok.ensures.shifts pages agrees_a ready held other in
    let take = c.in-Ok-take_page.ensures.shifts pages agrees_b first.ready (c.shifts_law.ensures.none a pages) in
    let turn : IsTurn g.S.Pages s a b pages c.args.page next (leaf_cells part) = record { other = other; held = held; lays = c.in-Ok.ensures.node other; first = first; then_ = take } in
    let whole : c.args.parts.items ≡ part ∷ c.remove-cells.new.self.items =
    first_cut c.args.parts.items c.remove-cells.new.self.items part c.requires.some c.remove-cells.ensures.value c.remove-cells.ensures.by_index.2 in
    subst (λ (ps : List (List Cell)). Spares g.S.Pages s e pages (c.args.page ∷ []) (length ps)) (sym whole)
    (parts_fail g.S.Pages c.shifts_law.ensures.both c.shifts_law.ensures.beside c.shifts_law.ensures.spares c.shifts_law.ensures.spares_beside s a b e pages c.args.page next (length c.remove-cells.new.self.items) (leaf_cells part)
    turn (c.in-Err-lay_parts.ensures.spares pages agrees take.ready (take.held (c.shifts_law.ensures.none a pages)) (not_first next (take.front refl))))

pub returns-in-Err-lay_parts-clause-likely : goal.returns-in-Err-lay_parts-clause-likely
returns-in-Err-lay_parts-clause-likely g t c = λ pages agrees ready held writable other.
    let a = c.lay_lower.new.space in
    let next = c.in-Ok-take_page.next in
    let agrees_b = c.in-Err-lay_parts.ensures.kept.earlier pages agrees in
    let agrees_a = c.in-Ok-take_page.ensures.kept.earlier pages agrees_b in
    let first = c.in-Ok.ensures.shifts pages agrees_a ready held other in
    let take = c.in-Ok-take_page.ensures.shifts pages agrees_b first.ready (c.shifts_law.ensures.none a pages) in
    c.in-Err-lay_parts.ensures.likely pages agrees take.ready (take.held (c.shifts_law.ensures.none a pages)) (c.in-Ok-take_page.ensures.kept.sealed ∙ c.in-Ok.ensures.kept.sealed ∙ writable) (not_first next (take.front refl))

pub returns-then-is_empty-clause-first : goal.returns-then-is_empty-clause-first
returns-then-is_empty-clause-first g t c = ap first_child c.one_child.ensures

pub returns-then-is_empty-clause-count : goal.returns-then-is_empty-clause-count
returns-then-is_empty-clause-count g t c =
    let whole : c.args.parts.items ≡ c.remove-cells.result ∷ c.remove-cells.new.self.items =
    first_cut c.args.parts.items c.remove-cells.new.self.items c.remove-cells.result c.requires.some c.remove-cells.ensures.value c.remove-cells.ensures.by_index.2 in
    let long = ap length whole in
    let none = eqb-true _ _ (sym c.is_empty.ensures ∙ c.if-is_empty.true) in
    omega (arith, ap (λ (r : Run). length r.cells) c.one_child.ensures, long, none, c.remove-cells.new.self.ok)

pub returns-then-is_empty-clause-separators : goal.returns-then-is_empty-clause-separators
returns-then-is_empty-clause-separators g t c =
    subst (λ (r : Run). AreWritable TableInterior (g.S.Pages.used c.args.space.now) r.cells) (sym c.one_child.ensures) tt

pub returns-clause-first : goal.returns-clause-first
returns-clause-first g t c = ap first_child c.in_ok-run_behind.ensures

pub returns-clause-count : goal.returns-clause-count
returns-clause-count g t c =
    let whole : c.args.parts.items ≡ c.remove-cells.result ∷ c.remove-cells.new.self.items =
    first_cut c.args.parts.items c.remove-cells.new.self.items c.remove-cells.result c.requires.some c.remove-cells.ensures.value c.remove-cells.ensures.by_index.2 in
    let long = ap length whole in
    omega (arith, ap (λ (r : Run). length r.cells) c.in_ok-run_behind.ensures, long, c.in-Ok-lay_parts.ensures.count)

pub returns-clause-separators : goal.returns-clause-separators
returns-clause-separators g t c =
    let used = c.in-Ok-take_page.ensures.kept.used ∙ c.in-Ok.ensures.kept.used in
    separators_more (g.S.Pages.used c.args.space.now) c.room_law.ensures.separator (to_z w64 (of_z w64 c.last_key_of-key.result)) c.args.page (run_of c.in_ok-run_behind.field-0) (run_of c.in-Ok-lay_parts.run')
    c.in_ok-run_behind.ensures (subst (λ (u : ℕ). AreWritable TableInterior u c.in-Ok-lay_parts.run'.cells) used c.in-Ok-lay_parts.ensures.separators)
