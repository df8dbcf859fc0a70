use Rattle.std.proofs.Common.{[], ◌∷◌, ◌∙◌, List, length, ap, subst, sym, arith}
use Rattle.std.proofs.lemmas.List.{append-nil}
use Rattle.spe_model.specs.declared.page.Cell.{Cell}
use Rattle.spe_insert.specs.Leaf.{LaysParts}
use Rattle.spe_insert.specs.Run.{run_of}
use Rattle.spe_insert.specs.Below.{first_child}
use Rattle.spe_insert.proofs.LeafLemmas.{parts_end, parts_later, short_alone, short_parts}
use Rattle.spe_insert.proofs.leaf.lay_leaf.Goals as goal

pub returns-then-fit-clause-laid : goal.returns-then-fit-clause-laid
returns-then-fit-clause-laid g c = λ pages agrees ready held other.
    record {
      parts = c.args.cells ∷ [];
      joined = append-nil c.args.cells;
      few = omega arith;
      lays = subst (LaysParts g.S.Pages c.args.space.now c.lay_node.new.space pages c.args.page (c.args.cells ∷ [])) (sym c.one_child.ensures)
          (parts_end g.S.Pages c.shifts_law.ensures.spares_more c.args.space.now c.lay_node.new.space pages c.args.page c.args.cells (omega (arith, c.requires.place)) (c.in-Ok.ensures.node c.if-fit.true) (c.in-Ok.ensures.shifts pages agrees ready held));
    }

pub returns-in-Ok-lay_parts-clause-laid : goal.returns-in-Ok-lay_parts-clause-laid
returns-in-Ok-lay_parts-clause-laid g c = λ pages agrees ready held other.
    let s = c.args.space.now in
    let a = c.lay_node.new.space in
    let first = c.in-Ok.ensures.shifts pages (c.in-Ok-lay_parts.ensures.kept.earlier pages agrees) ready held in
    let rest = c.in-Ok-lay_parts.ensures.laid pages agrees first.ready (first.held held) other in
    record {
      parts = c.in_ok-parts.parts;
      joined = c.in_ok-parts.ensures.parts.joined;
      few = c.in_ok-parts.ensures.parts.high;
      lays = subst (λ (ps : List (List Cell)). LaysParts g.S.Pages s c.lay_parts.new.space pages c.args.page ps (run_of c.in-Ok-lay_parts.run')) c.into_vec.ensures
          (parts_later g.S.Pages c.shifts_law.ensures.both s a c.lay_parts.new.space pages c.args.page c.into_vec.result.items (run_of c.in-Ok-lay_parts.run') first rest);
    }

pub returns-then-fit-clause-first : goal.returns-then-fit-clause-first
returns-then-fit-clause-first g c = ap first_child c.one_child.ensures

pub returns-then-fit-clause-short : goal.returns-then-fit-clause-short
returns-then-fit-clause-short g c = short_alone (g.S.Pages.used c.args.space.now) c.args.page (run_of c.one_child.result) c.one_child.ensures

pub returns-in-Ok-lay_parts-clause-short : goal.returns-in-Ok-lay_parts-clause-short
returns-in-Ok-lay_parts-clause-short g c =
    short_parts (g.S.Pages.used c.lay_node.new.space) (g.S.Pages.used c.args.space.now) (run_of c.in-Ok-lay_parts.run') c.in_ok-parts.parts c.in-Ok.ensures.kept.used
    (c.in-Ok-lay_parts.ensures.count ∙ ap length c.into_vec.ensures) c.in_ok-parts.ensures.parts.high c.in-Ok-lay_parts.ensures.separators
