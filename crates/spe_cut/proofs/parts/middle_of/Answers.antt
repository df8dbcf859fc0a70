use Rattle.std.proofs.Common.{ℕ, arith}
use Rattle.spe_cut.specs.Place.{IsCutAt}
use Rattle.spe_cut.proofs.NeedLemmas.{MiddleFound, cut_found, longer_fits, middle_both, middle_found, none_found}
use Rattle.spe_cut.proofs.parts.middle_of.Goals as goal
use Rattle.spe_cut.proofs.parts.middle_of.Goals.{After-front_within-count}

found : (c : After-front_within-count) → MiddleFound c.args.total c.front_within-count.result.0 c.front_within-count.result.1 c.args.cells.now
found c = middle_found c.args.total c.front_within-count.result.0 c.front_within-count.result.1 c.args.cells.now c.requires.total (omega (arith, c.requires.over))
    c.front_within-count.ensures.count c.front_within-count.ensures.taken

pub overflow_add-longer : goal.overflow_add-longer
overflow_add-longer c = let few = (found c).few in omega (arith, few, c.requires.few)

pub offset_bounds-cells-count : goal.offset_bounds-cells-count
offset_bounds-cells-count c = let place = (found c).place in let small = (found c).small in omega (arith, place, small, c.requires.few)

pub bounds-cells-count : goal.bounds-cells-count
bounds-cells-count c = (found c).place

pub overflow_add-longer-2 : goal.overflow_add-longer-2
overflow_add-longer-2 c =
    let fits = longer_fits c.args.total c.front_within-count.result.0 c.front_within-count.result.1 c.cell_length.result c.index-cells-count.result c.args.cells.now c.requires.total (omega (arith, c.requires.over))
    c.front_within-count.ensures.count c.front_within-count.ensures.taken c.index-cells-count.is c.cell_length.ensures in
    omega (arith, fits, c.requires.few)

pub overflow_sub-shorter : goal.overflow_sub-shorter
overflow_sub-shorter c =
    (middle_found c.args.total c.front_within-count.result.0 c.front_within-count.result.1 c.args.cells.now c.requires.total (omega (arith, c.requires.over))
    c.front_within-count.ensures.count c.front_within-count.ensures.taken).few

pub returns-then-longer-shorter-clause-fits : goal.returns-then-longer-shorter-clause-fits
returns-then-longer-shorter-clause-fits c =
    let cuts = middle_both c.args.most c.args.total c.front_within-count.result.0 c.front_within-count.result.1 c.cell_length.result c.index-cells-count.result c.args.cells.now c.requires.total c.requires.over
    c.front_within-count.ensures.count c.front_within-count.ensures.taken c.index-cells-count.is c.cell_length.ensures in
    cut_found c.where_fits.result c.args.most _ _ c.args.cells.now c.where_fits.ensures cuts.behind

pub returns-then-longer-shorter-clause-none : goal.returns-then-longer-shorter-clause-none
returns-then-longer-shorter-clause-none c =
    let cuts = middle_both c.args.most c.args.total c.front_within-count.result.0 c.front_within-count.result.1 c.cell_length.result c.index-cells-count.result c.args.cells.now c.requires.total c.requires.over
    c.front_within-count.ensures.count c.front_within-count.ensures.taken c.index-cells-count.is c.cell_length.ensures in
    none_found c.where_fits.result c.args.most _ _ ((at : ℕ) → ¬ IsCutAt c.args.most c.args.cells.now at) c.where_fits.ensures (λ over. cuts.none over (omega (arith, over, c.if-longer-shorter.true)))

pub returns-clause-fits : goal.returns-clause-fits
returns-clause-fits c =
    let cuts = middle_both c.args.most c.args.total c.front_within-count.result.0 c.front_within-count.result.1 c.cell_length.result c.index-cells-count.result c.args.cells.now c.requires.total c.requires.over
    c.front_within-count.ensures.count c.front_within-count.ensures.taken c.index-cells-count.is c.cell_length.ensures in
    cut_found c.where_fits-2.result c.args.most _ _ c.args.cells.now c.where_fits-2.ensures cuts.before

pub returns-clause-none : goal.returns-clause-none
returns-clause-none c =
    let cuts = middle_both c.args.most c.args.total c.front_within-count.result.0 c.front_within-count.result.1 c.cell_length.result c.index-cells-count.result c.args.cells.now c.requires.total c.requires.over
    c.front_within-count.ensures.count c.front_within-count.ensures.taken c.index-cells-count.is c.cell_length.ensures in
    none_found c.where_fits-2.result c.args.most _ _ ((at : ℕ) → ¬ IsCutAt c.args.most c.args.cells.now at) c.where_fits-2.ensures
    (λ over. cuts.none (omega (arith, over, c.if-longer-shorter.false)) over)
