use Rattle.std.proofs.Common.{◌≡◌, ◌<◌, ◌∙◌, ℕ, ◌-◌, ◌+◌, List, [], ◌∷◌, take, drop, length, Bool, Err, refl, ap, subst, arith}
use Rattle.std.proofs.lemmas.Result.{IfOk-weaker}
use Rattle.spe_model.specs.declared.page.Cell.{Cell}
use Rattle.spe_space.specs.Calls.{reads_both, sight}
use Rattle.spe_cut.specs.Joined.{cells_below, cells_under}
use Rattle.spe_cut.specs.Parts.{need}
use Rattle.spe_cut.specs.Run.{Run}
use Rattle.spe_model.specs.Tree.{rank}
use Rattle.spe_write.specs.Chain.{IsLikelyOfTree}
use Rattle.spe_model.specs.declared.page.Kind.TheVariants.{TableLeaf}
use Rattle.spe_delete.specs.declared.leaves.Leaves.{Leaves}
use Rattle.spe_delete.specs.Leaves.{Gains, GathersTree, GathersRun, SeesTree, StaysSound, run_with}
use Rattle.spe_delete.proofs.BelowLemmas.{was_so}
use Rattle.spe_delete.proofs.CollectLemmas.{IsAtRun, IsGathering, at_run, cell_off, first_next, gathering_begins, gathering_ends, gathering_on, gathering_over, index_there, interior_gathers, interior_over, last_next, last_over, leaf_gathers, leaf_over, leaf_sound, less_down, none_left, noted, refuses_then, run_back, sound_both, top_held, tree_got, tree_node}
use Rattle.spe_delete.proofs.collect.+below.Goals as goal

pub gather_below-returns-in-Err-clause-sees : goal.gather_below-returns-in-Err-clause-sees
gather_below-returns-in-Err-clause-sees g t c = λ pages height low high agrees less held.
    tree_got g.S.Pages c.below_law.ensures c.args.space.now c.see_node.new.space pages height low high c.args.page held (λ ready one. c.in-Err.ensures.shifts pages agrees ready one)

pub gather_below-returns-in-Err-clause-likely : goal.gather_below-returns-in-Err-clause-likely
gather_below-returns-in-Err-clause-likely g t c = λ pages height low high agrees less held.
    let node = tree_node (g.S.Pages.used c.args.space.now) (sight g.S.Pages c.args.space.now pages) height low high c.args.page held.tree in
    c.in-Err.ensures.likely pages agrees held.ready (top_held g.S.Pages c.below_law.ensures c.args.space.now pages height low high c.args.page held) node.node node.is

pub gather_below-returns-in_err-push-clause-sees : goal.gather_below-returns-in_err-push-clause-sees
gather_below-returns-in_err-push-clause-sees g t c = λ pages height low high agrees less held.
    tree_got g.S.Pages c.below_law.ensures c.args.space.now c.see_node.new.space pages height low high c.args.page held (λ ready one. c.in-Ok.ensures.shifts pages agrees ready one)

pub gather_below-returns-in_err-add_cells-in-TableLeaf-clause-sees : goal.gather_below-returns-in_err-add_cells-in-TableLeaf-clause-sees
gather_below-returns-in_err-add_cells-in-TableLeaf-clause-sees g t c = λ pages height low high agrees less held.
    tree_got g.S.Pages c.below_law.ensures c.args.space.now c.see_node.new.space pages height low high c.args.page held (λ ready one. c.in-Ok.ensures.shifts pages agrees ready one)

pub gather_below-returns-in_ok-add_cells-in-TableLeaf-clause-sees : goal.gather_below-returns-in_ok-add_cells-in-TableLeaf-clause-sees
gather_below-returns-in_ok-add_cells-in-TableLeaf-clause-sees g t c = λ pages height low high agrees less held.
    tree_got g.S.Pages c.below_law.ensures c.args.space.now c.see_node.new.space pages height low high c.args.page held (λ ready one. c.in-Ok.ensures.shifts pages agrees ready one)

pub gather_below-returns-in-IndexLeaf-clause-sees : goal.gather_below-returns-in-IndexLeaf-clause-sees
gather_below-returns-in-IndexLeaf-clause-sees g t c = λ pages height low high agrees less held.
    tree_got g.S.Pages c.below_law.ensures c.args.space.now c.see_node.new.space pages height low high c.args.page held (λ ready one. c.in-Ok.ensures.shifts pages agrees ready one)

pub gather_below-returns-in_ok-add_cells-in-TableLeaf-clause-gathers : goal.gather_below-returns-in_ok-add_cells-in-TableLeaf-clause-gathers
gather_below-returns-in_ok-add_cells-in-TableLeaf-clause-gathers g t c = λ fit pages height low high agrees less held.
    let old = c.args.leaves.now in
    let mid : Leaves = record { cells = c.args.leaves.now.cells; pages = c.push.new.self; left = c.args.leaves.now.left } in
    let first : Gains old mid [] (c.args.page ∷ []) = noted old mid c.args.page refl refl c.in_ok-push.ensures.items in
    leaf_gathers g.S.Pages c.args.space.now pages low high c.args.page c.in-Ok.node (c.in-Ok.ensures.node pages agrees) old mid c.add_cells.new.leaves height c.in-TableLeaf.is held.tree
    (c.in-Ok.ensures.inside pages agrees) first (c.in_ok-add_cells-in-TableLeaf.ensures.added fit)

pub gather_below-returns-in_ok-add_cells-in-TableLeaf-clause-over : goal.gather_below-returns-in_ok-add_cells-in-TableLeaf-clause-over
gather_below-returns-in_ok-add_cells-in-TableLeaf-clause-over g t c = λ over pages height low high agrees less held.
    let old = c.args.leaves.now in
    let mid : Leaves = record { cells = c.args.leaves.now.cells; pages = c.push.new.self; left = c.args.leaves.now.left } in
    let first : Gains old mid [] (c.args.page ∷ []) = noted old mid c.args.page refl refl c.in_ok-push.ensures.items in
    leaf_over g.S.Pages c.args.space.now pages low high c.args.page c.in-Ok.node (c.in-Ok.ensures.node pages agrees) old mid height c.in-TableLeaf.is held.tree first (c.in_ok-add_cells-in-TableLeaf.ensures.over over)

pub gather_below-returns-in_ok-add_cells-in-TableLeaf-clause-sound : goal.gather_below-returns-in_ok-add_cells-in-TableLeaf-clause-sound
gather_below-returns-in_ok-add_cells-in-TableLeaf-clause-sound g t c =
    let old = c.args.leaves.now in
    let mid : Leaves = record { cells = c.args.leaves.now.cells; pages = c.push.new.self; left = c.args.leaves.now.left } in
    let first : Gains old mid [] (c.args.page ∷ []) = noted old mid c.args.page refl refl c.in_ok-push.ensures.items in
    leaf_sound (g.S.Pages.used c.args.space.now) old mid c.add_cells.new.leaves c.args.page c.in-Ok.node c.in_ok-add_cells-in-TableLeaf.field-0 first c.in_ok-add_cells-in-TableLeaf.ensures.added c.in_ok-add_cells-in-TableLeaf.ensures.same c.in-Ok.ensures.writable c.in-TableLeaf.is

pub gather_below-returns-in-TableInterior-clause-gathers : goal.gather_below-returns-in-TableInterior-clause-gathers
gather_below-returns-in-TableInterior-clause-gathers g t c = IfOk-weaker c.gather_children.result _ _ (λ fit gathers true_ pages height low high agrees less held.
    let s = c.args.space.now in
    let a = c.see_node.new.space in
    let e = c.gather_children.new.space in
    let page = c.args.page in
    let node = c.in-Ok.node in
    let agrees_a = c.gather_children.ensures.reads.earlier pages agrees in
    let run = run_with c.as_slice.result.now node.right in
    let run_is : run ≡ run_with node.cells node.right = ap (λ (cs : List Cell). run_with cs node.right) c.as_slice.ensures in
    let is = c.in-Ok.ensures.node pages agrees_a in
    let seen = tree_got g.S.Pages c.below_law.ensures s a pages height low high page held (λ ready one. c.in-Ok.ensures.shifts pages agrees_a ready one) in
    let old = c.args.leaves.now in
    let mid : Leaves = record { cells = c.args.leaves.now.cells; pages = c.push.new.self; left = c.args.leaves.now.left } in
    let first : Gains old mid [] (c.args.page ∷ []) = noted old mid c.args.page refl refl c.in_ok-push.ensures.items in
    at_run g.S.Pages c.below_law.ensures s a pages low high page node run (λ h. GathersTree g.S.Pages s pages h page old c.gather_children.new.leaves) height is c.in-TableInterior.is run_is held c.in-Ok.ensures.reads seen
    (λ h height_is (down : IsAtRun g.S.Pages s a pages h low high page run).
    let below : GathersRun g.S.Pages a pages h run mid c.gather_children.new.leaves = gathers true_ pages h low high agrees (less_down height h c.args.levels height_is less) down.held in
    interior_gathers g.S.Pages s pages low high page node is old mid c.gather_children.new.leaves h (c.in-Ok.ensures.inside pages agrees_a) first
    (run_back g.S.Pages s a pages h run node mid c.gather_children.new.leaves c.in-Ok.ensures.reads run_is below))) c.gather_children.ensures.gathers

pub gather_below-returns-in-TableInterior-clause-over : goal.gather_below-returns-in-TableInterior-clause-over
gather_below-returns-in-TableInterior-clause-over g t c = IfOk-weaker c.gather_children.result _ _ (λ fit over false_ pages height low high agrees less held.
    let s = c.args.space.now in
    let a = c.see_node.new.space in
    let e = c.gather_children.new.space in
    let page = c.args.page in
    let node = c.in-Ok.node in
    let agrees_a = c.gather_children.ensures.reads.earlier pages agrees in
    let run = run_with c.as_slice.result.now node.right in
    let run_is : run ≡ run_with node.cells node.right = ap (λ (cs : List Cell). run_with cs node.right) c.as_slice.ensures in
    let is = c.in-Ok.ensures.node pages agrees_a in
    let seen = tree_got g.S.Pages c.below_law.ensures s a pages height low high page held (λ ready one. c.in-Ok.ensures.shifts pages agrees_a ready one) in
    let old = c.args.leaves.now in
    let mid : Leaves = record { cells = c.args.leaves.now.cells; pages = c.push.new.self; left = c.args.leaves.now.left } in
    let first : Gains old mid [] (c.args.page ∷ []) = noted old mid c.args.page refl refl c.in_ok-push.ensures.items in
    at_run g.S.Pages c.below_law.ensures s a pages low high page node run (λ h. old.left < need TableLeaf (cells_under (g.S.Pages.used s) (sight g.S.Pages s pages) h page)) height is c.in-TableInterior.is run_is held c.in-Ok.ensures.reads seen
    (λ h height_is (down : IsAtRun g.S.Pages s a pages h low high page run).
    let below = over false_ pages h low high agrees (less_down height h c.args.levels height_is less) down.held in
    interior_over g.S.Pages s pages low high page node is old mid h first
    (subst (λ (r : Run). mid.left < need TableLeaf (cells_below (g.S.Pages.used s) (sight g.S.Pages s pages) h r)) run_is
    (was_so g.S.Pages s a pages (λ v q. mid.left < need TableLeaf (cells_below v q h run)) c.in-Ok.ensures.reads below)))) c.gather_children.ensures.over

pub gather_below-returns-in-TableInterior-clause-sees : goal.gather_below-returns-in-TableInterior-clause-sees
gather_below-returns-in-TableInterior-clause-sees g t c = λ pages height low high agrees less held.
    let s = c.args.space.now in
    let a = c.see_node.new.space in
    let e = c.gather_children.new.space in
    let page = c.args.page in
    let node = c.in-Ok.node in
    let agrees_a = c.gather_children.ensures.reads.earlier pages agrees in
    let run = run_with c.as_slice.result.now node.right in
    let run_is : run ≡ run_with node.cells node.right = ap (λ (cs : List Cell). run_with cs node.right) c.as_slice.ensures in
    let is = c.in-Ok.ensures.node pages agrees_a in
    let seen = tree_got g.S.Pages c.below_law.ensures s a pages height low high page held (λ ready one. c.in-Ok.ensures.shifts pages agrees_a ready one) in
    at_run g.S.Pages c.below_law.ensures s a pages low high page node run (λ h. SeesTree g.S.Pages s e pages h page) height is c.in-TableInterior.is run_is held c.in-Ok.ensures.reads seen
    (λ h height_is (down : IsAtRun g.S.Pages s a pages h low high page run).
    down.up e (c.gather_children.ensures.sees pages h low high agrees (less_down height h c.args.levels height_is less) down.held))

pub gather_below-returns-in-TableInterior-clause-likely : goal.gather_below-returns-in-TableInterior-clause-likely
gather_below-returns-in-TableInterior-clause-likely g t c = λ pages height low high agrees less held.
    let s = c.args.space.now in
    let a = c.see_node.new.space in
    let e = c.gather_children.new.space in
    let page = c.args.page in
    let node = c.in-Ok.node in
    let agrees_a = c.gather_children.ensures.reads.earlier pages agrees in
    let run = run_with c.as_slice.result.now node.right in
    let run_is : run ≡ run_with node.cells node.right = ap (λ (cs : List Cell). run_with cs node.right) c.as_slice.ensures in
    let is = c.in-Ok.ensures.node pages agrees_a in
    let seen = tree_got g.S.Pages c.below_law.ensures s a pages height low high page held (λ ready one. c.in-Ok.ensures.shifts pages agrees_a ready one) in
    at_run g.S.Pages c.below_law.ensures s a pages low high page node run (λ h. IsLikelyOfTree g.S.Pages e pages c.gather_children.result) height is c.in-TableInterior.is run_is held c.in-Ok.ensures.reads seen
    (λ h height_is (down : IsAtRun g.S.Pages s a pages h low high page run).
    c.gather_children.ensures.likely pages h low high agrees (less_down height h c.args.levels height_is less) down.held)

pub gather_below-returns-in-IndexLeaf-clause-likely : goal.gather_below-returns-in-IndexLeaf-clause-likely
gather_below-returns-in-IndexLeaf-clause-likely g t c = λ pages height low high agrees less held.
    index_there (g.S.Pages.used c.args.space.now) (sight g.S.Pages c.args.space.now pages) height low high c.args.page c.in-Ok.node (c.in-Ok.ensures.node pages agrees) c.in-IndexLeaf.is held.tree

pub gather_children-children-init : goal.gather_children-children-init
gather_children-children-init g t c = record {
  reads = record {
    earlier = λ pages agrees. agrees;
    laid = refl;
    free = refl;
    stands = λ pages agrees stood. stood;
    told = refl;
    size = refl;
    used = refl;
    limit = refl;
    sealed = refl;
    count = omega arith;
  };
  refusal = refl;
  sound = record { writable = λ are. are; counted = refl };
  gathered = λ pages height low high agrees less held.
      gathering_begins g.S.Pages c.below_law.ensures c.args.space.now pages height low high (run_with c.args.cells.now c.args.right) c.args.leaves.now held;
}

pub gather_children-returns-in-Ok-false-clause-over : goal.gather_children-returns-in-Ok-false-clause-over
gather_children-returns-in-Ok-false-clause-over g t c = λ _ pages height low high agrees less held.
    let s = c.args.space.now in
    let a = c.children.space in
    let e = c.gather_below.new.space in
    let all = run_with c.args.cells.now c.args.right in
    let left = c.children.left.now in
    let cell = c.cell-item.result in
    let rest : List Cell = take (length left - 1) (drop 1 left) in
    let off : left ≡ cell ∷ rest = cell_off left cell c.in-len1-up.len_at_least c.cell-item.is in
    let reads = c.children.invariant.reads in
    let agrees_a = c.in-Ok-false.ensures.reads.earlier pages agrees in
    let was : IsGathering g.S.Pages s a pages height high all (run_with left c.args.right) c.args.leaves.now c.children.leaves = c.children.invariant.gathered pages height low high agrees_a less held in
    let is : IsGathering g.S.Pages s a pages height high all (run_with (cell ∷ rest) c.args.right) c.args.leaves.now c.children.leaves =
    subst (λ (cs : List Cell). IsGathering g.S.Pages s a pages height high all (run_with cs c.args.right) c.args.leaves.now c.children.leaves) off was in
    let next = first_next g.S.Pages c.below_law.ensures s a pages height low high all held reads cell rest c.args.right c.args.leaves.now c.children.leaves is in
    gathering_over g.S.Pages c.below_law.ensures s a pages height low high all held reads cell rest c.args.right c.args.leaves.now c.children.leaves is
    (c.in-Ok-false.ensures.over c.in-Ok-false.field-0-test pages height is.low (rank cell.key + 1) agrees less next.held)

pub gather_children-returns-in-Ok-false-clause-sees : goal.gather_children-returns-in-Ok-false-clause-sees
gather_children-returns-in-Ok-false-clause-sees g t c = λ pages height low high agrees less held.
    let s = c.args.space.now in
    let a = c.children.space in
    let e = c.gather_below.new.space in
    let all = run_with c.args.cells.now c.args.right in
    let left = c.children.left.now in
    let cell = c.cell-item.result in
    let rest : List Cell = take (length left - 1) (drop 1 left) in
    let off : left ≡ cell ∷ rest = cell_off left cell c.in-len1-up.len_at_least c.cell-item.is in
    let reads = c.children.invariant.reads in
    let agrees_a = c.in-Ok-false.ensures.reads.earlier pages agrees in
    let was : IsGathering g.S.Pages s a pages height high all (run_with left c.args.right) c.args.leaves.now c.children.leaves = c.children.invariant.gathered pages height low high agrees_a less held in
    let is : IsGathering g.S.Pages s a pages height high all (run_with (cell ∷ rest) c.args.right) c.args.leaves.now c.children.leaves =
    subst (λ (cs : List Cell). IsGathering g.S.Pages s a pages height high all (run_with cs c.args.right) c.args.leaves.now c.children.leaves) off was in
    let next = first_next g.S.Pages c.below_law.ensures s a pages height low high all held reads cell rest c.args.right c.args.leaves.now c.children.leaves is in
    next.up e (c.in-Ok-false.ensures.sees pages height is.low (rank cell.key + 1) agrees less next.held)

pub gather_children-returns-in-Ok-false-clause-sound : goal.gather_children-returns-in-Ok-false-clause-sound
gather_children-returns-in-Ok-false-clause-sound g t c =
    sound_both (g.S.Pages.used c.args.space.now) c.args.leaves.now c.children.leaves c.gather_below.new.leaves c.children.invariant.sound
    (subst (λ (u : ℕ). StaysSound u c.children.leaves c.gather_below.new.leaves) c.children.invariant.reads.used c.in-Ok-false.ensures.sound)

pub gather_children-returns-in-Ok-false-clause-reads : goal.gather_children-returns-in-Ok-false-clause-reads
gather_children-returns-in-Ok-false-clause-reads g t c = reads_both g.S.Pages c.args.space.now c.children.space c.gather_below.new.space c.children.invariant.reads c.in-Ok-false.ensures.reads

pub gather_children-returns-in-Ok-false-clause-refusal : goal.gather_children-returns-in-Ok-false-clause-refusal
gather_children-returns-in-Ok-false-clause-refusal g t c = c.in-Ok-false.ensures.refusal ∙ c.children.invariant.refusal

pub gather_children-returns-in-Err-clause-sees : goal.gather_children-returns-in-Err-clause-sees
gather_children-returns-in-Err-clause-sees g t c = λ pages height low high agrees less held.
    let s = c.args.space.now in
    let a = c.children.space in
    let e = c.gather_below.new.space in
    let all = run_with c.args.cells.now c.args.right in
    let left = c.children.left.now in
    let cell = c.cell-item.result in
    let rest : List Cell = take (length left - 1) (drop 1 left) in
    let off : left ≡ cell ∷ rest = cell_off left cell c.in-len1-up.len_at_least c.cell-item.is in
    let reads = c.children.invariant.reads in
    let agrees_a = c.in-Err.ensures.reads.earlier pages agrees in
    let was : IsGathering g.S.Pages s a pages height high all (run_with left c.args.right) c.args.leaves.now c.children.leaves = c.children.invariant.gathered pages height low high agrees_a less held in
    let is : IsGathering g.S.Pages s a pages height high all (run_with (cell ∷ rest) c.args.right) c.args.leaves.now c.children.leaves =
    subst (λ (cs : List Cell). IsGathering g.S.Pages s a pages height high all (run_with cs c.args.right) c.args.leaves.now c.children.leaves) off was in
    let next = first_next g.S.Pages c.below_law.ensures s a pages height low high all held reads cell rest c.args.right c.args.leaves.now c.children.leaves is in
    next.up e (c.in-Err.ensures.sees pages height is.low (rank cell.key + 1) agrees less next.held)

pub gather_children-returns-in-Err-clause-likely : goal.gather_children-returns-in-Err-clause-likely
gather_children-returns-in-Err-clause-likely g t c = λ pages height low high agrees less held.
    let s = c.args.space.now in
    let a = c.children.space in
    let e = c.gather_below.new.space in
    let all = run_with c.args.cells.now c.args.right in
    let left = c.children.left.now in
    let cell = c.cell-item.result in
    let rest : List Cell = take (length left - 1) (drop 1 left) in
    let off : left ≡ cell ∷ rest = cell_off left cell c.in-len1-up.len_at_least c.cell-item.is in
    let reads = c.children.invariant.reads in
    let agrees_a = c.in-Err.ensures.reads.earlier pages agrees in
    let was : IsGathering g.S.Pages s a pages height high all (run_with left c.args.right) c.args.leaves.now c.children.leaves = c.children.invariant.gathered pages height low high agrees_a less held in
    let is : IsGathering g.S.Pages s a pages height high all (run_with (cell ∷ rest) c.args.right) c.args.leaves.now c.children.leaves =
    subst (λ (cs : List Cell). IsGathering g.S.Pages s a pages height high all (run_with cs c.args.right) c.args.leaves.now c.children.leaves) off was in
    let next = first_next g.S.Pages c.below_law.ensures s a pages height low high all held reads cell rest c.args.right c.args.leaves.now c.children.leaves is in
    c.in-Err.ensures.likely pages height is.low (rank cell.key + 1) agrees less next.held

pub gather_children-returns-in-Err-clause-reads : goal.gather_children-returns-in-Err-clause-reads
gather_children-returns-in-Err-clause-reads g t c = reads_both g.S.Pages c.args.space.now c.children.space c.gather_below.new.space c.children.invariant.reads c.in-Err.ensures.reads

pub gather_children-returns-in-Err-clause-refusal : goal.gather_children-returns-in-Err-clause-refusal
gather_children-returns-in-Err-clause-refusal g t c = refuses_then {X = Bool} g.S.Pages c.args.space.now c.children.space c.gather_below.new.space (Err c.in-Err.fault) c.children.invariant.refusal c.in-Err.ensures.refusal

pub gather_children-children-preserved : goal.gather_children-children-preserved
gather_children-children-preserved g t c =
    let s = c.args.space.now in
    let a = c.children.space in
    let e = c.gather_below.new.space in
    let all = run_with c.args.cells.now c.args.right in
    let left = c.children.left.now in
    let cell = c.cell-item.result in
    let rest : List Cell = take (length left - 1) (drop 1 left) in
    let off : left ≡ cell ∷ rest = cell_off left cell c.in-len1-up.len_at_least c.cell-item.is in
    let reads = c.children.invariant.reads in
    record {
      reads = reads_both g.S.Pages s a e reads c.in-Ok-true.ensures.reads;
      refusal = c.in-Ok-true.ensures.refusal ∙ c.children.invariant.refusal;
      sound = sound_both (g.S.Pages.used c.args.space.now) c.args.leaves.now c.children.leaves c.gather_below.new.leaves c.children.invariant.sound
          (subst (λ (u : ℕ). StaysSound u c.children.leaves c.gather_below.new.leaves) c.children.invariant.reads.used c.in-Ok-true.ensures.sound);
      gathered = λ pages height low high agrees less held.
          let agrees_a = c.in-Ok-true.ensures.reads.earlier pages agrees in
          let was : IsGathering g.S.Pages s a pages height high all (run_with left c.args.right) c.args.leaves.now c.children.leaves = c.children.invariant.gathered pages height low high agrees_a less held in
          let is : IsGathering g.S.Pages s a pages height high all (run_with (cell ∷ rest) c.args.right) c.args.leaves.now c.children.leaves =
          subst (λ (cs : List Cell). IsGathering g.S.Pages s a pages height high all (run_with cs c.args.right) c.args.leaves.now c.children.leaves) off was in
          let next = first_next g.S.Pages c.below_law.ensures s a pages height low high all held reads cell rest c.args.right c.args.leaves.now c.children.leaves is in
          gathering_on g.S.Pages c.below_law.ensures s a pages height low high all held reads cell rest c.args.right c.args.leaves.now c.children.leaves is e c.gather_below.new.leaves
          (c.in-Ok-true.ensures.sees pages height is.low (rank cell.key + 1) agrees less next.held) (c.in-Ok-true.ensures.gathers c.in-Ok-true.field-0-test pages height is.low (rank cell.key + 1) agrees less next.held);
    }

pub gather_children-returns-clause-gathers : goal.gather_children-returns-clause-gathers
gather_children-returns-clause-gathers g t c = IfOk-weaker c.gather_below-2.result _ _ (λ fit gathers true_ pages height low high agrees less held.
    let s = c.args.space.now in
    let a = c.children.space in
    let e = c.gather_below-2.new.space in
    let all = run_with c.args.cells.now c.args.right in
    let left = c.children.left.now in
    let reads = c.children.invariant.reads in
    let agrees_a = c.gather_below-2.ensures.reads.earlier pages agrees in
    let was : IsGathering g.S.Pages s a pages height high all (run_with left c.args.right) c.args.leaves.now c.children.leaves = c.children.invariant.gathered pages height low high agrees_a less held in
    let is : IsGathering g.S.Pages s a pages height high all (run_with [] c.args.right) c.args.leaves.now c.children.leaves =
    subst (λ (cs : List Cell). IsGathering g.S.Pages s a pages height high all (run_with cs c.args.right) c.args.leaves.now c.children.leaves) (none_left left c.in_default.len_below) was in
    let next = last_next g.S.Pages c.below_law.ensures s a pages height low high all held reads c.args.right c.args.leaves.now c.children.leaves is in
    gathering_ends g.S.Pages c.below_law.ensures s a pages height low high all held reads c.args.right c.args.leaves.now c.children.leaves is c.gather_below-2.new.leaves (gathers true_ pages height is.low high agrees less next.held)) c.gather_below-2.ensures.gathers

pub gather_children-returns-clause-over : goal.gather_children-returns-clause-over
gather_children-returns-clause-over g t c = IfOk-weaker c.gather_below-2.result _ _ (λ fit over false_ pages height low high agrees less held.
    let s = c.args.space.now in
    let a = c.children.space in
    let e = c.gather_below-2.new.space in
    let all = run_with c.args.cells.now c.args.right in
    let left = c.children.left.now in
    let reads = c.children.invariant.reads in
    let agrees_a = c.gather_below-2.ensures.reads.earlier pages agrees in
    let was : IsGathering g.S.Pages s a pages height high all (run_with left c.args.right) c.args.leaves.now c.children.leaves = c.children.invariant.gathered pages height low high agrees_a less held in
    let is : IsGathering g.S.Pages s a pages height high all (run_with [] c.args.right) c.args.leaves.now c.children.leaves =
    subst (λ (cs : List Cell). IsGathering g.S.Pages s a pages height high all (run_with cs c.args.right) c.args.leaves.now c.children.leaves) (none_left left c.in_default.len_below) was in
    let next = last_next g.S.Pages c.below_law.ensures s a pages height low high all held reads c.args.right c.args.leaves.now c.children.leaves is in
    last_over g.S.Pages c.below_law.ensures s a pages height low high all held reads c.args.right c.args.leaves.now c.children.leaves is (over false_ pages height is.low high agrees less next.held)) c.gather_below-2.ensures.over

pub gather_children-returns-clause-sound : goal.gather_children-returns-clause-sound
gather_children-returns-clause-sound g t c = IfOk-weaker c.gather_below-2.result _ _ (λ fit sound.
    sound_both (g.S.Pages.used c.args.space.now) c.args.leaves.now c.children.leaves c.gather_below-2.new.leaves c.children.invariant.sound
    (subst (λ (u : ℕ). StaysSound u c.children.leaves c.gather_below-2.new.leaves) c.children.invariant.reads.used sound)) c.gather_below-2.ensures.sound

pub gather_children-returns-clause-sees : goal.gather_children-returns-clause-sees
gather_children-returns-clause-sees g t c = λ pages height low high agrees less held.
    let s = c.args.space.now in
    let a = c.children.space in
    let e = c.gather_below-2.new.space in
    let all = run_with c.args.cells.now c.args.right in
    let left = c.children.left.now in
    let reads = c.children.invariant.reads in
    let agrees_a = c.gather_below-2.ensures.reads.earlier pages agrees in
    let was : IsGathering g.S.Pages s a pages height high all (run_with left c.args.right) c.args.leaves.now c.children.leaves = c.children.invariant.gathered pages height low high agrees_a less held in
    let is : IsGathering g.S.Pages s a pages height high all (run_with [] c.args.right) c.args.leaves.now c.children.leaves =
    subst (λ (cs : List Cell). IsGathering g.S.Pages s a pages height high all (run_with cs c.args.right) c.args.leaves.now c.children.leaves) (none_left left c.in_default.len_below) was in
    let next = last_next g.S.Pages c.below_law.ensures s a pages height low high all held reads c.args.right c.args.leaves.now c.children.leaves is in
    next.up e (c.gather_below-2.ensures.sees pages height is.low high agrees less next.held)

pub gather_children-returns-clause-likely : goal.gather_children-returns-clause-likely
gather_children-returns-clause-likely g t c = λ pages height low high agrees less held.
    let s = c.args.space.now in
    let a = c.children.space in
    let e = c.gather_below-2.new.space in
    let all = run_with c.args.cells.now c.args.right in
    let left = c.children.left.now in
    let reads = c.children.invariant.reads in
    let agrees_a = c.gather_below-2.ensures.reads.earlier pages agrees in
    let was : IsGathering g.S.Pages s a pages height high all (run_with left c.args.right) c.args.leaves.now c.children.leaves = c.children.invariant.gathered pages height low high agrees_a less held in
    let is : IsGathering g.S.Pages s a pages height high all (run_with [] c.args.right) c.args.leaves.now c.children.leaves =
    subst (λ (cs : List Cell). IsGathering g.S.Pages s a pages height high all (run_with cs c.args.right) c.args.leaves.now c.children.leaves) (none_left left c.in_default.len_below) was in
    let next = last_next g.S.Pages c.below_law.ensures s a pages height low high all held reads c.args.right c.args.leaves.now c.children.leaves is in
    c.gather_below-2.ensures.likely pages height is.low high agrees less next.held

pub gather_children-returns-clause-reads : goal.gather_children-returns-clause-reads
gather_children-returns-clause-reads g t c = reads_both g.S.Pages c.args.space.now c.children.space c.gather_below-2.new.space c.children.invariant.reads c.gather_below-2.ensures.reads

pub gather_children-returns-clause-refusal : goal.gather_children-returns-clause-refusal
gather_children-returns-clause-refusal g t c = refuses_then g.S.Pages c.args.space.now c.children.space c.gather_below-2.new.space c.gather_below-2.result c.children.invariant.refusal c.gather_below-2.ensures.refusal
