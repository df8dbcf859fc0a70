use Rattle.std.proofs.Common.{ℕ, refl, subst}
use Rattle.spe_model.specs.Walk.{index_marks, levels_at_leaf}
use Rattle.spe_check.specs.MetPages.{has_met}
use Rattle.spe_check.specs.Pages.{behind_read}
use Rattle.spe_check.specs.Tries.{Tries}
use Rattle.spe_check.proofs.TriesLemmas.{the_ok, the_err}
use Rattle.spe_check.proofs.objects.try_index.Goals as goal

pub returns-in-Ok-clause-tried : goal.returns-in-Ok-clause-tried
returns-in-Ok-clause-tried g c = λ usable pages shows holder is.
    let P : ℕ → Type 0 = λ n. Tries c.args.walk.now.met.pages (has_met c.args.walk.now.met) (has_met c.walk_index_from.new.walk.met)
    (behind_read (index_marks usable pages (levels_at_leaf usable pages n c.args.root) n holder c.args.root)) (the_ok ℕ 0) in
    (subst P c.tree_levels-levels.ensures (c.in-Ok.ensures.tried usable pages shows (levels_at_leaf usable pages c.tree_levels-levels.result c.args.root) holder is refl).0, refl)

pub returns-in-Err-clause-tried : goal.returns-in-Err-clause-tried
returns-in-Err-clause-tried g c = λ usable pages shows holder is.
    let P : ℕ → Type 0 = λ n. Tries c.args.walk.now.met.pages (has_met c.args.walk.now.met) (has_met c.walk_index_from.new.walk.met)
    (behind_read (index_marks usable pages (levels_at_leaf usable pages n c.args.root) n holder c.args.root)) (the_err ℕ c.in-Err.halt) in
    (subst P c.tree_levels-levels.ensures (c.in-Err.ensures.tried usable pages shows (levels_at_leaf usable pages c.tree_levels-levels.result c.args.root) holder is refl).0, tt)
