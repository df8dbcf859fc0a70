use Rattle.std.proofs.Common.{ℕ, List, not, ◌||◌, refl, ap, ◌∙◌}
use Rattle.spe_model.specs.Agree.{agree}
use Rattle.spe_catalog.specs.Names.{has_name}
use Rattle.spe_catalog.proofs.NamesLemmas.{found_is, has_more}
use Rattle.spe_catalog.proofs.names.NameSet.insert.Goals as goal

pub returns-clause-added : goal.returns-clause-added
returns-clause-added c =
    c.in_ok-insert.ensures.added ∙ ap not (found_is c.self.inside.folded c.args.name.now _ _ _ refl c.in_ok-folded.ensures.ok c.self.view_is)

pub returns-clause-has : goal.returns-clause-has
returns-clause-has c = λ other.
    has_more c.args.name.now c.self.inside.folded c.insert.new.self c.in_ok-folded.folded c.in_ok-folded.ensures.ok c.in_ok-insert.ensures.updates other
    ∙ ap (λ (names : List (List ℕ)). agree c.args.name.now other || has_name names other) c.self.view_is
