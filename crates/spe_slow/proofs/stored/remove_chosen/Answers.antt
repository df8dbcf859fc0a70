use Rattle.std.proofs.Common.{rules, tests, not}
use Rattle.std.proofs.lemmas.Map.Made.{filter_same_pairs}
use Rattle.spe_model.specs.Database.{Row}
use Rattle.spe_model.specs.Conditions.{is_chosen}
use Rattle.spe_slow.proofs.stored.remove_chosen.Goals as goal

pub returns : goal.returns
returns c = filter_same_pairs _ (λ (r : Row). not (is_chosen c.args.conds.now r.0)) _ (λ k v b w f' t. search (rules, tests)) c.args.rows.now.entries c.retain.new.self.entries c.retain.ensures.filtered
