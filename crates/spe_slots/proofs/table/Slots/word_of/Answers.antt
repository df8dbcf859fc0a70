use Rattle.std.proofs.Common.{◌%◌, ap, ◌∙◌}
use Rattle.spe_slots.specs.Seats.{LockTable}
use Rattle.spe_slots.proofs.Masks.{masked}
use Rattle.spe_slots.proofs.table.Slots.word_of.Goals as goal

pub returns-clause-word : goal.returns-clause-word
returns-clause-word g c = masked c.self.inside.count c.args.page c.self.invariant.0.2 ∙ ap (λ (t : LockTable). c.args.page % t.count) c.self.view_is
