use Rattle.std.proofs.Common.{ap}
use Rattle.std.specs.Prelude.{is_some}
use Rattle.spe_session.proofs.saving.save_page.Goals as goal

pub journal-requires-clause-may : goal.journal-requires-clause-may
journal-requires-clause-may g c = record {
  low = c.requires.inside.0;
  high = c.requires.inside.1;
  others = λ i other. ap is_some ((c.requires.alone i other).unsaved c.args.page);
  fresh = λ lacks. ap is_some (c.requires.unwritten c.args.page);
}
