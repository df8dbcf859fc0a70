use Rattle.std.proofs.Common.{rules, ◌≡◌, ◌∙◌, Some}
use Rattle.spe_model.specs.Trace.{History, present}
use Rattle.spe_room.specs.Held.{held_page}
use Rattle.spe_room.proofs.FoundLemmas.{held_at}
use Rattle.spe_room.proofs.disk_space.DiskSpace.read.Goals as goal

pub returns-in-Ok-clause-held : goal.returns-in-Ok-clause-held
returns-in-Ok-clause-held g c =
    let read : (h : History) → g.K.Origin.told ≡ Some h → held_page c.args.self.now.size (present h) c.args.page ≡ c.read_at.new.buf = search rules in
    λ h told. held_at c.args.self.now.size c.args.self.now.pages (present h) c.args.page c.requires.inside ∙ read h told
