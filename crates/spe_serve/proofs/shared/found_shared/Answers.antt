use Rattle.spe_serve.proofs.SharedLemmas.{asks_none, own_shared, shared_over}
use Rattle.spe_serve.proofs.shared.found_shared.Goals as goal

pub returns-clause-shared : goal.returns-clause-shared
returns-clause-shared g c =
    rw (c.shared_or_failure.ensures, c.requires.told)
    (shared_over g.K.Origin.told c.args.found.now c.args.node _ _ _ c.told_shared-read.result c.found_pages.ensures c.requires.limits c.requires.node
    c.new-space.ensures.size c.new-space.ensures.usable c.new-space.ensures.pages c.told_shared-read.ensures.shared
    (asks_none _ _ _ c.args.found.now.pages c.told_shared-read.result c.told_shared-read.ensures.kept c.new-space.ensures.pages c.told_shared-read.ensures.refusal c.into_disk-disk.ensures.missing))

pub shared_or_failure-requires : goal.shared_or_failure-requires
shared_or_failure-requires g c = record { own = own_shared _ _ _ c.told_shared-read.result c.told_shared-read.ensures.kept c.told_shared-read.ensures.refusal c.into_disk-disk.ensures.own }
