use Rattle.spe_convert.proofs.WholeLemmas.{may_after, part_after, part_none, whole_after}
use Rattle.spe_convert.proofs.releasing.release_pages.Goals as goal

pub returns-in-Err-clause-stops : goal.returns-in-Err-clause-stops
returns-in-Err-clause-stops g c =
    part_none c.recovered_pages.ensures.headed c.recovered_pages.ensures.whole c.args.found.now c.requires.limits (g.D.Disk.told c.args.disk.now) (g.D.Disk.told c.plan.new.disk) c.args.made
    c.in-Err.ensures.same

pub rewrite-requires-clause-may : goal.rewrite-requires-clause-may
rewrite-requires-clause-may g c =
    may_after c.recovered_pages.ensures.headed c.recovered_pages.ensures.whole c.args.found.now c.requires.limits (g.D.Disk.told c.args.disk.now) (g.D.Disk.told c.plan.new.disk) c.in-Ok.plan.0 c.in-Ok.plan.1
    c.in-Ok.ensures.same c.requires.rests c.in-Ok.ensures.plans

pub returns-in-Ok-rewrite-clause-whole : goal.returns-in-Ok-rewrite-clause-whole
returns-in-Ok-rewrite-clause-whole g c =
    whole_after c.recovered_pages.ensures.headed c.recovered_pages.ensures.whole c.args.found.now c.requires.limits (g.D.Disk.told c.args.disk.now) (g.D.Disk.told c.plan.new.disk) (g.D.Disk.told c.rewrite.new.disk) c.args.made
    c.in-Ok.plan.0 c.in-Ok.plan.1 c.in-Ok.ensures.same c.in-Ok.ensures.plans c.in-Ok-rewrite.ensures.made c.in-Ok-rewrite.ensures.rewritten

pub returns-in-Ok-rewrite-clause-stops : goal.returns-in-Ok-rewrite-clause-stops
returns-in-Ok-rewrite-clause-stops g c =
    part_after c.recovered_pages.ensures.headed c.recovered_pages.ensures.whole c.args.found.now c.requires.limits (g.D.Disk.told c.args.disk.now) (g.D.Disk.told c.plan.new.disk) (g.D.Disk.told c.rewrite.new.disk) c.args.made
    c.in-Ok.plan.0 c.in-Ok.plan.1 c.in-Ok.ensures.same c.in-Ok.ensures.plans c.in-Ok-rewrite.ensures.stops

pub returns-clause-stops : goal.returns-clause-stops
returns-clause-stops g c =
    part_after c.recovered_pages.ensures.headed c.recovered_pages.ensures.whole c.args.found.now c.requires.limits (g.D.Disk.told c.args.disk.now) (g.D.Disk.told c.plan.new.disk) (g.D.Disk.told c.rewrite.new.disk) c.args.made
    c.in-Ok.plan.0 c.in-Ok.plan.1 c.in-Ok.ensures.same c.in-Ok.ensures.plans c.in-Err-rewrite.ensures.stops
