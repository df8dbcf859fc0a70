use Rattle.spe_convert.proofs.WholeLemmas.{IsMade, done_behind, part_behind, part_first, rests_told, sound_behind}
use Rattle.spe_convert.proofs.releasing.release.Goals as goal

pub returns-in_err-made-clause-stops : goal.returns-in_err-made-clause-stops
returns-in_err-made-clause-stops g c =
    part_first c.recovered_pages.ensures.headed c.recovered_pages.ensures.whole c.args.found.now c.requires.limits (g.D.Disk.told c.args.disk.now) (g.D.Disk.told c.make_journals.new.disk)
    (g.met.D.Disk.whole c.args.disk.now) c.in_err-made.ensures.stops

pub release_pages-requires-clause-rests : goal.release_pages-requires-clause-rests
release_pages-requires-clause-rests g c =
    let made : IsMade c.args.found.now (g.D.Disk.told c.args.disk.now) (g.D.Disk.told c.make_journals.new.disk) c.in_ok-made.made = record {
      adds = c.in_ok-made.ensures.made;
      counted_is = c.in_ok-made.ensures.counted;
      idle = c.in_ok-made.ensures.idle;
      stops = c.in_ok-made.ensures.stops;
      places = g.met.D.Disk.whole c.args.disk.now;
    } in
    rests_told c.recovered_pages.ensures.headed c.recovered_pages.ensures.whole c.args.found.now c.requires.limits (g.D.Disk.told c.args.disk.now) (g.D.Disk.told c.make_journals.new.disk) c.in_ok-made.made made c.requires.found

pub returns-clause-whole : goal.returns-clause-whole
returns-clause-whole g c =
    let made : IsMade c.args.found.now (g.D.Disk.told c.args.disk.now) (g.D.Disk.told c.make_journals.new.disk) c.in_ok-made.made = record {
      adds = c.in_ok-made.ensures.made;
      counted_is = c.in_ok-made.ensures.counted;
      idle = c.in_ok-made.ensures.idle;
      stops = c.in_ok-made.ensures.stops;
      places = g.met.D.Disk.whole c.args.disk.now;
    } in
    done_behind c.recovered_pages.ensures.headed c.recovered_pages.ensures.whole c.args.found.now c.requires.limits (g.D.Disk.told c.args.disk.now) (g.D.Disk.told c.make_journals.new.disk) (g.D.Disk.told c.release_pages.new.disk) c.in_ok-made.made c.release_pages.result made c.release_pages.ensures.whole

pub returns-clause-stops : goal.returns-clause-stops
returns-clause-stops g c =
    let made : IsMade c.args.found.now (g.D.Disk.told c.args.disk.now) (g.D.Disk.told c.make_journals.new.disk) c.in_ok-made.made = record {
      adds = c.in_ok-made.ensures.made;
      counted_is = c.in_ok-made.ensures.counted;
      idle = c.in_ok-made.ensures.idle;
      stops = c.in_ok-made.ensures.stops;
      places = g.met.D.Disk.whole c.args.disk.now;
    } in
    part_behind c.recovered_pages.ensures.headed c.recovered_pages.ensures.whole c.args.found.now c.requires.limits (g.D.Disk.told c.args.disk.now) (g.D.Disk.told c.make_journals.new.disk) (g.D.Disk.told c.release_pages.new.disk) c.in_ok-made.made made c.release_pages.ensures.stops

pub returns-clause-sound : goal.returns-clause-sound
returns-clause-sound g c =
    let made : IsMade c.args.found.now (g.D.Disk.told c.args.disk.now) (g.D.Disk.told c.make_journals.new.disk) c.in_ok-made.made = record {
      adds = c.in_ok-made.ensures.made;
      counted_is = c.in_ok-made.ensures.counted;
      idle = c.in_ok-made.ensures.idle;
      stops = c.in_ok-made.ensures.stops;
      places = g.met.D.Disk.whole c.args.disk.now;
    } in
    sound_behind c.recovered_pages.ensures.headed c.recovered_pages.ensures.whole c.args.found.now c.requires.limits (g.D.Disk.told c.args.disk.now) (g.D.Disk.told c.make_journals.new.disk) c.in_ok-made.made made c.release_pages.result c.release_pages.ensures.sound
