use Rattle.std.proofs.Common.{◌∙◌, ap, length, arith, length-append, [], unwrap_or}
use Rattle.std.specs.Option.{option_copied}
use Rattle.std.proofs.lemmas.List.Elements.{All-push}
use Rattle.spe_disk.specs.Log.{files_in, FileLiesIn}
use Rattle.spe_disk.proofs.LogLemmas.{file_kept, still_lie}
use Rattle.spe_disk.proofs.log.Log.of.Goals as goal

pub loop-file-preserved : goal.loop-file-preserved
loop-file-preserved c =
    let items = c.in_ok-push.ensures.items in
    let more = unwrap_or (option_copied c.bytes.result) [] in
    let is = c.in_ok-span.ensures.file ∙ c.bytes.ensures in
    record {
      same = ap (files_in c.keep.new.store.items) items ∙ file_kept c.loop-file.store.items more _ c.loop-file.firsts.items c.in_ok-span.span _ c.loop-file.file-index c.file-item.result c.in_ok-span.ensures.items is c.loop-file.invariant.lie
          c.loop-file.invariant.same c.loop-file-test.true c.file-item.is;
      count = grind (arith, length-append);
      lie = rw items (All-push (FileLiesIn (length c.keep.new.store.items)) c.loop-file.firsts.items c.in_ok-span.span (still_lie c.loop-file.store.items more _ c.loop-file.firsts.items c.in_ok-span.ensures.items c.loop-file.invariant.lie) c.in_ok-span.ensures.lies);
    }
