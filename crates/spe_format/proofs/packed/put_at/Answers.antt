use Rattle.std.proofs.Common.{arith}
use Rattle.spe_format.proofs.PutLemmas.{put_is}
use Rattle.spe_format.proofs.packed.put_at.Goals as goal

pub returns : goal.returns
returns c = λ usable before after high is.
    put_is c.args.at usable c.args.slot c.args.size c.args.cell.now before after c.args.page.now c.move_offsets.new.page c.put_u16.new.page c.move_bytes.new.page c.put_cell.new.page c.put_zeros.new.page
    c.put_leaf_header.new.page high c.requires.size c.requires.room c.requires.within.end is (record {
      offsets = c.move_offsets.ensures;
      offset = c.put_u16.ensures;
      moved = c.move_bytes.ensures;
      put = c.put_cell.ensures;
      zeros = c.put_zeros.ensures;
      header = c.put_leaf_header.ensures;
    })
