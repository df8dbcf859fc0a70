use Rattle.std.proofs.Common.{ℕ, ◌+◌, ◌-◌, ◌*◌, ◌∙◌, ap, arith}
use Rattle.byteorder.specs.Endian.{big_bytes}
use Rattle.spe_format.specs.Canonical.{splice}
use Rattle.spe_format.proofs.MoveLemmas.{move_end, move_start, move_turn}
use Rattle.spe_format.proofs.packed.move_offsets.Goals as goal

pub loop-left-init : goal.loop-left-init
loop-left-init c = record { few = omega arith; moved = move_start c.args.page.now c.args.from c.args.count c.args.by }

pub loop-left-preserved : goal.loop-left-preserved
loop-left-preserved c =
    let old = c.loop-left.invariant in
    record {
      few = omega (arith, old.few);
      moved = move_turn c.args.page.now c.loop-left.page c.put_u16.new.page c.args.from c.loop-left.left (c.loop-left.left - 1) c.args.count c.args.by (omega (arith, c.loop-left-test.true)) old.few
          c.requires old.moved
          (c.put_u16.ensures ∙ ap (λ (n : ℕ). splice (c.args.from + 2 * (c.loop-left.left - 1) + 2) (big_bytes 2 n) c.loop-left.page)
          (c.saturating_sub-offset.ensures ∙ ap (λ (n : ℕ). n - c.args.by) (c.from.ensures ∙ c.u16_of.ensures)));
    }

pub returns : goal.returns
returns c = move_end _ c.args.page.now c.args.from c.loop-left.left c.args.count c.args.by (omega (arith, c.loop-left-test.false)) c.loop-left.invariant.moved
