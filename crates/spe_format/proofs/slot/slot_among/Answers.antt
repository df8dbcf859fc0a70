use Rattle.std.proofs.Common.{◌≡◌, ◌+◌, ◌*◌, ◌-◌, ◌++◌, length, take, drop, arith, refl}
use Rattle.std.proofs.Math.Facts.{Fits-lt-pow}
use Rattle.byteorder.specs.Endian.{big_bytes}
use Rattle.spe_format.specs.Packed.{offset_bytes}
use Rattle.spe_format.proofs.SlotLemmas.{array_long, trail_start, trail_turn}
use Rattle.spe_format.proofs.SpelledLemmas.{behind_them, two_are}
use Rattle.spe_format.proofs.slot.slot_among.Goals as goal

pub loop-left-init : goal.loop-left-init
loop-left-init c = record { few = omega arith; within = omega arith; has = trail_start c.args.page.now c.args.array.now c.args.key }

pub loop-left-preserved : goal.loop-left-preserved
loop-left-preserved c =
    let page = c.args.page.now in
    let array = c.args.array.now in
    let left = c.loop-left.left.now in
    let has = c.loop-left.invariant.has in
    let rest = take (length left - 2) (drop 2 left) in
    let bytes = behind_them (offset_bytes (length page) (has.before ++ has.after)) array left (λ i. Fits-lt-pow (c.type_inv.array i)) has.offsets in
    let new = trail_turn page array left rest c.loop-left.last c.args.key c.from-begin.result c.in_ok-next.next c.loop-left.slot c.in_ok-slot.slot has c.in_ok-next.ensures c.in_ok-slot.ensures
    (two_are left rest c.from-begin.result bytes c.in-len2-up.len_at_least (omega (arith, c.from-begin.ensures, c.read_u16.ensures)) refl) in
    record {
      few = omega (arith, array_long page array rest c.in_ok-next.next c.args.key c.in_ok-slot.slot new, c.requires.few);
      within = omega (arith, new.trail.low);
      has = new;
    }

pub returns : goal.returns
returns c = record {
  last = c.loop-left.last;
  left = c.loop-left.left.now;
  few = omega (arith, c.in_default.len_below);
  has = c.loop-left.invariant.has;
}
