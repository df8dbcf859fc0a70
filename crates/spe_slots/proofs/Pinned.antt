-- What the store lists once it has cleared pins.
use Rattle.std.proofs.Common.{◌≡◌, ℕ, false, ap, ◌∙◌}
use Rattle.spe_slotrule.specs.declared.parts.StorePart.{StorePart}
use Rattle.spe_slotrule.specs.Rule.{pin_id, pin_lock, is_pinned}
use Rattle.spe_slotrule.specs.Pins.{unpinning}
use Rattle.spe_slotrule.proofs.Pairs.{left_pair}

module _ {E : Type 0} where
  pub none_read_pinned : (i k : ℕ) (s t : StorePart E) → t ≡ unpinning i k s → is_pinned i k t.read_pins ≡ false
  none_read_pinned i k s t is = ap (λ (x : StorePart E). is_pinned i k x.read_pins) is ∙ left_pair pin_id pin_lock i k s.read_pins

  pub none_write_pinned : (i k : ℕ) (s t : StorePart E) → t ≡ unpinning i k s → is_pinned i k t.write_pins ≡ false
  none_write_pinned i k s t is = ap (λ (x : StorePart E). is_pinned i k x.write_pins) is ∙ left_pair pin_id pin_lock i k s.write_pins
