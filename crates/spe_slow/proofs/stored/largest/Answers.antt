use Rattle.std.proofs.Common.{◌≡◌, ◌∙◌, sym, ap, rules, to_z, of_z, w64, to_z-of_z, refl, length}
use Rattle.std.specs.Prelude.{ℤ, Some}
use Rattle.spe_slow.proofs.OrderLemmas.{largest_last, largest_none}
use Rattle.spe_slow.proofs.stored.largest.Goals as goal

pub returns-in-Some : goal.returns-in-Some
returns-in-Some c =
    let same : to_z w64 (of_z w64 c.in-Some.rowid.now) ≡ c.in-Some.rowid.now = to_z-of_z {w = w64} {z = c.in-Some.rowid.now} (search rules) in
    ap (λ (n : ℤ). Some n) same ∙ sym (largest_last c.args.rows.now.entries (length c.args.rows.now.entries) (c.in-Some.rowid.now, c.in-Some.field-0-1.now) refl c.in-Some.ensures.last)

pub returns-in-None : goal.returns-in-None
returns-in-None c = largest_none c.args.rows.now.entries c.in-None.ensures.variant.1
