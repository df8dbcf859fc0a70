use Rattle.std.proofs.Common.{◌≡◌, ◌∙◌, ap, take, min, length, arith, ℕ}
use Rattle.std.proofs.lemmas.List.{take_min}
use Rattle.spe_stored.proofs.bytes.front_of.Goals as goal

pub returns : goal.returns
returns c =
    let count : c.min.result ≡ min 100 (length c.args.page.now) = omega arith in
    c.split_at.ensures.front ∙ ap (λ (n : ℕ). take n c.args.page.now) count ∙ take_min 100 c.args.page.now
