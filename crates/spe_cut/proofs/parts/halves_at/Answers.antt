use Rattle.std.proofs.Common.{◌≡◌, ℕ, List, ◌∷◌, ◌++◌, vec_len, ◌-◌, ◌∙◌, take, ap, arith, sym}
use Rattle.spe_model.specs.declared.page.Cell.{Cell}
use Rattle.spe_cut.proofs.LoopLemmas.{front_cut}
use Rattle.spe_cut.proofs.parts.halves_at.Goals as goal

pub returns : goal.returns
returns c =
    let cut = front_cut c.args.at c.args.cells.items c.split_off.new.self.items c.pop.new.self.items c.in_ok-high.high.items c.in-Some.middle
    c.in_ok-high.ensures.items c.in_ok-high.ensures.tail c.in-Some.ensures.items
    (c.in-Some.ensures.rest ∙ ap (λ (n : ℕ). take n c.split_off.new.self.items) (let e : vec_len c.split_off.new.self - 1 ≡ c.args.at = omega (arith, c.in_ok-high.ensures.len) in e)) in
    record {
      middle = c.in-Some.middle;
      low = c.halves_of.ensures.low ∙ cut.low;
      high = c.halves_of.ensures.high ∙ c.in_ok-high.ensures.tail;
      joined = cut.joined ∙ ap (λ (xs : List Cell). xs ++ (c.in-Some.middle ∷ c.in_ok-high.high.items)) (sym c.halves_of.ensures.low)
          ∙ ap (λ (ys : List Cell). c.halves_of.result.low ++ (c.in-Some.middle ∷ ys)) (sym c.halves_of.ensures.high);
      child = c.halves_of.ensures.child;
      key = c.halves_of.ensures.key;
      last = c.halves_of.ensures.last;
    }
