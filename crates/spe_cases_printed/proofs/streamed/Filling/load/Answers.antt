use Rattle.std.proofs.Common.{◌∙◌, ap}
use Rattle.spe_model.specs.Paging.{Given}
use Rattle.spe_cases_printed.proofs.streamed.Filling.load.Goals as goal

pub invariant_of-self : goal.invariant_of-self
invariant_of-self c =
    let before = c.args.self.now in
    record {
      sized = c.load.ensures.size ∙ before.sized;
      counted = c.load.ensures.count ∙ before.counted;
      fresh = λ n. ap (λ (seen : Given). seen n) c.load.ensures.seen ∙ before.fresh n;
      well = c.load.ensures.refusal ∙ before.well;
    }
